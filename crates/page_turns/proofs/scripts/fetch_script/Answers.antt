use Rattle.std.proofs.Common.{◌∙◌, ◌∷◌, [], subst, IfOk}
use Rattle.outside.specs.Outside.{Begun}
use Rattle.outside.specs.declared.traits.Port.TheVariants as port
use Rattle.page_turns.specs.declared.scripts.TheConstants.{SCRIPT_LIMIT}
use Rattle.page_turns.specs.Given.{MayGive, given_of, ReadTo}
use Rattle.page_turns.specs.Scripts.{begun_once}
use Rattle.page_turns.proofs.FetchLemmas.{script-path}
use Rattle.page_turns.proofs.LineLemmas.{on_ok}
use Rattle.page_turns.proofs.scripts.fetch_script.Goals as goal

pub returns-clause-given : goal.returns-clause-given
returns-clause-given g c =
    let is = script-path c.as_str.result.now c.args.dir.now c.args.name.now c.utf8.name c.requires (c.as_str.ensures.value ∙ c.in_ok-path.ensures.ok) in
    subst (λ p. IfOk c.read_whole.result (λ fetch. MayGive SCRIPT_LIMIT port.Script p (g.F.Outside.seen c.args.files.now) (g.F.Outside.seen c.read_whole.new.files) (given_of fetch))) is c.read_whole.ensures.given

pub returns-clause-begun : goal.returns-clause-begun
returns-clause-begun g c =
    let before = g.F.Outside.seen c.args.files.now in
    let after = g.F.Outside.seen c.read_whole.new.files in
    let is = script-path c.as_str.result.now c.args.dir.now c.args.name.now c.utf8.name c.requires (c.as_str.ensures.value ∙ c.in_ok-path.ensures.ok) in
    on_ok c.read_whole.result _ (subst (λ p. Begun (before.begun port.Script) (after.begun port.Script) (p ∷ [])) is c.read_whole.ensures.begun)

pub returns-clause-begins : goal.returns-clause-begins
returns-clause-begins g c =
    let before = g.F.Outside.seen c.args.files.now in
    let after = g.F.Outside.seen c.read_whole.new.files in
    let is = script-path c.as_str.result.now c.args.dir.now c.args.name.now c.utf8.name c.requires (c.as_str.ensures.value ∙ c.in_ok-path.ensures.ok) in
    begun_once (subst (λ p. Begun (before.begun port.Script) (after.begun port.Script) (p ∷ [])) is c.read_whole.ensures.begun)
    (subst (λ p. ReadTo SCRIPT_LIMIT port.Script p before after) is c.read_whole.ensures.no_further) c.read_whole.ensures.within
