use Rattle.std.proofs.Common.{◌∙◌, sym, ap, subst, refl}
use Rattle.std.specs.Str.{chars}
use Rattle.outside.specs.declared.traits.Port.TheVariants as port
use Rattle.core_steps.specs.Fetches.{fetched_of}
use Rattle.core_steps.specs.Sides.{awaiting}
use Rattle.page_turns.specs.declared.scripts.TheConstants.{SCRIPT_LIMIT}
use Rattle.page_turns.specs.Given.{MayGive, given_of}
use Rattle.page_turns.specs.Scripts.{Met, path_of, folder_with}
use Rattle.page_turns.specs.Turns.{Arrives}
use Rattle.page_turns.proofs.LineLemmas.{on_err, ok_weaker, err_weaker}
use Rattle.page_turns.proofs.MeetLemmas.{may_meet, unfailed}
use Rattle.page_turns.proofs.AlongLemmas.{stays_spent}
use Rattle.page_turns.proofs.page.fetch_named.Goals as goal

pub returns-in_err-fetch-clause-begins : goal.returns-in_err-fetch-clause-begins
returns-in_err-fetch-clause-begins g c = (chars c.as_str.result.now, c.requires.awaits ∙ ap awaiting (sym c.as_str.ensures), c.fetch_script.ensures.begins)

pub returns-clause-arrives : goal.returns-clause-arrives
returns-clause-arrives g c =
    let before = g.F.Outside.seen c.args.files.now in
    let after = g.F.Outside.seen c.fetch_script.new.files in
    let given : MayGive SCRIPT_LIMIT port.Script (path_of c.args.dir.now c.args.name) before after (given_of c.in_ok-fetch.fetch) =
    subst (λ n. MayGive SCRIPT_LIMIT port.Script (path_of c.args.dir.now n) before after (given_of c.in_ok-fetch.fetch)) c.as_str.ensures c.in_ok-fetch.ensures.given in
    ok_weaker c.arrive.result _ ((met : Met) → Arrives (folder_with c.args.dir.now met) before after c.args.doc.now c.arrive.new.self) (λ is met. record {
      name = c.args.name;
      fetch = fetched_of c.in_ok-fetch.fetch;
      awaits = c.requires.awaits;
      given = may_meet (folder_with c.args.dir.now met) before after c.args.name SCRIPT_LIMIT c.in_ok-fetch.fetch refl given;
      faults = unfailed SCRIPT_LIMIT (path_of c.args.dir.now c.args.name) before after c.in_ok-fetch.fetch given;
      arrived = is;
    }) c.arrive.ensures.arrived

pub returns-clause-begins : goal.returns-clause-begins
returns-clause-begins g c = (chars c.as_str.result.now, c.requires.awaits ∙ ap awaiting (sym c.as_str.ensures), c.fetch_script.ensures.begins)

pub returns-in_err-fetch-clause-stays : goal.returns-in_err-fetch-clause-stays
returns-in_err-fetch-clause-stays g c = on_err _ _ refl

pub returns-clause-stays : goal.returns-clause-stays
returns-clause-stays g c = err_weaker _ _ _ (λ is. stays_spent c.args.doc.now c.arrive.new.self is) c.arrive.ensures.err
