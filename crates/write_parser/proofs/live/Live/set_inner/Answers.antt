use Rattle.std.proofs.Common.{◌≡◌, ℕ, None, Some, OnOk, Option, sym, ap, subst, ◌∙◌}
use Rattle.standard.specs.Tree.{find_id}
use Rattle.standard.specs.Fragment.{inner_set}
use Rattle.write_parser.specs.Steps.{HasSet}
use Rattle.doc_changes.specs.Logs.{with_more}
use Rattle.write_parser.specs.Made.{of_setting}
use Rattle.write_parser.proofs.MadeLemmas.{none-more}
use Rattle.write_parser.proofs.StatementLemmas.{if_ok, set-lacking}
use Rattle.write_parser.proofs.live.Live.set_inner.Goals as goal

pub returns-in-None-clause-does : goal.returns-in-None-clause-does
returns-in-None-clause-does c =
    let old = c.args.self.now in
    set-lacking c.args.table.now old.machine.open_state.quirks old (find_id old.doc.tree c.args.id.now) c.args.text.now (sym (c.find_id.ensures.found ∙ ap (find_id old.doc.tree) c.as_str.ensures) ∙ c.in-None.is)

pub returns-in-Some-clause-does : goal.returns-in-Some-clause-does
returns-in-Some-clause-does c =
    let old = c.args.self.now in
    let there : find_id old.doc.tree c.args.id.now ≡ Some c.in-Some.target = sym (c.find_id.ensures.found ∙ ap (find_id old.doc.tree) c.as_str.ensures) ∙ c.in-Some.is in
    if_ok c.fill.result _ _
    (λ did has. subst (λ (found : Option ℕ). HasSet (inner_set c.args.table.now old.machine.open_state.quirks old.doc.tree found c.args.text.now) old c.fill.new.self did) (sym there) has)
    c.fill.ensures.does

pub returns-in-None-clause-logged : goal.returns-in-None-clause-logged
returns-in-None-clause-logged c =
    let old = c.args.self.now in
    let there : find_id old.doc.tree c.args.id.now ≡ None = sym (c.find_id.ensures.found ∙ ap (find_id old.doc.tree) c.as_str.ensures) ∙ c.in-None.is in
    subst (λ (found : Option ℕ). c.args.log.now ≡ with_more (of_setting c.args.table.now old.machine.open_state.quirks old.doc.tree found c.args.text.now) c.args.log.now) (sym there)
    (none-more c.args.log.now)

pub returns-in-Some-clause-logged : goal.returns-in-Some-clause-logged
returns-in-Some-clause-logged c =
    let old = c.args.self.now in
    let there : find_id old.doc.tree c.args.id.now ≡ Some c.in-Some.target = sym (c.find_id.ensures.found ∙ ap (find_id old.doc.tree) c.as_str.ensures) ∙ c.in-Some.is in
    subst (λ (found : Option ℕ). OnOk c.fill.result (c.fill.new.log ≡ with_more (of_setting c.args.table.now old.machine.open_state.quirks old.doc.tree found c.args.text.now) c.args.log.now)) (sym there)
    c.fill.ensures.logged
