use Rattle.std.proofs.Common.{◌≡◌, ℕ, Option, None, Some, sym, ap, ◌∙◌, subst}
use Rattle.standard.specs.Tree.{find_id}
use Rattle.doc_changes.specs.Logs.{with_more}
use Rattle.write_parser.specs.Made.{of_removal}
use Rattle.write_parser.proofs.MadeLemmas.{none-more}
use Rattle.write_parser.proofs.live.Live.remove.Goals as goal

pub returns-in-None-clause-logged : goal.returns-in-None-clause-logged
returns-in-None-clause-logged c =
    let tree = c.args.self.now.doc.tree in
    let there : find_id tree c.args.id.now ≡ None = sym (c.find_id.ensures.found ∙ ap (find_id tree) c.as_str.ensures) ∙ c.in-None.is in
    subst (λ (f : Option ℕ). c.args.log.now ≡ with_more (of_removal f) c.args.log.now) (sym there) (none-more c.args.log.now)

pub returns-in_ok-remove-in-Some-clause-logged : goal.returns-in_ok-remove-in-Some-clause-logged
returns-in_ok-remove-in-Some-clause-logged c =
    let tree = c.args.self.now.doc.tree in
    let there : find_id tree c.args.id.now ≡ Some c.in-Some.node = sym (c.find_id.ensures.found ∙ ap (find_id tree) c.as_str.ensures) ∙ c.in-Some.is in
    c.in_ok-remove-in-Some.ensures.adds ∙ ap (λ (f : Option ℕ). with_more (of_removal f) c.args.log.now) (sym there)
