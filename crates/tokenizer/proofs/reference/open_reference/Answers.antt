use Rattle.std.proofs.Common.{◌≡◌, ◌∙◌, sym, ap, subst, List, ℕ}
use Rattle.std.specs.Str.{chars}
use Rattle.standard.specs.Entities.{longest}
use Rattle.tokenizer.specs.Reference.{RefersIn, standing_for, open_characters}
use Rattle.tokenizer.specs.Whole.{piece}
use Rattle.tokenizer.proofs.OpenLemmas.{refers_in}
use Rattle.tokenizer.proofs.reference.open_reference.Goals as goal

pub returns-clause-refers : goal.returns-clause-refers
returns-clause-refers c =
    let es = c.args.table.now in
    let text = c.args.text.now in
    let from = c.args.from in
    let name = c.in-Some.name in
    let e = c.in-Some.ensures in
    let found = longest (piece text from name.end) es in
    let us = open_characters c.resolved.result in
    let is : us ≡ standing_for (piece text from name.end) found = c.resolved.ensures.stands_for found e.longest ∙ ap (λ (l : List ℕ). standing_for (chars l) found) c.range.ensures.value in
    subst (λ (n : ℕ). RefersIn es text from n us) (sym c.resolved.ensures.ends) (refers_in es text us from name.end name.next e.held e.stops is e.next)
