use Rattle.std.proofs.Common.{◌≡◌, ◌∙◌, sym, ap, subst, List, ℕ, false, ◌++◌, ◌∷◌, []}
use Rattle.std.specs.Str.{chars}
use Rattle.std.proofs.lemmas.Bool.{ne_eqb}
use Rattle.standard.specs.Class.{class_of}
use Rattle.standard.specs.Entities.{begins_some, longest}
use Rattle.tokenizer.specs.Reference.{MeansIn, in_value, open_characters}
use Rattle.tokenizer.specs.Whole.{piece}
use Rattle.tokenizer.proofs.ValueLemmas.{means_before, read_as_is}
use Rattle.tokenizer.proofs.reference.open_reference_in_value.Goals as goal

pub returns-clause-means : goal.returns-clause-means
returns-clause-means c =
    let es = c.args.table.now in
    let text = c.args.text.now in
    let from = c.args.from in
    let name = c.in-Some.name in
    let e = c.in-Some.ensures in
    let cs = piece text from name.end in
    let found = longest cs es in
    let us = open_characters c.resolved_in_value.result in
    let is : us ≡ in_value cs found (class_of name.next) =
    c.resolved_in_value.ensures.stands_for found e.longest ∙ ap (λ (l : List ℕ). in_value (chars l) found c.class_of.result) c.range.ensures.value ∙ ap (in_value cs found) c.class_of.ensures in
    let stops : begins_some (cs ++ name.next ∷ []) es ≡ false = ap (λ (n : ℕ). begins_some (cs ++ n ∷ []) es) (sym (read_as_is name.next (ne_eqb name.next 13 c.if-name-eq13.false))) ∙ e.stops in
    subst (λ (n : ℕ). MeansIn es text from n us) (sym c.resolved_in_value.ensures.ends) (λ d first.
    let same : name.next ≡ d = e.next d first in
    means_before es cs us d e.held (ap (λ (n : ℕ). begins_some (cs ++ n ∷ []) es) (sym same) ∙ stops) (is ∙ ap (λ (n : ℕ). in_value cs found (class_of n)) same))
