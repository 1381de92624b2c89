use Rattle.std.proofs.Common.{◌≡◌, ◌∙◌, sym, ap, subst, ℕ, true, ◌∷◌, []}
use Rattle.std.specs.Str.{chars}
use Rattle.standard.specs.Class.{class_of}
use Rattle.tokenizer.specs.Reference.{MeansIn, leaves_ampersand, open_characters}
use Rattle.tokenizer.proofs.OpenLemmas.{first_is}
use Rattle.tokenizer.proofs.ValueLemmas.{lone_means, MeansBefore-same}
use Rattle.tokenizer.proofs.reference.lone_ampersand.Goals as goal

pub returns-then-leaves_ampersand-clause-means : goal.returns-then-leaves_ampersand-clause-means
returns-then-leaves_ampersand-clause-means c = λ es.
    let text = c.args.text.now in
    let end = c.in-Some.end in
    let next = c.in-Some-char_at in
    let us = open_characters c.as_written.result in
    let is : us ≡ 38 ∷ [] = c.as_written.ensures.stands_for ∙ ap chars c.range.ensures.value ∙ c.in-Some.ensures.read in
    subst (λ (n : ℕ). MeansIn es text c.args.from n us) (sym c.as_written.ensures.ends) (λ d first.
    let same : next.c ≡ d = first_is text end next.field-0-1 next.c d c.utf8.text c.in-Some.ensures.boundary next.ensures.boundary next.ensures.read first in
    let leaves : leaves_ampersand (class_of d) ≡ true =
    ap (λ (n : ℕ). leaves_ampersand (class_of n)) (sym same) ∙ ap leaves_ampersand (sym c.class_of.ensures) ∙ sym c.leaves_ampersand.ensures ∙ c.if-leaves_ampersand.true in
    MeansBefore-same es d c.in-Some.ensures.read is (lone_means es d leaves))
