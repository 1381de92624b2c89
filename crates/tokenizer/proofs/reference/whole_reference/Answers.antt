use Rattle.std.proofs.Common.{◌≡◌, false, ℕ, List, ap, subst}
use Rattle.std.specs.Str.{chars}
use Rattle.entity_table.specs.View.{characters_in}
use Rattle.tokenizer.specs.Reference.{Refers, Means}
use Rattle.tokenizer.specs.Whole.{has_cr}
use Rattle.tokenizer.proofs.ReferenceLemmas.{is_found, refers, means, name-cr}
use Rattle.tokenizer.proofs.reference.whole_reference.Goals as goal

pub returns-then-found-clause-refers : goal.returns-then-found-clause-refers
returns-then-found-clause-refers c =
    let es = c.args.table.now in
    let cs = chars c.range.result.now in
    let m = c.in-Some-find.found in
    let e = c.in-Some-find.ensures in
    let is = is_found es cs m e.found e.named c.if-found.true c.names_end_at_semicolons.ensures in
    subst (λ (l : List ℕ). Refers es l (characters_in m.characters)) (ap chars c.range.ensures.value) (refers es cs m is.held is.stops e.longest is.whole c.if-found.true)

pub returns-then-found-clause-means : goal.returns-then-found-clause-means
returns-then-found-clause-means c =
    let es = c.args.table.now in
    let cs = chars c.range.result.now in
    let m = c.in-Some-find.found in
    let e = c.in-Some-find.ensures in
    let is = is_found es cs m e.found e.named c.if-found.true c.names_end_at_semicolons.ensures in
    subst (λ (l : List ℕ). Means es l (characters_in m.characters)) (ap chars c.range.ensures.value) (means es cs m is.held is.stops e.longest is.whole c.if-found.true)

pub returns-then-found-clause-no_cr : goal.returns-then-found-clause-no_cr
returns-then-found-clause-no_cr c =
    subst (λ (l : List ℕ). has_cr l ≡ false) (ap chars c.range.ensures.value) (name-cr (chars c.range.result.now) c.in-Some-find.ensures.named)
