-- Operations that are done, or counted, one by one as they are read.
use Rattle.std.proofs.Common.{◌≡◌, ℕ, ◌+◌, List, [], ◌∷◌, ◌++◌, length, map, take, Some, sym, ap, ◌∙◌}
use Rattle.std.specs.Prelude.{slice_get}
use Rattle.std.proofs.lemmas.List.{length-append, length-map}
use Rattle.html_types.specs.Operations.{spelled, spelled_one}
use Rattle.html_types.specs.declared.operation.Op.{Op}
use Rattle.html_types.specs.declared.operation.Op.TheVariants.{Text}
use Rattle.html_types.specs.declared.operation.Place.{Place}
use Rattle.html_types.proofs.ListLemmas.{spelled-append}
use Rattle.standard.specs.Act.{Doc, acts}
use Rattle.op_exec.proofs.Lists.{take_read, acts-append}

spelled-turn : (all : List Op) (i : ℕ) (o : Op) → slice_get all i ≡ Some o → spelled (take (i + 1) all) ≡ spelled (take i all) ++ spelled_one o
spelled-turn all i o read = ap spelled (take_read all i o read) ∙ spelled-append (take i all) o

-- one more is done
pub one-done : (d e e' : Doc) (all : List Op) (i : ℕ) (o : Op) → e ≡ acts d (spelled (take i all)) → slice_get all i ≡ Some o → e' ≡ acts e (spelled_one o)
    → e' ≡ acts d (spelled (take (i + 1) all))
one-done d e e' all i o was read is =
    is
    ∙ ap (λ (x : Doc). acts x (spelled_one o)) was
    ∙ sym (acts-append d (spelled (take i all)) (spelled_one o))
    ∙ ap (acts d) (sym (spelled-turn all i o read))

-- one more is counted
pub one-counted : (n w m : ℕ) (all : List Op) (i : ℕ) (o : Op) → n ≡ length (spelled (take i all)) → slice_get all i ≡ Some o → w ≡ length (spelled_one o) → m ≡ n + w
    → m ≡ length (spelled (take (i + 1) all))
one-counted n w m all i o was read weighs is =
    is
    ∙ ap (λ k. k + w) was
    ∙ ap (λ k. length (spelled (take i all)) + k) weighs
    ∙ sym (length-append (spelled (take i all)) (spelled_one o))
    ∙ ap length (sym (spelled-turn all i o read))

-- the insertions of a text's characters
pub text-counted : (place : Place) (text : List ℕ) → length (spelled_one (Text place text)) ≡ length text
text-counted place text = length-map text (λ c. Text place (c ∷ []))
