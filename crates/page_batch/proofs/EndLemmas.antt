-- What is written of a page whose parse is over.
use Rattle.std.proofs.Common.{◌≡◌, ℕ, false, List, [], ◌++◌, sym, ap, subst, ◌∙◌}
use Rattle.standard.specs.Act.{Doc}
use Rattle.standard.specs.Entities.{Entities}
use Rattle.serial.specs.Serial.{Result}
use Rattle.serial.specs.Output.{result_with}
use Rattle.core_definitions.specs.Core.{Core}
use Rattle.core_definitions.specs.Desk.{done}
use Rattle.core_definitions.specs.Journal.{Journal}
use Rattle.std.specs.declared.snapshot.Snapshot.{Snapshot}
use Rattle.core_pair.specs.Interleaving.{EndsInEach}
use Rattle.core_pair.specs.Pairs.{Paired}
use Rattle.page_turns.specs.Pages.{PageRead}
use Rattle.page_batch.specs.Parts.{end_number}
use Rattle.page_batch.specs.Going.{GoesBy, IsGoing, Settled}
use Rattle.page_batch.proofs.GoingLemmas.{none-of, still-going, settles}

pub settles-part : {es : Entities} {read : PageRead} (old new : Paired) (t u last whole : List ℕ) (doc : Doc) (r : Result) (number : ℕ) → IsGoing es read old t → GoesBy [] old new t u → EndsInEach new → old.core.desk.phase ≡ done r → new.core ≡ old.core
    → new.core.desk.own.side.lines ≡ new.given → (new.spent ≡ false → doc ≡ new.core.desk.own.side.doc) → last ≡ result_with false r doc.tree → number ≡ end_number r → whole ≡ u ++ last → Settled es read old.journal.fetches number whole
settles-part {es = es} {read = read} old new t u last whole doc r number h goes ends phase core lines shown is count text =
    let now : IsGoing es read new u = still-going [] old new t u goes h in
    let fetches : new.journal.fetches ≡ old.journal.fetches = goes.fetches ∙ ap (λ m. m ++ old.journal.fetches) (none-of goes.met goes.known) in
    let tree : last ≡ result_with false r new.core.desk.own.side.doc.tree = is ∙ ap (λ (d : Doc). result_with false r d.tree) (shown now.of.going) in
    let settled : Settled es read new.journal.fetches (end_number r) (u ++ last) = settles new u last r now ends (ap (λ (k : Core). k.desk.phase) core ∙ phase) lines tree in
    subst (λ m. Settled es read m number whole) fetches
    (subst (λ n. Settled es read new.journal.fetches n whole) (sym count) (subst (λ x. Settled es read new.journal.fetches (end_number r) x) (sym text) settled))

-- the journal is kept, whose fetches stay
pub used-same : (old new : Paired) (t u : List ℕ) (s : Snapshot Journal) (j : Journal) → GoesBy [] old new t u → s.value ≡ j → j ≡ new.journal → s.value.fetches ≡ old.journal.fetches
used-same old new t u s j goes value is = ap (λ (k : Journal). k.fetches) (value ∙ is) ∙ (goes.fetches ∙ ap (λ m. m ++ old.journal.fetches) (none-of goes.met goes.known))
