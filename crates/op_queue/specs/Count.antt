-- The count of a lane: its one word is how many values were put, as the one seat knows that counts them.
use Rattle.std.specs.Prelude.{◌≡◌, ℕ, Bool, true, List, [], ◌∷◌, ◌++◌}
use mathlib.Core.Option.{some}
use lib.ListN.{get_elem?}
use Rattle.atomic_table.specs.Table.{State, Me, Step}
use Rattle.atomic_table.specs.declared.shared.Seat.{Seat}
use Rattle.atomic_table.specs.declared.owned.Table.{Table}
use Rattle.op_queue.specs.declared.count.Tally.{Tally}

abbrev pub tally : Bool → ℕ → List ℕ → Tally
tally counts put looks = record { counts = counts; put = put; looks = looks }

module _ {S : Type 0} where
  abbrev pub IsCounted : State S Tally → Type 0
  IsCounted s = (n : ℕ) × (counter : ℕ) × (s.words ≡ n ∷ []) × ((seat : ℕ) (v : Tally) → get_elem? s.views seat ≡ some v → v.counts ≡ true → (seat ≡ counter) × (v.put ≡ n))

  -- the seat has counted one more
  abbrev pub Counts : Step S → Me S Tally → ℕ → Me S Tally → Type 0
  Counts st m found m' = m' ≡ (tally m.0.counts found m.0.looks, m.1)

  -- the seat has looked at the word at this step
  abbrev pub Looks : Step S → Me S Tally → ℕ → Me S Tally → Type 0
  Looks st m found m' = m' ≡ (tally m.0.counts m.0.put (m.0.looks ++ found ∷ []), m.1)

-- it is a seat of this count, and no slot is out with it
abbrev pub IsTellerOf : {S K P A : Type 0} → Table S Tally K P A → Seat S Tally → Type 0
IsTellerOf c t = (t.table_id ≡ c.shared.table_id) × (t.me.1 ≡ []) × (c.shared.table_id.words ≡ 1)
