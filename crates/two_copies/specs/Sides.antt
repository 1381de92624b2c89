-- The rule of the table, and what each step tells.
-- A reader's stage is 0 where no handle has it, 1 outside, 2 inside with no part, and k + 3 with its part of side k.
use Rattle.std.specs.Prelude.{◌≡◌, ◌≢◌, ◌⊎◌, ℕ, ◌+◌, ◌-◌, ◌*◌, ◌%◌, ◌<◌, ◌≤◌, List, [], ◌∷◌, ◌++◌, map, length, slice_index, Option, Some, None}
use mathlib.Core.Option.{some}
use mathlib.Core.Option as maybe
use lib.ListN.{get_elem?}
use Rattle.atomic_table.specs.Table.{State, Me, Step}
use Rattle.atomic_table.specs.Seated.{TableId}
use Rattle.atomic_table.specs.declared.shared.Seat.{Seat}
use Rattle.two_copies.specs.declared.part.Part.{Part}
use Rattle.two_copies.specs.declared.board.Plan.{Plan}
use Rattle.two_copies.specs.declared.board.Doing.{Doing}
use Rattle.two_copies.specs.declared.board.Role.{Role}
use Rattle.two_copies.specs.declared.board.Role.TheVariants.{Idle, Out, In, Holds, Writer}

pub record ReaderOk {T : Type 0} (p : Plan T) (words : List ℕ) (homes : List (maybe.Option (Option (Part T)))) (r stage : ℕ) : Type 0 where
  pub free : stage ≡ 0 → slice_index words (16 * r + 17) ≡ 0
  pub taken : 0 < stage → slice_index words (16 * r + 17) ≡ 1
  pub outside : stage < 2 → slice_index words (16 * r + 16) % 2 ≡ 0
  pub inside : 2 ≤ stage → slice_index words (16 * r + 16) % 2 ≡ 1
  pub side : 3 ≤ stage → stage ≢ p.off + 3 → (stage ≡ p.side + 3) × (p.side < 2)
  pub shown : p.side < 2 → stage ≢ p.side + 3 → get_elem? homes (8 * r + p.side) ≡ some (some (Some p.shown))
  pub late : stage ≡ p.off + 3 → (r < p.left) × (r + 1 ≢ p.hand) × (r < length p.last → slice_index words (16 * r + 16) ≡ slice_index p.last r)
  pub old : r + 1 ≢ p.hand → stage ≢ p.off + 3 → r < p.left → get_elem? homes (8 * r + p.off) ≡ some (some (Some p.spare))
  pub new : r + 1 ≢ p.hand → r < p.filled → get_elem? homes (8 * r + p.off) ≡ some (some (Some p.spare))
  pub empty : r + 1 ≢ p.hand → p.filled ≤ r → p.left ≤ r → get_elem? homes (8 * r + p.off) ≡ some (some None)
  pub unused : p.fresh ≡ 1 → get_elem? homes (8 * r + 1) ≡ some (some None)

module _ {T : Type 0} (p : Plan T) (n writer : ℕ) (stage owner : ℕ → ℕ) (seat : ℕ) where
  abbrev pub Knows : Role T → Type 0
  Knows Idle = Unit {0}
  Knows (Out r) = (r < n) × (stage r ≡ 1) × (owner r ≡ seat)
  Knows (In r) = (r < n) × (stage r ≡ 2) × (owner r ≡ seat)
  Knows (Holds r k u) = (r < n) × (stage r ≡ k + 3) × (owner r ≡ seat) × (k ≡ p.off → u ≡ p.spare) × (k ≢ p.off → u ≡ p.shown)
  Knows (Writer q) = (q ≡ p) × (seat ≡ writer)

abbrev pub client : {T V : Type 0} → Doing T V → V
client d = d.client

pub record Sided {T V : Type 0} (holds : T → List V → Type 0) (s : State (Option (Part T)) (Doing T V)) : Type 0 where
  pub n : ℕ
  pub plan : Plan T
  pub writer : ℕ
  pub stage : ℕ → ℕ
  pub owner : ℕ → ℕ
  pub wide : length s.words ≡ 16 * n + 16
  pub deep : length s.homes ≡ 8 * n
  pub side_is : slice_index s.words 0 ≡ plan.side
  pub sides : (plan.off < 2) × (plan.side ≢ plan.off) × (plan.side < 3) × (plan.fresh ≡ 1 → (plan.side ≡ 2) × (plan.off ≡ 0))
  pub each_reader : (r : ℕ) → r < n → ReaderOk plan s.words s.homes r (stage r)
  pub each_seat : (j : ℕ) (d : Doing T V) → get_elem? s.views j ≡ some d → Knows plan n writer stage owner j d.role
  pub kept : holds plan.shown.value (map client s.views)

-- two words for each slot, and a line for the side
abbrev pub IsSized : TableId → Type 0
IsSized z = (z.words ≡ 2 * z.slots + 16) × (z.slots < 1099511627776)

abbrev Sat : Type 0 → Type 0 → Type 0
Sat T V = Me (Option (Part T)) (Doing T V)

abbrev At : Type 0 → Type 0
At T = Step (Option (Part T))

module _ {T : Type 0} where
  abbrev pub first_plan : Part T → Plan T
  first_plan u = record { side = 2; off = 0; left = 0; filled = 0; hand = 0; fresh = 1; last = []; shown = u; spare = u }

  abbrev pub plan_or : Plan T → Role T → Plan T
  plan_or d (Writer p) = p
  plan_or d _ = d

  -- one part of what u is a part of
  abbrev pub unit : Part T → Part T
  unit u = record u { count = 1 }

  -- the plan between two calls of the writer, with the epochs and the spare part of p
  abbrev pub resting : ℕ → ℕ → Part T → Plan T → Plan T
  resting side left shown p = record { side = side; off = 1 - side; left = left; filled = 0; hand = 0; fresh = 0; last = p.last; shown = unit shown; spare = p.spare }

  -- the plan after a change of side, among n readers
  abbrev pub flipped : ℕ → ℕ → Plan T → Plan T
  flipped n to p = record { side = to; off = p.side; left = n; filled = 0; hand = 0; fresh = 0; last = []; shown = p.spare; spare = p.shown }

  abbrev pub closed : ℕ → Plan T → Plan T
  closed n p = record { side = 2; off = p.side; left = n; filled = 0; hand = 0; fresh = 0; last = []; shown = p.shown; spare = p.shown }

  -- the epoch e shows that the last reader which may have had its part has left
  abbrev pub Gone : Plan T → ℕ → Type 0
  Gone p e = (e ≢ slice_index p.last (p.left - 1)) ⊎ (slice_index p.last (p.left - 1) % 2 ≡ 0)

  abbrev pub opened : Plan T → Plan T
  opened p = record { side = 0; off = 1; left = 0; filled = 0; hand = 0; fresh = 0; last = []; shown = p.spare; spare = p.spare }

module _ {T V : Type 0} where
  abbrev pub doing : Role T → V → Doing T V
  doing role v = record { role = role; client = v }

  abbrev pub starting : Part T → V → Doing T V
  starting u v = doing (Writer (first_plan u)) v

  -- what the caller's rule sees of a seat
  abbrev pub view : Seat (Option (Part T)) (Doing T V) → V
  view s = s.me.0.client

  -- the seat with this role, and these slots in hand
  abbrev pub posed : Seat (Option (Part T)) (Doing T V) → Role T → List (ℕ × Option (Part T)) → Seat (Option (Part T)) (Doing T V)
  posed s role carried = record s { me = (doing role s.me.0.client, carried) }

  abbrev pub IsSameSeat : Seat (Option (Part T)) (Doing T V) → Seat (Option (Part T)) (Doing T V) → Type 0
  IsSameSeat s t = (t.table_id ≡ s.table_id) × (t.id ≡ s.id) × (view t ≡ view s)

  -- the seat is the writer's, with this plan and no slot in hand
  abbrev pub IsPlanned : Seat (Option (Part T)) (Doing T V) → Plan T → Type 0
  IsPlanned s p = (s.me.0.role ≡ Writer p) × (s.me.1 ≡ [])

  -- the plan of the writer's seat: u stands in where the seat is another's
  abbrev pub plan_of : Seat (Option (Part T)) (Doing T V) → Part T → Plan T
  plan_of s u = plan_or (first_plan u) s.me.0.role

  abbrev pub IsSameView : Sat T V → Sat T V → Type 0
  IsSameView m m' = m'.0.client ≡ m.0.client

  abbrev pub sat : At T → Sat T V → ℕ → Sat T V → Type 0
  sat st m r m' = m'.0 ≡ doing Idle m.0.client

  abbrev pub claimed : At T → Sat T V → ℕ → Sat T V → Type 0
  claimed st m e m' = IsSameView m m' × (m'.1 ≡ m.1) × (e ≡ 0 → (r : ℕ) → st.word ≡ 16 * r + 17 → m'.0.role ≡ Out r) × (e ≢ 0 → m'.0.role ≡ Idle)

  abbrev pub entered : At T → Sat T V → ℕ → Sat T V → Type 0
  entered st m e m' = IsSameView m m' × (m'.1 ≡ m.1) × ((r : ℕ) → m.0.role ≡ Out r → m'.0.role ≡ In r)

  abbrev pub looked : (V → T → T → V → Type 0) → At T → Sat T V → ℕ → Sat T V → Type 0
  looked then st m k m' = (r : ℕ) → m.0.role ≡ In r
      → (k < 2 → (u : Part T) × (m'.0.role ≡ Holds r k u) × (m'.1 ≡ (8 * r + k, Some u) ∷ m.1) × then m.0.client u.value u.value m'.0.client) × (2 ≤ k → m' ≡ m)

  abbrev pub backed_out : At T → Sat T V → ℕ → Sat T V → Type 0
  backed_out st m e m' = IsSameView m m' × (m'.1 ≡ m.1) × ((r : ℕ) → m.0.role ≡ In r → m'.0.role ≡ Out r)

  abbrev pub left : At T → Sat T V → ℕ → Sat T V → Type 0
  left st m e m' = IsSameView m m' × (m'.1 ≡ []) × ((r k : ℕ) (u : Part T) → m.0.role ≡ Holds r k u → m'.0.role ≡ Out r)

  -- the writer's plan goes from p to some p' that `next` allows
  abbrev pub Plans : Sat T V → Sat T V → (Plan T → Plan T → Type 0) → Type 0
  Plans m m' next = (p : Plan T) → m.0.role ≡ Writer p → (p' : Plan T) × (m'.0.role ≡ Writer p') × next p p'

  abbrev pub recorded : At T → Sat T V → ℕ → Sat T V → Type 0
  recorded st m e m' = IsSameView m m' × (m'.1 ≡ []) × Plans m m' (λ p p'. p' ≡ record p { last = p.last ++ e ∷ [] })

  abbrev pub gathered : At T → Sat T V → ℕ → Sat T V → Type 0
  gathered st m e m' = IsSameView m m' × Plans m m' (λ p p'.
      (Gone p e → (p' ≡ record p { hand = p.left }) × (m'.1 ≡ (8 * (p.left - 1) + p.off, Some p.spare) ∷ [])) × (¬ Gone p e → m' ≡ m))

  abbrev pub emptied : At T → Sat T V → ℕ → Sat T V → Type 0
  emptied st m e m' = IsSameView m m' × (m'.1 ≡ []) × Plans m m' (λ p p'. p' ≡ record p { left = p.left - 1; hand = 0 })

  abbrev pub reached : At T → Sat T V → ℕ → Sat T V → Type 0
  reached st m e m' = IsSameView m m' × Plans m m' (λ p p'. (p' ≡ record p { hand = p.filled + 1 }) × (m'.1 ≡ (8 * p.filled + p.off, None) ∷ []))

  abbrev pub filled : At T → Sat T V → ℕ → Sat T V → Type 0
  filled st m e m' = IsSameView m m' × (m'.1 ≡ [])
      × Plans m m' (λ p p'. (i : ℕ) (u : Part T) → m.1 ≡ (i, Some u) ∷ [] → p' ≡ record p { filled = p.filled + 1; hand = 0; spare = u })

  abbrev pub turned : (V → T → T → V → Type 0) → At T → Sat T V → ℕ → Sat T V → Type 0
  turned then st m e m' = (m'.1 ≡ []) × Plans m m' (λ p p'. (p' ≡ flipped p.filled p.off p) × then m.0.client p.shown.value p.spare.value m'.0.client)

  abbrev pub began : At T → Sat T V → ℕ → Sat T V → Type 0
  began st m e m' = IsSameView m m' × (m'.1 ≡ []) × Plans m m' (λ p p'. p' ≡ opened p)

  abbrev pub ended : At T → Sat T V → ℕ → Sat T V → Type 0
  ended st m e m' = IsSameView m m' × (m'.1 ≡ []) × Plans m m' (λ p p'. (n : ℕ) → st.slots ≡ 8 * n → p' ≡ closed n p)
