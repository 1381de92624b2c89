-- A reply is dropped only under an epoch that a failed script ended.
use Rattle.std.proofs.Common.{◌≡◌, ◌≤◌, ◌<◌, ℕ, zero, suc, ◌+◌, ◌-◌, nat_lt, Bool, true, false, List, [], ◌∷◌, ◌++◌, length, Option, Some, None, refl, sym, ◌∙◌, ap, subst, inl, inr, length-append, arith}
use Rattle.std.specs.Prelude.{◌⊎◌, IsTrue, slice_get, if◌then◌else◌}
use Rattle.std.proofs.lemmas.Option.{slice_get_within}
use Rattle.html_types.specs.declared.operation.NodeId.{NodeId}
use Rattle.html_types.specs.declared.instruction.Stop.TheVariants as stop
use Rattle.standard.specs.Entities.{Entities}
use Rattle.standard.specs.Parser.{Parser}
use Rattle.serial.specs.Serial.{World, Serial, prepared, Moment, reading, tag_ended, awaits, over}
use Rattle.core_definitions.specs.declared.event.Event.{Event}
use Rattle.core_definitions.specs.declared.event.Event.TheVariants.{Send, Pick, Give, Take, Do, Arrive}
use Rattle.core_definitions.specs.declared.verdict.Verdict.{Verdict}
use Rattle.core_definitions.specs.declared.verdict.Verdict.TheVariants.{Keep, Rewind}
use Rattle.core_definitions.specs.Batches.{Piece, Batch, Halt, at, over_with}
use Rattle.core_definitions.specs.Core.{Setup, Request}
use Rattle.core_definitions.specs.Verdict.{runs}
use Rattle.core_definitions.specs.Desk.{Phase, free, tagged, waits, done, Desk, first_desk, pieces_with, outstanding, stale, sends_first, with_batches, drops, answer_called_for, takes, at_end_tag, behind_halt, with_executed, executes, decided, Concludes, DoesIn, Moves, MovesBy}
use Rattle.core_laws.specs.DeskLaws.{IsReached}
use Rattle.core_laws.proofs.Standing.{failures-are-epochs}
use Rattle.run_laws.specs.Along.{MovesWith, HoldsAlong, IsForFirst, SendsOf, IsOver, DropsOver}
use Rattle.run_laws.specs.RunLaws.{DropsAreOver}

-- an event more
moves-then : (ahead : ℕ) (w : World) (vs : List Event) (v : Event) (a b c : Desk) → MovesBy ahead w vs a b → Moves ahead w v b c → MovesBy ahead w (vs ++ v ∷ []) a c
moves-then ahead w [] v a b c is step = (c, subst (λ d. Moves ahead w v d c) is step, refl)
moves-then ahead w (u ∷ us) v a b c (d, first, rest) step = (d, first, moves-then ahead w us v d b c rest step)

-- ---- what Do makes of the epoch

-- The epoch goes on, or it ends, and what it asked is asked no more.
data Ages (d d' : Desk) : Type 0 where
  goes_on : d'.sent ≡ d.sent → d'.taken ≡ d.taken → d'.epoch ≡ d.epoch → d'.asked ≡ d.asked → Ages d d'
  ends : d'.sent ≡ d.sent → d'.taken ≡ d.taken → d'.epoch ≡ suc d.epoch → d'.asked ≡ [] → Ages d d'

tag-ages : (d0 d : Desk) (i : NodeId) (run : Bool) → Ages d0 d → Ages d0 (at_end_tag run i d)
tag-ages d0 d i true (goes_on a b c e) = goes_on a b c e
tag-ages d0 d i true (ends a b c e) = ends a b c e
tag-ages d0 d i false h = h

phase-ages : (d0 d : Desk) (p : Phase) → Ages d0 d → Ages d0 (record d { phase = p })
phase-ages d0 d p (goes_on a b c e) = goes_on a b c e
phase-ages d0 d p (ends a b c e) = ends a b c e

halt-ages : (d0 d : Desk) (h : Halt) → Ages d0 d → Ages d0 (behind_halt h d)
halt-ages d0 d (at stop.InputEnd) h = h
halt-ages d0 d (at (stop.Script i)) h = tag-ages d0 d i (runs (prepared i d.own)) h
halt-ages d0 d (at stop.Deep) h = phase-ages d0 d _ h
halt-ages d0 d (over_with w) h = phase-ages d0 d _ h

executes-ages : (bs : List Batch) (d : Desk) → Ages d (executes bs d)
executes-ages [] d = goes_on refl refl refl refl
executes-ages (b ∷ bs) d = halt-ages d (with_executed b bs d) b.halt (goes_on refl refl refl refl)

decided-ages : (c : Verdict) (held : Parser) (s : Serial) (d : Desk) → Ages d (decided c held s d)
decided-ages Keep held s d = goes_on refl refl refl refl
decided-ages Rewind held s d = ends refl refl refl refl

concluded-ages : (held : Parser) (m : Moment) (d d' : Desk) → Concludes held m d d' → Ages d d'
concluded-ages held (reading s) d d' (c, verdict, is) = subst (Ages d) (sym is) (decided-ages c held s d)
concluded-ages held (tag_ended i s) d d' is = absurd is
concluded-ages held (awaits name s) d d' is = subst (Ages d) (sym is) (goes_on refl refl refl refl)
concluded-ages held (over o) d d' is = subst (Ages d) (sym is) (goes_on refl refl refl refl)

does-ages : (w : World) (p : Phase) (d d' : Desk) → DoesIn w p d d' → Ages d d'
does-ages w free d d' is = subst (Ages d) (sym is) (executes-ages d.hand d)
does-ages w (tagged i held) d d' (m, settles, c) = concluded-ages held m d d' c
does-ages w (waits name held) d d' (m, settles, c) = concluded-ages held m d d' c
does-ages w (done r) d d' is = absurd is

-- ---- the epochs of the requests

some-same : {A : Type 0} (a b : A) → Some a ≡ Some b → a ≡ b
some-same a b e = cc e

module _ (rs : List Request) where
  -- The requests sent are of this epoch or of one before it; those whose replies weren't taken and that this epoch doesn't ask, of one before.
  record Aged (d : Desk) : Type 0 where
    within : d.sent ≤ length rs
    asked : length d.asked + d.taken ≤ d.sent
    known : (k : ℕ) (r : Request) → k < d.sent → slice_get rs k ≡ Some r → r.epoch ≤ d.epoch
    older : (k : ℕ) (r : Request) → d.taken ≤ k → k + length d.asked < d.sent → slice_get rs k ≡ Some r → r.epoch < d.epoch

  sent-aged : (ps : List Piece) (d : Desk) (q : Request) → slice_get rs d.sent ≡ Some q → IsForFirst ps d q → Aged d → Aged (sends_first ps d)
  sent-aged [] d q place for h = absurd for
  sent-aged (x ∷ xs) d q place for h = record {
    within = slice_get_within rs d.sent q place;
    asked = let longer = length-append d.asked (x ∷ []) in let was = h.asked in omega (arith, longer, was);
    known = known;
    older = λ k r from to there. let longer = length-append d.asked (x ∷ []) in h.older k r from (omega (arith, longer, to)) there;
  }
    where
      known : (k : ℕ) (r : Request) → k < suc d.sent → slice_get rs k ≡ Some r → r.epoch ≤ d.epoch
      known k r less there = by (nat_lt k d.sent) refl
        where
          by : (b : Bool) → nat_lt k d.sent ≡ b → r.epoch ≤ d.epoch
          by true is = h.known k r (grind (arith, is)) there
          by false is =
              let same : k ≡ d.sent = grind (arith, is, less) in
              let found : r ≡ q = some-same r q (sym there ∙ (ap (slice_get rs) same ∙ place)) in
              let epoch : r.epoch ≡ d.epoch = ap (λ (z : Request). z.epoch) found ∙ ap (λ (z : Request). z.epoch) for in
              omega (arith, epoch)

  took-aged : (es : Entities) (d : Desk) → Aged d → Aged (takes es d)
  took-aged es d h = by (nat_lt 0 (stale d)) refl
    where
      first : (ps : List Piece) → d.asked ≡ ps → nat_lt 0 (stale d) ≡ false → Aged (with_batches (answer_called_for es d ps) ps d)
      first [] q none = h
      first (x ∷ xs) q none =
          let one : length d.asked ≡ suc (length xs) = ap length q in
          let was = h.asked in
          let all : d.sent ≤ d.taken + suc (length xs) = grind (arith, one, none) in
          record {
            within = h.within;
            asked = omega (arith, one, was);
            known = h.known;
            older = λ k r from to there. absurd (omega (arith, all, from, to));
          }

      by : (b : Bool) → nat_lt 0 (stale d) ≡ b → Aged (if b then drops d else with_batches (answer_called_for es d d.asked) d.asked d)
      by true more =
          let was = h.asked in
          let some : length d.asked + suc d.taken ≤ d.sent = grind (arith, more, was) in
          record {
            within = h.within;
            asked = some;
            known = h.known;
            older = λ k r from to there. h.older k r (omega (arith, from)) to there;
          }
      by false none = first d.asked refl none

  did-aged : (d d' : Desk) → Ages d d' → Aged d → Aged d'
  did-aged d d' (goes_on sent taken epoch asked) h =
      let within_ = h.within in
      let asked_ = h.asked in
      let size : length d'.asked ≡ length d.asked = ap length asked in
      record {
        within = omega (arith, within_, sent);
        asked = omega (arith, asked_, sent, taken, size);
        known = λ k r less there. let le = h.known k r (omega (arith, less, sent)) there in omega (arith, le, epoch);
        older = λ k r from to there. let lt = h.older k r (omega (arith, from, taken)) (omega (arith, to, sent, size)) there in omega (arith, lt, epoch);
      }
  did-aged d d' (ends sent taken epoch asked) h =
      let within_ = h.within in
      let asked_ = h.asked in
      let size : length d'.asked ≡ 0 = ap length asked in
      record {
        within = omega (arith, within_, sent);
        asked = omega (arith, asked_, sent, taken, size);
        known = λ k r less there. let le = h.known k r (omega (arith, less, sent)) there in omega (arith, le, epoch);
        older = λ k r from to there. let le = h.known k r (omega (arith, to, sent, size)) there in omega (arith, le, epoch);
      }

  moved-aged : (ahead : ℕ) (w : World) (v : Event) (d d' : Desk) → SendsOf rs v d → Moves ahead w v d d' → Aged d → Aged d'
  moved-aged ahead w Send d d' (q, place, for) (can, is) h = subst Aged (sym is) (sent-aged d.to_send d q place for h)
  moved-aged ahead w Pick d d' s m h = absurd m
  moved-aged ahead w Give d d' s m h = absurd m
  moved-aged ahead w Take d d' s (can, is) h = subst Aged (sym is) (took-aged w.entities d h)
  moved-aged ahead w Do d d' s (can, does) h = did-aged d d' (does-ages w d.phase d d' does) h
  moved-aged ahead w (Arrive name) d d' s (can, is) h = subst Aged (sym is) (record { within = h.within; asked = h.asked; known = h.known; older = h.older })

  -- ---- along a run

  there : (k : ℕ) → k < length rs → (r : Request) × (slice_get rs k ≡ Some r)
  there k less = found rs k less
    where
      found : (xs : List Request) (k : ℕ) → k < length xs → (r : Request) × (slice_get xs k ≡ Some r)
      found [] k less = absurd (omega (arith, less))
      found (x ∷ xs) zero less = (x, refl)
      found (x ∷ xs) (suc k) less = found xs k (omega (arith, less))

  is-over : (x : Setup) (us : List Event) (d : Desk) → IsReached x us d → Aged d → 0 < stale d → IsOver x rs d
  is-over x us d reached h some =
      let was = h.within in
      let (r, place) = there d.taken (omega (arith, some, was)) in
      let (m, v, known, stands, epochs) = failures-are-epochs x us d reached in
      let less = h.older d.taken r (omega arith) (omega (arith, some)) place in
      record { request = r; at = place; moment = m; watch = v; known = known; failed = omega (arith, less, epochs) }

  one-over : (x : Setup) (us : List Event) (v : Event) (d : Desk) → IsReached x us d → Aged d → DropsOver rs x v d
  one-over x us Send d reached h = tt
  one-over x us Pick d reached h = tt
  one-over x us Give d reached h = tt
  one-over x us Take d reached h = λ some. is-over x us d reached h some
  one-over x us Do d reached h = tt
  one-over x us (Arrive name) d reached h = tt

  drops-with : (x : Setup) (us vs : List Event) (d d' : Desk) → IsReached x us d → Aged d → MovesWith (SendsOf rs) x.ahead x.world vs d d' → MovesWith (DropsOver rs x) x.ahead x.world vs d d'
  drops-with x us [] d d' reached h is = is
  drops-with x us (v ∷ vs) d d' reached h (d1, s, step, rest) = (
    d1,
    one-over x us v d reached h,
    step,
    drops-with x (us ++ v ∷ []) vs d1 d' (moves-then x.ahead x.world us v (first_desk (pieces_with x.pieces (Some x.ending))) d d1 reached step) (moved-aged x.ahead x.world v d d1 s step h) rest,
  )

  first-aged : (ps : List Piece) → Aged (first_desk ps)
  first-aged ps = record { within = omega arith; asked = omega arith; known = λ k r less there. absurd (omega (arith, less)); older = λ k r from to there. absurd (omega (arith, to)) }

pub drops-are_over : DropsAreOver
drops-are_over requests es ahead j sends x run =
    let (d, with) = sends x run in
    let pieces : List Piece = pieces_with x.pieces (Some x.ending) in
    (d, drops-with requests x [] j.events (first_desk pieces) d refl (first-aged requests pieces) with)
