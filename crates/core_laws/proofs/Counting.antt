-- The numbers of requests and of dropped replies.
use Rattle.std.proofs.Common.{◌≡◌, ◌≤◌, ◌<◌, ℕ, suc, ◌+◌, ◌*◌, nat_lt, Bool, true, false, List, [], ◌∷◌, ◌++◌, length, drop, Option, Some, refl, subst, sym, ap, arith}
use Rattle.std.proofs.Math.Nat.{mul-suc}
use Rattle.std.proofs.lemmas.List.{length-append, drop_all}
use Rattle.std.proofs.lemmas.Bool.{and_parts}
use Rattle.std.specs.Prelude.{◌&&◌, is_none, if◌then◌else◌}
use Rattle.html_types.specs.declared.operation.NodeId.{NodeId}
use Rattle.html_types.specs.declared.instruction.Stop.TheVariants as stop
use Rattle.html_types.specs.declared.ending.Ending.{Ending}
use Rattle.standard.specs.Entities.{Entities}
use Rattle.standard.specs.Parser.{Parser}
use Rattle.serial.specs.Serial.{World, Serial, prepared, Moment, reading, tag_ended, awaits, over}
use Rattle.core_definitions.specs.declared.event.Event.{Event}
use Rattle.core_definitions.specs.declared.event.Event.TheVariants.{Send, Pick, Give, Take, Do, Arrive}
use Rattle.core_definitions.specs.declared.verdict.Verdict.{Verdict}
use Rattle.core_definitions.specs.declared.verdict.Verdict.TheVariants.{Keep, Rewind}
use Rattle.core_definitions.specs.Batches.{Piece, Batch, Halt, at, over_with}
use Rattle.core_definitions.specs.Verdict.{runs}
use Rattle.core_definitions.specs.Settling.{is_empty}
use Rattle.core_definitions.specs.Desk.{Phase, free, tagged, waits, done, Desk, first_desk, pieces_with, outstanding, stale, sends_first, with_batches, drops, answer_called_for, takes, at_end_tag, behind_halt, with_executed, executes, sent_again, decided, Concludes, DoesIn, Moves, MovesBy}

-- k: the pieces of the page, and its ending
pub record Counts (k ahead : ℕ) (d : Desk) : Type 0 where
  pub taken : length d.asked + d.taken ≤ d.sent
  pub credit : d.sent ≤ d.taken + ahead
  -- each epoch that is over drops at most `ahead` replies: those dropped, and those that are to be
  pub stale : d.dropped + d.sent + ahead ≤ ahead * d.epoch + d.taken + length d.asked
  -- each epoch sends each piece and the ending at most once
  pub room : length (sent_again (d.left ∷ d.asked)) + length d.to_send ≤ k
  pub sends : d.sent + length d.to_send ≤ k * d.epoch

-- ---- what isn't sent again

again-cons : (x : Piece) (xs : List Piece) → length (sent_again xs) ≤ length (sent_again (x ∷ xs))
again-cons x xs = by (is_empty x.text && is_none x.ending)
  where
    by : (b : Bool) → length (sent_again xs) ≤ length (if b then sent_again xs else x ∷ sent_again xs)
    by true = omega arith
    by false = omega arith

again-one : (x : Piece) → length (sent_again (x ∷ [])) ≤ 1
again-one x = by (is_empty x.text && is_none x.ending)
  where
    by : (b : Bool) → length (if b then [] else x ∷ []) ≤ 1
    by true = omega arith
    by false = omega arith

again-more : (xs : List Piece) (y : Piece) → length (sent_again (xs ++ y ∷ [])) ≤ length (sent_again xs) + 1
again-more [] y = again-one y
again-more (x ∷ xs) y = by (is_empty x.text && is_none x.ending) (again-more xs y)
  where
    by : (b : Bool) → length (sent_again (xs ++ y ∷ [])) ≤ length (sent_again xs) + 1 →
        length (if b then sent_again (xs ++ y ∷ []) else x ∷ sent_again (xs ++ y ∷ [])) ≤ length (if b then sent_again xs else x ∷ sent_again xs) + 1
    by true h = h
    by false h = omega (arith, h)

-- a piece of which some text was executed
again-less : (n : ℕ) (t : List ℕ) (o : Option Ending) (xs : List Piece) → length (sent_again (record { text = drop n t; ending = o } ∷ xs)) ≤ length (sent_again (record { text = t; ending = o } ∷ xs))
again-less n [] o xs = subst (λ s. length (sent_again (record { text = s; ending = o } ∷ xs)) ≤ length (sent_again (record { text = []; ending = o } ∷ xs))) (sym (drop_all n [] (omega arith))) (omega arith)
again-less n (c ∷ cs) o xs = by (is_empty (drop n (c ∷ cs)) && is_none o)
  where
    by : (b : Bool) → length (if b then sent_again xs else record { text = drop n (c ∷ cs); ending = o } ∷ sent_again xs) ≤ suc (length (sent_again xs))
    by true = omega arith
    by false = omega arith

-- ---- events

module _ (k ahead : ℕ) where
  abbrev Counted : Desk → Type 0
  Counted d = Counts k ahead d

  -- what isn't counted
  counts-with : (d : Desk) (p : Phase) (o : Serial) (h : List Batch) (l : Piece) (b : Option Parser) (m : ℕ) (n : List (List ℕ)) → length (sent_again (l ∷ d.asked)) ≤ length (sent_again (d.left ∷ d.asked)) →
      Counted d → Counted (record d { phase = p; own = o; hand = h; left = l; begins = b; realm = m; arrived = n })
  counts-with d p o h l b m n less c = record { taken = c.taken; credit = c.credit; stale = c.stale; room = omega (arith, c.room, less); sends = c.sends }

  sends-count : (d : Desk) (ps : List Piece) → d.to_send ≡ ps → nat_lt (outstanding d) ahead ≡ true → Counted d → Counted (sends_first ps d)
  sends-count d [] q credit c = c
  sends-count d (x ∷ xs) q credit c =
      let more : length (d.asked ++ x ∷ []) ≡ length d.asked + length (x ∷ []) = length-append d.asked (x ∷ []) in
      let fewer : length d.to_send ≡ suc (length xs) = ap (λ ps. length ps) q in
      let left : outstanding d < ahead = grind (arith, credit) in
      let again : length (sent_again (d.left ∷ (d.asked ++ x ∷ []))) ≤ length (sent_again (d.left ∷ d.asked)) + 1 = again-more (d.left ∷ d.asked) x in
      record {
        taken = omega (arith, c.taken, more);
        credit = omega (arith, c.credit, left);
        stale = omega (arith, c.stale, more);
        room = omega (arith, c.room, fewer, again);
        sends = omega (arith, c.sends, fewer);
      }

  drops-count : (d : Desk) → nat_lt 0 (stale d) ≡ true → Counted d → Counted (drops d)
  drops-count d some c =
      let older : 0 < stale d = grind (arith, some) in
      record { taken = omega (arith, c.taken, older); credit = omega (arith, c.credit); stale = omega (arith, c.stale); room = c.room; sends = c.sends }

  takes-count : (es : Entities) (d : Desk) (ps : List Piece) → d.asked ≡ ps → Counted d → Counted (with_batches (answer_called_for es d ps) ps d)
  takes-count es d [] q c = c
  takes-count es d (x ∷ xs) q c =
      let fewer : length d.asked ≡ suc (length xs) = ap (λ ps. length ps) q in
      let again : length (sent_again (x ∷ xs)) ≤ length (sent_again (d.left ∷ x ∷ xs)) = again-cons d.left (x ∷ xs) in
      let room : length (sent_again (d.left ∷ x ∷ xs)) + length d.to_send ≤ k = subst (λ ps. length (sent_again (d.left ∷ ps)) + length d.to_send ≤ k) q c.room in
      record { taken = omega (arith, c.taken, fewer); credit = omega (arith, c.credit); stale = omega (arith, c.stale, fewer); room = omega (arith, room, again); sends = c.sends }

  take-counts : (es : Entities) (d : Desk) → Counted d → Counted (takes es d)
  take-counts es d c = by (nat_lt 0 (stale d)) refl
    where
      by : (b : Bool) → nat_lt 0 (stale d) ≡ b → Counted (if b then drops d else with_batches (answer_called_for es d d.asked) d.asked d)
      by true q = drops-count d q c
      by false q = takes-count es d d.asked refl c

  same-left : (d : Desk) → length (sent_again (d.left ∷ d.asked)) ≤ length (sent_again (d.left ∷ d.asked))
  same-left d = omega arith

  tag-counts : (d : Desk) (i : NodeId) (run : Bool) → Counted d → Counted (at_end_tag run i d)
  tag-counts d i true c = counts-with d (tagged i d.own.parser) (at_end_tag true i d).own d.hand d.left d.begins (suc d.realm) d.arrived (same-left d) c
  tag-counts d i false c = c

  halt-counts : (h : Halt) (d : Desk) → Counted d → Counted (behind_halt h d)
  halt-counts (at stop.InputEnd) d c = c
  halt-counts (at (stop.Script i)) d c = tag-counts d i (runs (prepared i d.own)) c
  halt-counts (at stop.Deep) d c = counts-with d (behind_halt (at stop.Deep) d).phase d.own d.hand d.left d.begins d.realm d.arrived (same-left d) c
  halt-counts (over_with y) d c = counts-with d (behind_halt (over_with y) d).phase d.own d.hand d.left d.begins d.realm d.arrived (same-left d) c

  executes-count : (d : Desk) (bs : List Batch) → Counted d → Counted (executes bs d)
  executes-count d [] c = c
  executes-count d (b ∷ bs) c =
      halt-counts b.halt (with_executed b bs d)
      (counts-with d d.phase (with_executed b bs d).own bs (record d.left { text = drop (length b.text) d.left.text }) d.begins d.realm d.arrived (again-less (length b.text) d.left.text d.left.ending d.asked) c)

  decided-counts : (c : Verdict) (held : Parser) (s : Serial) (d : Desk) → Counted d → Counted (decided c held s d)
  decided-counts Keep held s d c = counts-with d free (record s { parser = held }) d.hand d.left d.begins d.realm d.arrived (same-left d) c
  decided-counts Rewind held s d c =
      let again : List Piece = sent_again (d.left ∷ d.asked) in
      let all : length (again ++ d.to_send) ≡ length again + length d.to_send = length-append again d.to_send in
      let more : ahead * suc d.epoch ≡ ahead * d.epoch + ahead = mul-suc ahead d.epoch in
      let each : k * suc d.epoch ≡ k * d.epoch + k = mul-suc k d.epoch in
      record {
        taken = omega (arith, c.taken);
        credit = c.credit;
        stale = omega (arith, c.stale, c.taken, c.credit, more);
        room = omega (arith, c.room, all);
        sends = omega (arith, c.sends, c.room, all, each);
      }

  concludes-count : (held : Parser) (m : Moment) (d d' : Desk) → Counted d → Concludes held m d d' → Counted d'
  concludes-count held (reading s) d d' c (v, verdict, is) = subst Counted (sym is) (decided-counts v held s d c)
  concludes-count held (tag_ended i s) d d' c is = absurd is
  concludes-count held (awaits name s) d d' c is = subst Counted (sym is) (counts-with d (waits name held) s d.hand d.left d.begins d.realm d.arrived (same-left d) c)
  concludes-count held (over o) d d' c is = subst Counted (sym is) (counts-with d (done o.result) o.last d.hand d.left d.begins d.realm d.arrived (same-left d) c)

  does-count : (w : World) (p : Phase) (d d' : Desk) → Counted d → DoesIn w p d d' → Counted d'
  does-count w free d d' c is = subst Counted (sym is) (executes-count d d.hand c)
  does-count w (tagged i held) d d' c (m, settles, is) = concludes-count held m d d' c is
  does-count w (waits name held) d d' c (m, settles, is) = concludes-count held m d d' c is
  does-count w (done r) d d' c is = absurd is

  moves-count : (w : World) (v : Event) (d d' : Desk) → Moves ahead w v d d' → Counted d → Counted d'
  moves-count w Send d d' (can, is) c = subst Counted (sym is) (sends-count d d.to_send refl (and_parts _ _ (and_parts _ _ can).0).1 c)
  moves-count w Pick d d' m c = absurd m
  moves-count w Give d d' m c = absurd m
  moves-count w Take d d' (can, is) c = subst Counted (sym is) (take-counts w.entities d c)
  moves-count w Do d d' (can, does) c = does-count w d.phase d d' c does
  moves-count w (Arrive name) d d' (can, is) c = subst Counted (sym is) (counts-with d d.phase d.own d.hand d.left d.begins d.realm (name ∷ d.arrived) (same-left d) c)

  pub moves-by-count : (w : World) (vs : List Event) (d d' : Desk) → MovesBy ahead w vs d d' → Counted d → Counted d'
  moves-by-count w [] d d' is c = subst Counted (sym is) c
  moves-by-count w (v ∷ vs) d d' (d1, m, rest) c = moves-by-count w vs d1 d' rest (moves-count w v d d1 m c)

-- ---- the first desk

pieces-length : (ts : List (List ℕ)) (e : Ending) → length (pieces_with ts (Some e)) ≡ length ts + 1
pieces-length [] e = refl
pieces-length (t ∷ ts) e = omega (arith, pieces-length ts e)

pub first-counts : (ahead : ℕ) (ts : List (List ℕ)) (e : Ending) → Counts (length ts + 1) ahead (first_desk (pieces_with ts (Some e)))
first-counts ahead ts e =
    let pieces : length (pieces_with ts (Some e)) ≡ length ts + 1 = pieces-length ts e in
    let one : ahead * 1 ≡ ahead = omega arith in
    let all : (length ts + 1) * 1 ≡ length ts + 1 = omega arith in
    record { taken = omega arith; credit = omega arith; stale = omega (arith, one); room = omega (arith, pieces); sends = omega (arith, pieces, all) }
