-- What the events of the document's side leave alone, and what they leave to be done.
use Rattle.std.proofs.Common.{◌≡◌, ◌<◌, ◌≤◌, ℕ, suc, ◌+◌, ◌*◌, nat_lt, Bool, true, false, true≢false, List, [], ◌∷◌, ◌++◌, length, Option, Some, None, refl, sym, ◌∙◌, ap, subst, append_assoc, length-append, arith}
use Rattle.std.specs.Prelude.{◌&&◌, is_none, if◌then◌else◌}
use Rattle.html_types.specs.declared.operation.NodeId.{NodeId}
use Rattle.html_types.specs.declared.ending.Ending.TheVariants as ending
use Rattle.html_types.specs.declared.ending.Why.TheVariants as why
use Rattle.html_types.specs.declared.instruction.Stop.TheVariants as stop
use Rattle.standard.specs.Entities.{Entities}
use Rattle.standard.specs.Parser.{Parser}
use Rattle.serial.specs.Scripts.{Fetched, faulted}
use Rattle.serial.specs.Serial.{World, fetched, Serial, prepared, Moment, reading, tag_ended, awaits, over, refusal, refused, Outcome, moment_after}
use Rattle.core_definitions.specs.declared.verdict.Verdict.{Verdict}
use Rattle.core_definitions.specs.declared.verdict.Verdict.TheVariants.{Keep, Rewind}
use Rattle.core_definitions.specs.Batches.{Piece, Batch, Halt, at, over_with}
use Rattle.core_definitions.specs.Verdict.{runs}
use Rattle.core_definitions.specs.Settling.{is_empty, Through, here, onward, Settles}
use Rattle.core_definitions.specs.Desk.{Phase, free, tagged, waits, done, Desk, with_more, stale, sends_first, sends, with_batches, drops, answer_called_for, takes, in_phase, at_end_tag, behind_halt, with_executed, executes, sent_again, decided, Concludes, DoesIn, Does, arrives}
use Rattle.core_definitions.specs.StandsFor.{text_of, page_left}
use Rattle.core_steps.specs.Sides.{ShowsIn, Shows, left_in, left_to_do}

-- ---- what Do leaves alone

-- how far the counts go, and what is to be sent again at most
pub record Keeps (d d' : Desk) : Type 0 where
  pub arrived : d'.arrived ≡ d.arrived
  pub sent : d'.sent ≡ d.sent
  pub taken : d'.taken ≡ d.taken
  pub asked : length d'.asked ≤ length d.asked
  pub to_send : length d'.to_send ≤ length d.to_send + length d.asked + 1

keeps-refl : (d : Desk) → Keeps d d
keeps-refl d = record { arrived = refl; sent = refl; taken = refl; asked = omega arith; to_send = omega arith }

again-shorter : (xs : List Piece) → length (sent_again xs) ≤ length xs
again-shorter [] = omega arith
again-shorter (x ∷ xs) = by (again-shorter xs) (is_empty x.text && is_none x.ending)
  where
    by : length (sent_again xs) ≤ length xs → (b : Bool) → length (if b then sent_again xs else x ∷ sent_again xs) ≤ length (x ∷ xs)
    by le true = omega (arith, le)
    by le false = omega (arith, le)

tag-keeps : (d0 d : Desk) (i : NodeId) (run : Bool) → Keeps d0 d → Keeps d0 (at_end_tag run i d)
tag-keeps d0 d i true k = record { arrived = k.arrived; sent = k.sent; taken = k.taken; asked = k.asked; to_send = k.to_send }
tag-keeps d0 d i false k = k

phase-keeps : (d0 d : Desk) (p : Phase) → Keeps d0 d → Keeps d0 (in_phase p d)
phase-keeps d0 d p k = record { arrived = k.arrived; sent = k.sent; taken = k.taken; asked = k.asked; to_send = k.to_send }

halt-keeps : (d0 d : Desk) (h : Halt) → Keeps d0 d → Keeps d0 (behind_halt h d)
halt-keeps d0 d (at stop.InputEnd) k = k
halt-keeps d0 d (at (stop.Script i)) k = tag-keeps d0 d i (runs (prepared i d.own)) k
halt-keeps d0 d (at stop.Deep) k = phase-keeps d0 d (done (refused why.Depth)) k
halt-keeps d0 d (over_with w) k = phase-keeps d0 d _ k

executes-keeps : (bs : List Batch) (d : Desk) → Keeps d (executes bs d)
executes-keeps [] d = keeps-refl d
executes-keeps (b ∷ bs) d = halt-keeps d (with_executed b bs d) b.halt (record { arrived = refl; sent = refl; taken = refl; asked = omega arith; to_send = omega arith })

decided-keeps : (c : Verdict) (held : Parser) (s : Serial) (d : Desk) → Keeps d (decided c held s d)
decided-keeps Keep held s d = record { arrived = refl; sent = refl; taken = refl; asked = omega arith; to_send = omega arith }
decided-keeps Rewind held s d =
    let shorter : length (sent_again (d.left ∷ d.asked)) ≤ length (d.left ∷ d.asked) = again-shorter (d.left ∷ d.asked) in
    record { arrived = refl; sent = refl; taken = refl; asked = omega arith; to_send = omega (arith, length-append (sent_again (d.left ∷ d.asked)) d.to_send) }

concluded-keeps : (held : Parser) (m : Moment) (d d' : Desk) → Concludes held m d d' → Keeps d d'
concluded-keeps held (reading s) d d' (c, verdict, is) = subst (Keeps d) (sym is) (decided-keeps c held s d)
concluded-keeps held (tag_ended i s) d d' is = absurd is
concluded-keeps held (awaits name s) d d' is = subst (Keeps d) (sym is) (record { arrived = refl; sent = refl; taken = refl; asked = omega arith; to_send = omega arith })
concluded-keeps held (over o) d d' is = subst (Keeps d) (sym is) (record { arrived = refl; sent = refl; taken = refl; asked = omega arith; to_send = omega arith })

pub does-keeps : (w : World) (p : Phase) (d d' : Desk) → DoesIn w p d d' → Keeps d d'
does-keeps w free d d' is = subst (Keeps d) (sym is) (executes-keeps d.hand d)
does-keeps w (tagged i held) d d' (m, settles, c) = concluded-keeps held m d d' c
does-keeps w (waits name held) d d' (m, settles, c) = concluded-keeps held m d d' c
does-keeps w (done r) d d' is = absurd is

-- what is shown of a desk has the same
shown-keeps : (p : Phase) (d0 d v : Desk) → ShowsIn p d v → Keeps d0 d → Keeps d0 v
shown-keeps free d0 d v is k = subst (Keeps d0) is k
shown-keeps (tagged i held) d0 d v is k = subst (Keeps d0) is k
shown-keeps (waits name held) d0 d v is k = subst (Keeps d0) is k
shown-keeps (done r) d0 d v (is, doc, lines, counts) k = record {
  arrived = sym (ap (λ (z : Desk). z.arrived) is) ∙ k.arrived;
  sent = sym (ap (λ (z : Desk). z.sent) is) ∙ k.sent;
  taken = sym (ap (λ (z : Desk). z.taken) is) ∙ k.taken;
  asked = subst (λ xs. length xs ≤ length d0.asked) (ap (λ (z : Desk). z.asked) is) k.asked;
  to_send = subst (λ xs. length xs ≤ length d0.to_send + length d0.asked + 1) (ap (λ (z : Desk). z.to_send) is) k.to_send;
}

pub do-keeps : (w : World) (d d' v : Desk) → Does w d d' → Shows d' v → Keeps d v
do-keeps w d d' v does shows = shown-keeps v.phase d d' v shows (does-keeps w d.phase d d' does)

shown-phase : (p : Phase) (d v : Desk) → v.phase ≡ p → ShowsIn p d v → d.phase ≡ v.phase
shown-phase free d v q is = ap (λ (z : Desk). z.phase) is
shown-phase (tagged i held) d v q is = ap (λ (z : Desk). z.phase) is
shown-phase (waits name held) d v q is = ap (λ (z : Desk). z.phase) is
shown-phase (done r) d v q (is, doc, lines, counts) = ap (λ (z : Desk). z.phase) is

pub shows-phase : (d v : Desk) → Shows d v → d.phase ≡ v.phase
shows-phase d v shows = shown-phase v.phase d v refl shows

-- ---- a script whose fetch failed

fault-through : (w : World) (o : Outcome) (m : Moment) → Through ending.End w (over o) m → m ≡ over o
fault-through w o m (here m') = refl
fault-through w o m (onward n m0 m1 m' open_ next more) = absurd (true≢false open_)

fault-settles : (w : World) (name : List ℕ) (s : Serial) (m : Moment) → fetched w name ≡ faulted → Settles w (awaits name s) m → m ≡ over (refusal why.Fault s)
unfolding moment_after
fault-settles w name s m is settles =
    let next : Some (over (refusal why.Fault s)) ≡ Some settles.next = sym (ap (λ f. after settles.fuel f) is) ∙ settles.first in
    let there : over (refusal why.Fault s) ≡ settles.next = some-same next in
    fault-through w (refusal why.Fault s) m (subst (λ x. Through ending.End w x m) (sym there) settles.through)
  where
    after : ℕ → Fetched → Option Moment
    after n f = Rattle.serial.specs.Serial.after_fetch n w name s f

    some-same : {A : Type 0} {a b : A} → Some a ≡ Some b → a ≡ b
    some-same e = cc e

-- its Do ends the parse
pub fault-stops : (w : World) (name : List ℕ) (held : Parser) (d d' v : Desk) → d.phase ≡ waits name held → fetched w name ≡ faulted → Does w d d' → Shows d' v → v.phase ≡ done (refused why.Fault)
fault-stops w name held d d' v q is does shows =
    let (m, settles, concludes) = subst (λ p. DoesIn w p d d') q does in
    let m_is = fault-settles w name d.own m is settles in
    let end : Concludes held (over (refusal why.Fault d.own)) d d' = subst (λ x. Concludes held x d d') m_is concludes in
    sym (shows-phase d' v shows) ∙ ap (λ (z : Desk). z.phase) end

-- ---- what is left to be done

in-left : (p : Phase) (d d' : Desk) → d'.own ≡ d.own → length (page_left d') ≡ length (page_left d) → left_in p d' ≡ left_in p d
in-left free d d' own page = rw (own, page) refl
in-left (tagged i held) d d' own page = rw (own, page) refl
in-left (waits name held) d d' own page = rw (own, page) refl
in-left (done r) d d' own page = refl

sends-first-left : (ps : List Piece) (d : Desk) → d.to_send ≡ ps → left_to_do (sends_first ps d) ≡ left_to_do d
sends-first-left [] d q = refl
sends-first-left (x ∷ xs) d q =
    let pieces : (d.asked ++ x ∷ []) ++ xs ≡ d.asked ++ d.to_send = append_assoc d.asked (x ∷ []) xs ∙ ap (λ ys. d.asked ++ ys) (sym q) in
    in-left d.phase d (record d { asked = d.asked ++ x ∷ []; to_send = xs; begins = None; sent = suc d.sent }) refl (ap (λ ys. length (text_of (d.left ∷ ys))) pieces)

sends-first-own : (ps : List Piece) (d : Desk) → (sends_first ps d).own ≡ d.own
sends-first-own [] d = refl
sends-first-own (x ∷ xs) d = refl

pub sends-own : (d : Desk) → (sends d).own ≡ d.own
sends-own d = sends-first-own d.to_send d

pub sends-left : (d : Desk) → left_to_do (sends d) ≡ left_to_do d
sends-left d = sends-first-left d.to_send d refl

pub arrives-left : (name : List ℕ) (d : Desk) → left_to_do (arrives name d) ≡ left_to_do d
arrives-left name d = in-left d.phase d (arrives name d) refl refl

pub text-append : (xs ys : List Piece) → text_of (xs ++ ys) ≡ text_of xs ++ text_of ys
text-append [] ys = refl
text-append (x ∷ xs) ys = ap (λ t. x.text ++ t) (text-append xs ys) ∙ sym (append_assoc x.text (text_of xs) (text_of ys))

more-page : (xs : List Piece) (d : Desk) → length (page_left (with_more xs d)) ≡ length (page_left d) + length (text_of xs)
more-page xs d =
    let one = ap (λ ys. text_of (d.left ∷ ys)) (sym (append_assoc d.asked d.to_send xs)) in
    ap length (one ∙ text-append (d.left ∷ d.asked ++ d.to_send) xs) ∙ length-append (page_left d) (text_of xs)

more-in : (p : Phase) (xs : List Piece) (d : Desk) → left_in p (with_more xs d) ≤ left_in p d + 3 * length (text_of xs)
more-in free xs d = let page = more-page xs d in omega arith
more-in (tagged i held) xs d = let page = more-page xs d in omega arith
more-in (waits name held) xs d = let page = more-page xs d in omega arith
more-in (done r) xs d = omega arith

pub more-left : (xs : List Piece) (d : Desk) → left_to_do (with_more xs d) ≤ left_to_do d + 3 * length (text_of xs)
more-left xs d = more-in d.phase xs d

-- ---- Take

pub record Took (d d' : Desk) : Type 0 where
  pub own : d'.own ≡ d.own
  pub phase : d'.phase ≡ d.phase
  pub arrived : d'.arrived ≡ d.arrived
  pub sent : d'.sent ≡ d.sent
  pub taken : d'.taken ≡ suc d.taken
  pub asked : suc (length d'.asked + d'.taken) ≤ d.sent + 1
  pub to_send : d'.to_send ≡ d.to_send
  pub left : left_to_do d' ≤ left_to_do d

first-left : (p : Phase) (d : Desk) (bs : List Batch) (x : Piece) (xs : List Piece) → d.asked ≡ x ∷ xs → left_in p (record d { hand = bs; left = x; asked = xs; taken = suc d.taken }) ≤ left_in p d
first-left p d bs x xs q = by p
  where
    page : length (text_of (x ∷ xs ++ d.to_send)) ≤ length (page_left d)
    page = let is = ap (λ ys. length (text_of (ys ++ d.to_send))) q in let all = length-append d.left.text (text_of (d.asked ++ d.to_send)) in omega arith

    by : (p : Phase) → left_in p (record d { hand = bs; left = x; asked = xs; taken = suc d.taken }) ≤ left_in p d
    by free = let le = page in omega arith
    by (tagged i held) = let le = page in omega arith
    by (waits name held) = let le = page in omega arith
    by (done r) = omega arith

-- so many are asked as are outstanding at most
pub takes-first : (es : Entities) (d : Desk) (n : ℕ) → n + d.taken ≡ d.sent → length d.asked ≤ n → 0 < n → Took d (takes es d)
takes-first es d n count asked some = by (nat_lt 0 (stale d)) refl
  where
    first : (ps : List Piece) → d.asked ≡ ps → nat_lt 0 (stale d) ≡ false → Took d (with_batches (answer_called_for es d ps) ps d)
    first [] q none = let zero_ : length d.asked ≡ 0 = ap length q in absurd (grind (arith, count, some, none, zero_))
    first (x ∷ xs) q none =
        let one : length d.asked ≡ suc (length xs) = ap length q in
        record { own = refl; phase = refl; arrived = refl; sent = refl; taken = refl; asked = omega arith; to_send = refl; left = first-left d.phase d (answer_called_for es d (x ∷ xs)) x xs q }

    by : (b : Bool) → nat_lt 0 (stale d) ≡ b → Took d (if b then drops d else with_batches (answer_called_for es d d.asked) d.asked d)
    by true more = record { own = refl; phase = refl; arrived = refl; sent = refl; taken = refl; asked = grind (arith, count, more); to_send = refl; left = let same : left_to_do (drops d) ≡ left_to_do d = in-left d.phase d (drops d) refl refl in omega arith }
    by false none = first d.asked refl none
