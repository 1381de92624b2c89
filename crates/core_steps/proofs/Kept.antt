-- The journal's events lead to what is shown: so it is before any event, and so it stays.
use Rattle.std.proofs.Common.{◌≡◌, ℕ, Bool, true, false, true≢false, List, [], ◌∷◌, ◌++◌, Option, Some, None, refl, sym, ◌∙◌, ap, subst, IsTrue}
use Rattle.std.specs.Prelude.{not, ◌&&◌, ◌||◌, if◌then◌else◌}
use Rattle.std.proofs.lemmas.Bool.{and_parts}
use Rattle.std.specs.Cmp.Lexicographic.{bytes_decides}
use Rattle.html_types.specs.Text.{same_text}
use Rattle.html_types.specs.declared.ending.Ending.{Ending}
use Rattle.standard.specs.Entities.{Entities}
use Rattle.serial.specs.Scripts.{Fetched, missing, is_lawful}
use Rattle.serial.specs.Serial.{World, Result, fetched, fetched_if}
use Rattle.core_definitions.specs.declared.event.Event.{Event}
use Rattle.core_definitions.specs.declared.event.Event.TheVariants.{Send, Take, Do, Arrive}
use Rattle.core_definitions.specs.Batches.{Piece, of_text, of_ending}
use Rattle.core_definitions.specs.Desk.{Phase, free, tagged, waits, done, Desk, first_desk, pieces_with, with_more, is_free, is_done, is_among, has_arrived, can_send, wants_reply, can_do, can_do_in, can_arrive, sends, takes, arrives, Moves, MovesBy}
use Rattle.core_definitions.specs.Journal.{Journal, Knows}
use Rattle.core_steps.specs.Fetches.{names_of}
use Rattle.core_steps.specs.Journals.{found}
use Rattle.core_steps.specs.Sides.{Shown, first_shown, with_piece, with_ending, journaled, with_fetch, ShowsIn, Shows, DoesShow, IsReplayed}
use Rattle.core_steps.specs.Acting.{fetch_or_missing}
use Rattle.core_steps.proofs.Counts.{counts-same}
use Rattle.core_steps.proofs.Replays.{moves-then, pieces-then, ending-then, moves-more}

pub first-replayed : (es : Entities) (ahead : ℕ) → IsReplayed (first_shown es ahead)
first-replayed es ahead w e k = (first_desk [], refl, refl)

-- what isn't done is shown as it is
all-shown : (d v : Desk) (p : Phase) → v.phase ≡ p → ((r : Result) → p ≡ done r → ⊥) → Shows d v → d ≡ v
all-shown d v p is goes shows = by p goes (subst (λ q. ShowsIn q d v) is shows)
  where
    by : (q : Phase) → ((r : Result) → q ≡ done r → ⊥) → ShowsIn q d v → d ≡ v
    by free goes s = s
    by (tagged i held) goes s = s
    by (waits name held) goes s = s
    by (done r) goes s = absurd (goes r refl)

-- an event that doesn't come at the end
event-replayed : (v : Event) (s : Shown) (e : Desk) → ((r : Result) → s.desk.phase ≡ done r → ⊥) →
    ((w : World) → w.entities ≡ s.entities → Knows s.journal.fetches w → (d' : Desk) × Moves s.ahead w v s.desk d' × Shows d' e) → IsReplayed s → IsReplayed (journaled v e s)
event-replayed v s e goes step h w es knows =
    let (d, moves, shows) = h w es knows in
    let same : d ≡ s.desk = all-shown d s.desk s.desk.phase refl goes shows in
    let (d', move, shows') = step w es knows in (
      d',
      moves-then s.ahead w s.journal.events v (first_desk (pieces_with s.journal.pieces s.journal.ending)) s.desk d'
          (subst (λ z. MovesBy s.ahead w s.journal.events (first_desk (pieces_with s.journal.pieces s.journal.ending)) z) same moves) move,
      shows',
    )

-- what is shown of a desk that is what is told
same-shown : (d v : Desk) → d ≡ v → Shows d v
same-shown d v is = by v.phase
  where
    by : (p : Phase) → ShowsIn p d v
    by free = is
    by (tagged i held) = is
    by (waits name held) = is
    by (done r) = (subst (λ z. d ≡ record z { own = d.own; hand = d.hand }) is refl, ap (λ (z : Desk). z.own.side.doc) is, ap (λ (z : Desk). z.own.side.lines) is, counts-same r d.own.side v.own.side (ap (λ (z : Desk). z.own.side) is))

not-sent : (ahead : ℕ) (d : Desk) → IsTrue (can_send ahead d) → (r : Result) → d.phase ≡ done r → ⊥
not-sent ahead d can r is = true≢false (sym (and_parts _ _ (and_parts _ _ can).0).0 ∙ ap (λ (p : Phase). not (is_done p)) is)

pub send-replayed : (s : Shown) → IsTrue (can_send s.ahead s.desk) → IsReplayed s → IsReplayed (journaled Send (sends s.desk) s)
send-replayed s can h = event-replayed Send s (sends s.desk) (not-sent s.ahead s.desk can) (λ w es knows. (sends s.desk, (can, refl), same-shown (sends s.desk) (sends s.desk) refl)) h

pub take-replayed : (s : Shown) → IsTrue (wants_reply s.desk) → IsReplayed s → IsReplayed (journaled Take (takes s.entities s.desk) s)
take-replayed s wants h =
    event-replayed Take s (takes s.entities s.desk) (λ r is. true≢false (sym (and_parts _ _ (and_parts _ _ wants).0).0 ∙ ap (λ (p : Phase). is_free p) is))
    (λ w es knows. (takes s.entities s.desk, (wants, ap (λ e. takes e s.desk) (sym es)), same-shown (takes s.entities s.desk) (takes s.entities s.desk) refl)) h

pub do-replayed : (s : Shown) (e : Desk) → IsTrue (can_do s.desk) → DoesShow s.entities s.journal.fetches s.desk e → IsReplayed s → IsReplayed (journaled Do e s)
do-replayed s e can does h =
    event-replayed Do s e (λ r is. true≢false (sym can ∙ ap (λ (p : Phase). can_do_in p s.desk) is)) (λ w es knows. let (d', step, shows) = does w es knows in (d', (can, step), shows)) h

-- the return of a fetch comes at any time
arrives-shown : (name : List ℕ) (d v : Desk) (p : Phase) → ShowsIn p d v → ShowsIn p (arrives name d) (arrives name v)
arrives-shown name d v free is = ap (arrives name) is
arrives-shown name d v (tagged i held) is = ap (arrives name) is
arrives-shown name d v (waits n held) is = ap (arrives name) is
arrives-shown name d v (done r) (is, doc, lines, counts) = (ap (arrives name) is, doc, lines, counts)

arrived-alike : (d v : Desk) (p : Phase) → ShowsIn p d v → d.arrived ≡ v.arrived
arrived-alike d v free is = ap (λ (z : Desk). z.arrived) is
arrived-alike d v (tagged i held) is = ap (λ (z : Desk). z.arrived) is
arrived-alike d v (waits n held) is = ap (λ (z : Desk). z.arrived) is
arrived-alike d v (done r) (is, doc, lines, counts) = ap (λ (z : Desk). z.arrived) is

pub arrive-replayed : (s : Shown) (name : List ℕ) (f : Fetched) → IsTrue (can_arrive name s.desk) → IsReplayed s → IsReplayed (with_fetch name f s)
arrive-replayed s name f can h w es (this, knows) =
    let (d, moves, shows) = h w es knows in
    let can' : IsTrue (can_arrive name d) = ap (λ ns. is_lawful name && not (is_among name ns)) (arrived-alike d s.desk s.desk.phase shows) ∙ can in
    (arrives name d, moves-then s.ahead w s.journal.events (Arrive name) (first_desk (pieces_with s.journal.pieces s.journal.ending)) d (arrives name d) moves (can', refl), arrives-shown name d s.desk s.desk.phase shows)

-- ---- what is handed in

more-shown : (xs : List Piece) (d v : Desk) (p : Phase) → ShowsIn p d v → ShowsIn p (with_more xs d) (with_more xs v)
more-shown xs d v free is = ap (with_more xs) is
more-shown xs d v (tagged i held) is = ap (with_more xs) is
more-shown xs d v (waits n held) is = ap (with_more xs) is
more-shown xs d v (done r) (is, doc, lines, counts) = (ap (with_more xs) is, doc, lines, counts)

pub piece-replayed : (s : Shown) (t : List ℕ) → s.journal.ending ≡ None → IsReplayed s → IsReplayed (with_piece t s)
piece-replayed s t open_ h w es knows =
    let (d, moves, shows) = h w es knows in
    let js : List (List ℕ) = s.journal.pieces in
    let whole : pieces_with (js ++ t ∷ []) s.journal.ending ≡ pieces_with js s.journal.ending ++ of_text t ∷ [] =
    ap (pieces_with (js ++ t ∷ [])) open_ ∙ (pieces-then js t ∙ ap (λ o. pieces_with js o ++ of_text t ∷ []) (sym open_)) in (
      with_more (of_text t ∷ []) d,
      moves-more s.ahead w s.journal.events (pieces_with js s.journal.ending) (pieces_with (js ++ t ∷ []) s.journal.ending) (of_text t) d whole moves,
      more-shown (of_text t ∷ []) d s.desk s.desk.phase shows,
    )

pub ending-replayed : (s : Shown) (e : Ending) → s.journal.ending ≡ None → IsReplayed s → IsReplayed (with_ending e s)
ending-replayed s e open_ h w es knows =
    let (d, moves, shows) = h w es knows in
    let js : List (List ℕ) = s.journal.pieces in
    let whole : pieces_with js (Some e) ≡ pieces_with js s.journal.ending ++ of_ending e ∷ [] = ending-then js e ∙ ap (λ o. pieces_with js o ++ of_ending e ∷ []) (sym open_) in (
      with_more (of_ending e ∷ []) d,
      moves-more s.ahead w s.journal.events (pieces_with js s.journal.ending) (pieces_with js (Some e)) (of_ending e) d whole moves,
      more-shown (of_ending e ∷ []) d s.desk s.desk.phase shows,
    )

-- ---- what came of a script that has arrived

same-name : (a b : List ℕ) → same_text a b ≡ true → a ≡ b
same-name a b is = (bytes_decides a b).0 is

-- in a world that knows the fetches, a script is fetched as it was, and one that has arrived and wasn't fetched is missing
pub fetched-met : (w : World) (name : List ℕ) (fs : List (List ℕ × Fetched)) → Knows fs w → (not (is_lawful name) || is_among name (names_of fs)) ≡ true → fetched w name ≡ fetch_or_missing (found name fs)
fetched-met w name [] knows arrived = unlawful (is_lawful name) refl arrived
  where
    unlawful : (b : Bool) → is_lawful name ≡ b → (not b || false) ≡ true → fetched_if b w name ≡ missing
    unlawful true is a = absurd (true≢false (sym a))
    unlawful false is a = refl
fetched-met w name (f ∷ fs) (this, knows) arrived = by (same_text f.0 name) refl (λ a. fetched-met w name fs knows a)
  where
    rest : (b : Bool) → (not (is_lawful name) || (b || is_among name (names_of fs))) ≡ true → b ≡ false → (not (is_lawful name) || is_among name (names_of fs)) ≡ true
    rest true a is = absurd (true≢false is)
    rest false a is = a

    by : (b : Bool) → same_text f.0 name ≡ b → ((not (is_lawful name) || is_among name (names_of fs)) ≡ true → fetched w name ≡ fetch_or_missing (found name fs)) →
        fetched w name ≡ fetch_or_missing (if b then Some f.1 else found name fs)
    by true is more = ap (fetched w) (sym (same-name f.0 name is)) ∙ this
    by false is more = more (rest (same_text f.0 name) arrived is)
