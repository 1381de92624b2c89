-- The bounds of the numbers of requests and of dropped replies.
use Rattle.std.proofs.Common.{◌≡◌, ◌≤◌, ℕ, suc, ◌+◌, ◌*◌, List, length, Some, refl, sym, ◌∙◌, ap, arith}
use Rattle.std.proofs.Math.Nat.{mul-suc}
use Rattle.std.proofs.lemmas.Nat.{mul-le}
use Rattle.serial.specs.Serial.{first, reading, over}
use Rattle.core_definitions.specs.declared.event.Event.{Event}
use Rattle.core_definitions.specs.Verdict.{first_watch}
use Rattle.core_definitions.specs.Desk.{Desk, first_desk, pieces_with}
use Rattle.core_definitions.specs.Core.{Setup, whole_page, Core, first_core, Runs}
use Rattle.core_definitions.specs.Journal.{own_events}
use Rattle.core_laws.specs.Bounds.{IsBounded, CreditIsKept, BoundedWhereItStands, BoundedByTheParse}
use Rattle.core_laws.proofs.Standing.{failures-are-epochs}
use Rattle.core_laws.proofs.Together.{core-is_desk}
use Rattle.core_laws.proofs.Counting.{Counts, first-counts, moves-by-count}
use Rattle.core_laws.proofs.Comparing.{failed-by-end}

counted : (x : Setup) (vs : List Event) (c : Core) → Runs x vs (first_core x) c → Counts (length x.pieces + 1) x.ahead c.desk
counted x vs c h =
    moves-by-count (length x.pieces + 1) x.ahead x.world (own_events vs) (first_desk (pieces_with x.pieces (Some x.ending))) c.desk (core-is_desk x vs c h) (first-counts x.ahead x.pieces x.ending)

pub credit-is_kept : CreditIsKept
credit-is_kept x vs c h = let k = counted x vs c h in omega (arith, k.credit)

bounded : (x : Setup) (d : Desk) (failed : ℕ) → Counts (length x.pieces + 1) x.ahead d → failed + 1 ≡ d.epoch → IsBounded x failed d
bounded x d failed c q =
    let epoch : d.epoch ≡ suc failed = omega (arith, q) in
    let times : x.ahead * d.epoch ≡ x.ahead * failed + x.ahead = ap (λ n. x.ahead * n) epoch ∙ mul-suc x.ahead failed in
    let each : (length x.pieces + 1) * d.epoch ≡ (length x.pieces + 1) * (failed + 1) = ap (λ n. (length x.pieces + 1) * n) (sym q) in
    record { dropped = omega (arith, c.stale, c.taken, times); sent = omega (arith, c.sends, each) }

pub bounded-where_it_stands : BoundedWhereItStands
bounded-where_it_stands x vs c h =
    let (m, v, known, stands, epochs) = failures-are-epochs x (own_events vs) c.desk (core-is_desk x vs c h) in
    (m, v, known, stands, epochs, bounded x c.desk v.failed (counted x vs c h) epochs)

more-failed : (x : Setup) (d : Desk) (a b : ℕ) → a ≤ b → IsBounded x a d → IsBounded x b d
more-failed x d a b less h =
    let same : x.ahead ≤ x.ahead = omega arith in
    let all : length x.pieces + 1 ≤ length x.pieces + 1 = omega arith in
    let more : a + 1 ≤ b + 1 = omega (arith, less) in
    let dropped : x.ahead * a ≤ x.ahead * b = mul-le x.ahead a x.ahead b same less in
    let sent : (length x.pieces + 1) * (a + 1) ≤ (length x.pieces + 1) * (b + 1) = mul-le (length x.pieces + 1) (a + 1) (length x.pieces + 1) (b + 1) all more in
    record { dropped = omega (arith, h.dropped, dropped); sent = omega (arith, h.sent, sent) }

pub bounded-by_the_parse : BoundedByTheParse
bounded-by_the_parse x vs c w h (o, there) =
    let (m, v, known, stands, epochs, bound) = bounded-where_it_stands x vs c h in
    more-failed x c.desk v.failed w.failed (failed-by-end x.ending x.world (reading (first (whole_page x))) m (over o) o (first_watch (whole_page x)) v w refl known there) bound
