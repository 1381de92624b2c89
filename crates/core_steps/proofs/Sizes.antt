-- Each Do makes the measure less.
use Rattle.std.proofs.Common.{◌≡◌, ◌<◌, ◌≤◌, ◌+◌, ◌*◌, ◌-◌, ℕ, suc, Bool, true, false, List, [], ◌∷◌, ◌++◌, length, Option, Some, None, refl, sym, ◌∙◌, ap, subst, arith, length-append}
use Rattle.html_types.specs.declared.operation.NodeId.{NodeId}
use Rattle.html_types.specs.declared.instruction.Stop.TheVariants as stop
use Rattle.html_types.specs.declared.ending.Why.{Why}
use Rattle.html_types.specs.declared.ending.Why.TheVariants as why
use Rattle.standard.specs.Parser.{Parser}
use Rattle.serial.specs.Scripts.{Fetched, got, missing, faulted}
use Rattle.serial.specs.Serial.{write_limit}
use Rattle.core_definitions.specs.declared.verdict.Verdict.{Verdict}
use Rattle.core_definitions.specs.declared.verdict.Verdict.TheVariants.{Keep, Rewind}
use Rattle.core_definitions.specs.Batches.{Piece, Halt}
use Rattle.core_definitions.specs.Desk.{Desk, sent_again}
use Rattle.core_definitions.specs.StandsFor.{text_of, page_left}
use Rattle.core_laws.proofs.Cutting.{GoesOn}
use Rattle.page_pieces.specs.Keeping.{Kept, rewound}
use Rattle.write_parser.specs.declared.left.Left.{Left}
use Rattle.write_parser.specs.declared.left.Left.TheVariants as left
use Rattle.write_parser.specs.Writing.{View, LeftIs, scripts_awaited, HasMissed, left_to_do as left_to_parse}
use Rattle.speculation.specs.declared.batch.Halt as code
use Rattle.speculation.specs.declared.batch.Halt.TheVariants as halt
use Rattle.speculation.specs.Halting.{halt_of}
use Rattle.core_steps.specs.declared.stage.Stage.{Stage}
use Rattle.core_steps.specs.declared.stage.Stage.TheVariants.{Free, Tagged, Waits, Done}
use Rattle.core_steps.specs.declared.side.Side.{Side}
use Rattle.parse_machine.specs.declared.end.End.{End}
use Rattle.parse_machine.specs.declared.end.End.TheVariants as end
use Rattle.core_steps.specs.Sides.{desk_of, left_to_do, IsIdle, IsTagged, IsWaiting, IsSound}
use Rattle.core_steps.specs.Acting.{ended, at_stage, Executed, MeetsTag, runs_there, Halts, RunsBatch, with_writer, JudgedAs, LeavesBy, Settled, RunsTagged, met, RunsFetched, ActsBy}
use Rattle.core_steps.proofs.Sound.{text-append, text-again}

-- what scripts may still write, and what they wrote that isn't used
abbrev written_left : View → ℕ
written_left v = 2 * (write_limit - v.written) + 2 * length v.rest

abbrev pages : Kept → ℕ
pages k = length (text_of (k.left ∷ k.asked ++ k.to_send))

-- so much is left with no script in hand, at an end tag, and where a script is awaited
abbrev Weighs : ℕ → Stage → View → Kept → Type 0
Weighs n Free v k = n ≡ written_left v + 3 * pages k + 1
Weighs n (Tagged i held) v k = n ≡ written_left v + 3 * pages k + 3
Weighs n (Waits name held) v k = n ≡ written_left v + 3 * pages k + 2
Weighs n (Done w in_hand) v k = n ≡ 0

nil : (t : List ℕ) → length (t ++ []) ≡ length t
nil t = omega (arith, length-append t [])

pub weighs : (stage : Stage) (s : Side) → s.stage ≡ stage → Weighs (left_to_do (desk_of s)) stage s.writer s.ledger
weighs stage s is = subst (λ t. Weighs (left_to_do (desk_of (at_stage t s))) stage s.writer s.ledger) (sym is) (by stage)
  where
    by : (t : Stage) → Weighs (left_to_do (desk_of (at_stage t s))) t s.writer s.ledger
    by Free = omega (arith, nil s.writer.rest)
    by (Tagged i held) = omega (arith, nil s.writer.rest)
    by (Waits name held) = omega (arith, nil s.writer.rest)
    by (Done w in_hand) = refl

rewound-pages : (k : Kept) → pages (rewound k) ≡ pages k
rewound-pages k =
    ap length (text-append (sent_again (k.left ∷ k.asked)) k.to_send ∙ (ap (λ t. t ++ text_of k.to_send) (text-again (k.left ∷ k.asked)) ∙ sym (text-append (k.left ∷ k.asked) k.to_send)))

-- ---- with no script in hand

executed-pages : (s : Side) (h : code.Halt) (mid : Side) (x : Executed s h mid) → length x.batch.text + pages mid.ledger ≡ pages s.ledger
executed-pages s h mid x =
    let behind : List ℕ = text_of (s.ledger.asked ++ s.ledger.to_send) in
    let now : pages mid.ledger ≡ length (x.rest ++ behind) = ap (λ (z : Side). pages z.ledger) x.is in
    let before : pages s.ledger ≡ length ((x.batch.text ++ x.rest) ++ behind) = ap (λ t. length (t ++ behind)) x.text in
    omega (arith, now, before, length-append x.rest behind, length-append (x.batch.text ++ x.rest) behind, length-append x.batch.text x.rest)

tag-less : (n n' : ℕ) (i : NodeId) (run : Bool) (mid new : Side) → mid.stage ≡ Free → MeetsTag run i mid new → n' ≡ left_to_do (desk_of new) → written_left mid.writer + 3 * pages mid.ledger + 3 < n → n' < n
tag-less n n' i false mid new stage m is less =
    let now = weighs Free mid stage in
    let same : n' ≡ left_to_do (desk_of mid) = is ∙ ap (λ (z : Side). left_to_do (desk_of z)) m in
    omega (arith, now, same, less)
tag-less n n' i true mid new stage m is less =
    let now = weighs (Tagged i mid.writer.parser) new (ap (λ (z : Side). z.stage) m) in
    let written : written_left new.writer ≡ written_left mid.writer = ap (λ (z : Side). written_left z.writer) m in
    let kept : pages new.ledger ≡ pages mid.ledger = ap (λ (z : Side). pages z.ledger) m in
    omega (arith, now, is, written, kept, less)

done-less : (n : ℕ) (w : End) (in_hand : Bool) (mid new : Side) → new ≡ ended w in_hand mid → 0 < n → left_to_do (desk_of new) < n
done-less n w in_hand mid new m some =
    let now : left_to_do (desk_of new) ≡ 0 = ap (λ (z : Side). left_to_do (desk_of z)) m in
    omega (arith, now, some)

halt-less : (n : ℕ) (h : code.Halt) (k : ℕ) (mid new : Side) → mid.stage ≡ Free → GoesOn (halt_of h) (1 ≤ k) → Halts h mid new → written_left mid.writer + 3 * (k + pages mid.ledger) + 1 ≡ n → left_to_do (desk_of new) < n
halt-less n (halt.At stop.InputEnd) k mid new stage some m is =
    let now = weighs Free mid stage in
    let same : left_to_do (desk_of new) ≡ left_to_do (desk_of mid) = ap (λ (z : Side). left_to_do (desk_of z)) m in
    let one : 1 ≤ k = some in
    omega (arith, now, same, one, is)
halt-less n (halt.At (stop.Script i)) k mid new stage some m is =
    let one : 1 ≤ k = some in
    tag-less n (left_to_do (desk_of new)) i (runs_there i mid) mid new stage m refl (omega (arith, one, is))
halt-less n (halt.At stop.Deep) k mid new stage some m is = done-less n (end.Refused why.Depth) false mid new m (omega (arith, is))
halt-less n (halt.Over e) k mid new stage some m is = done-less n e false mid new m (omega (arith, is))

batch-less : (s new : Side) → s.stage ≡ Free → RunsBatch s new → left_to_do (desk_of new) < left_to_do (desk_of s)
batch-less s new stage x =
    let e = x.executed in
    let before = weighs Free s stage in
    let written : written_left x.mid.writer ≡ written_left s.writer = ap (λ (z : Side). written_left z.writer) e.is in
    let kept = executed-pages s x.halt x.mid e in
    halt-less (left_to_do (desk_of s)) x.halt (length e.batch.text) x.mid new (ap (λ (z : Side). z.stage) e.is ∙ stage) (subst (λ h. GoesOn h (1 ≤ length e.batch.text)) (sym e.halt) e.some) x.halts
    (omega (arith, before, written, kept))

-- ---- with a script in hand

judged-less : (n : ℕ) (c : Verdict) (held : Parser) (s new : Side) (mid : View) → mid.pending ≡ None → JudgedAs c held (with_writer mid s) new → left_to_parse mid + 3 * pages s.ledger + 1 < n →
    left_to_do (desk_of new) < n
judged-less n Keep held s new mid idle m less =
    let now = weighs Free new (ap (λ (z : Side). z.stage) m) in
    let written : written_left new.writer ≡ written_left mid = ap (λ (z : Side). written_left z.writer) m in
    let kept : pages new.ledger ≡ pages s.ledger = ap (λ (z : Side). pages z.ledger) m in
    let none : scripts_awaited mid.pending ≡ 0 = ap scripts_awaited idle in
    omega (arith, now, written, kept, none, less)
judged-less n Rewind held s new mid idle m less =
    let now = weighs Free new (ap (λ (z : Side). z.stage) m) in
    let written : written_left new.writer ≡ written_left mid = ap (λ (z : Side). written_left z.writer) m in
    let kept : pages new.ledger ≡ pages s.ledger = ap (λ (z : Side). pages z.ledger) m ∙ rewound-pages s.ledger in
    let none : scripts_awaited mid.pending ≡ 0 = ap scripts_awaited idle in
    omega (arith, now, written, kept, none, less)

leaves-less : (n : ℕ) (answer : Left) (held : Parser) (s new : Side) (mid : View) → LeftIs mid answer → LeavesBy answer held (with_writer mid s) new → left_to_parse mid + 3 * pages s.ledger + 1 < n →
    left_to_do (desk_of new) < n
leaves-less n left.Empty held s new mid (halted, pending, rest) (c, verdict, m) less = judged-less n c held s new mid pending m less
leaves-less n (left.Awaits name) held s new mid (halted, pending) m less =
    let now = weighs (Waits name held) new (ap (λ (z : Side). z.stage) m) in
    let written : written_left new.writer ≡ written_left mid = ap (λ (z : Side). written_left z.writer) m in
    let kept : pages new.ledger ≡ pages s.ledger = ap (λ (z : Side). pages z.ledger) m in
    let one : scripts_awaited mid.pending ≡ 1 = ap scripts_awaited pending in
    omega (arith, now, written, kept, one, less)
leaves-less n (left.Refused l) held s new mid halted m less = done-less n (end.Refused l) true (with_writer mid s) new m (omega (arith, less))

settled-less : (n : ℕ) (held : Parser) (s new : Side) → Settled held s new → left_to_parse s.writer + 3 * pages s.ledger + 1 < n → left_to_do (desk_of new) < n
settled-less n held s new x less = leaves-less n x.answer held s new x.mid x.left x.leaves (omega (arith, x.no_more, less))

tagged-less : (s new : Side) (i : NodeId) (held : Parser) → s.writer.pending ≡ None → RunsTagged i held s new → left_to_do (desk_of new) < left_to_do (desk_of (at_stage (Tagged i held) s))
tagged-less s new i held idle x =
    let before = weighs (Tagged i held) (at_stage (Tagged i held) s) refl in
    let none : scripts_awaited s.writer.pending ≡ 0 = ap scripts_awaited idle in
    settled-less (left_to_do (desk_of (at_stage (Tagged i held) s))) held (with_writer x.mid s) new x.settled (omega (arith, before, none, x.one_more))

waited-less : (n : ℕ) (held : Parser) (s new : Side) (mid : View) → suc (left_to_parse mid) ≤ left_to_parse s.writer → Settled held (with_writer mid s) new → written_left s.writer + 3 * pages s.ledger + 2 ≡ n →
    scripts_awaited s.writer.pending ≡ 1 → left_to_do (desk_of new) < n
waited-less n held s new mid less x is one = settled-less n held (with_writer mid s) new x (omega (arith, less, is, one))

fetched-less : (f : Fetched) (s new : Side) (name : List ℕ) (held : Parser) → s.writer.pending ≡ Some name → RunsFetched f name held s new → left_to_do (desk_of new) < left_to_do (desk_of (at_stage (Waits name held) s))
fetched-less (got bytes) s new name held waits x =
    waited-less (left_to_do (desk_of (at_stage (Waits name held) s))) held s new x.mid x.less x.settled (sym (weighs (Waits name held) (at_stage (Waits name held) s) refl)) (ap scripts_awaited waits)
fetched-less missing s new name held waits x =
    waited-less (left_to_do (desk_of (at_stage (Waits name held) s))) held s new x.mid x.less x.settled (sym (weighs (Waits name held) (at_stage (Waits name held) s) refl)) (ap scripts_awaited waits)
fetched-less faulted s new name held waits x =
    let before = weighs (Waits name held) (at_stage (Waits name held) s) refl in
    done-less (left_to_do (desk_of (at_stage (Waits name held) s))) (end.Refused why.Fault) true s new x (omega (arith, before))

pub acts-less : (stage : Stage) (s new : Side) → s.stage ≡ Free → IsSound (at_stage stage s) → ActsBy stage s new → left_to_do (desk_of new) < left_to_do (desk_of (at_stage stage s))
acts-less Free s new free sound x =
    let same : left_to_do (desk_of s) ≡ left_to_do (desk_of (at_stage Free s)) = ap (λ t. left_to_do (desk_of (at_stage t s))) free in
    let less : left_to_do (desk_of new) < left_to_do (desk_of s) = batch-less s new free x in
    omega (arith, same, less)
acts-less (Tagged i held) s new free sound x = tagged-less s new i held sound.stands.idle.pending x
acts-less (Waits name held) s new free sound x = fetched-less (met s name) s new name held sound.stands.pending x
acts-less (Done w in_hand) s new free sound x = absurd x
