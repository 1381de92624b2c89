-- What Do leaves as it is, and what the side shows behind it.
use Rattle.std.proofs.Common.{◌≡◌, ◌<◌, ℕ, suc, Bool, true, false, true≢false, List, [], ◌∷◌, ◌++◌, Option, Some, None, Result, Ok, Err, OnOk, refl, sym, ◌∙◌, ap, subst, IsTrue}
use Rattle.html_types.specs.declared.instruction.Stop.TheVariants as stop
use Rattle.html_types.specs.declared.operation.NodeId.{NodeId}
use Rattle.serial.specs.declared.script.Line.{Line}
use Rattle.html_types.specs.declared.ending.Why.{Why}
use Rattle.html_types.specs.declared.ending.Why.TheVariants as why
use Rattle.standard.specs.Entities.{Entities}
use Rattle.standard.specs.Parser.{Parser}
use Rattle.serial.specs.Scripts.{Fetched, got, missing, faulted}
use Rattle.serial.specs.Serial.{World, fetched}
use Rattle.core_definitions.specs.declared.event.Event.TheVariants.{Do}
use Rattle.core_definitions.specs.declared.verdict.Verdict.{Verdict}
use Rattle.core_definitions.specs.declared.verdict.Verdict.TheVariants.{Keep, Rewind}
use Rattle.core_definitions.specs.Desk.{Desk, Does, can_do}
use Rattle.core_definitions.specs.Journal.{Journal, Knows}
use Rattle.write_parser.specs.declared.left.Left.{Left}
use Rattle.write_parser.specs.declared.left.Left.TheVariants as left
use Rattle.write_parser.specs.Writing.{View}
use Rattle.speculation.specs.declared.batch.Halt as code
use Rattle.speculation.specs.declared.batch.Halt.TheVariants as halt
use Rattle.core_steps.specs.declared.stage.Stage.{Stage}
use Rattle.core_steps.specs.declared.stage.Stage.TheVariants.{Free, Tagged, Waits, Done}
use Rattle.core_steps.specs.declared.side.Side.{Side}
use Rattle.parse_machine.specs.declared.end.End.{End}
use Rattle.parse_machine.specs.declared.end.End.TheVariants as end
use Rattle.core_steps.specs.Fetches.{names_of}
use Rattle.core_steps.specs.Sides.{Shows, DoesShow, journaled, lines_given, desk_of, shown_of, left_to_do, IsPlaced, IsSound}
use Rattle.core_steps.specs.Acting.{ended, at_stage, Executed, MeetsTag, runs_there, Halts, RunsBatch, with_writer, JudgedAs, LeavesBy, Settled, RunsTagged, met, RunsFetched, ActsBy}
use Rattle.core_steps.proofs.Acts.{ShownBehind, Halted, Fetches, acts-show}
use Rattle.core_steps.proofs.Kept.{fetched-met}
use Rattle.core_steps.proofs.Sizes.{acts-less}
use Rattle.core_steps.proofs.Sound.{acts-sound}

-- ---- what stays

-- the entities, the lines that were taken and the credit are as they were
record Stays (old new : Side) : Type 0 where
  table : new.table ≡ old.table
  given : lines_given new.given.items ≡ lines_given old.given.items
  ahead : new.ledger.ahead ≡ old.ledger.ahead

stays-same : (old : Side) → Stays old old
stays-same old = record { table = refl; given = refl; ahead = refl }

stays-then : (a b c : Side) → Stays a b → Stays b c → Stays a c
stays-then a b c x y = record { table = y.table ∙ x.table; given = y.given ∙ x.given; ahead = y.ahead ∙ x.ahead }

-- what is as one of which that is known
stays-as : (old mid new : Side) → new ≡ mid → Stays old mid → Stays old new
stays-as old mid new is x = subst (Stays old) (sym is) x

ended-stays : (w : End) (in_hand : Bool) (old new : Side) → new ≡ ended w in_hand old → Stays old new
ended-stays w in_hand old new is = stays-as old (ended w in_hand old) new is (record { table = refl; given = refl; ahead = refl })

executed-stays : (old new : Side) (h : code.Halt) → Executed old h new → Stays old new
executed-stays old new h x = record {
  table = ap (λ (z : Side). z.table) x.is;
  given = ap (λ (z : Side). lines_given z.given.items) x.is;
  ahead = ap (λ (z : Side). z.ledger.ahead) x.is;
}

tag-stays : (run : Bool) (i : NodeId) (old new : Side) → MeetsTag run i old new → Stays old new
tag-stays false i old new is = stays-as old old new is (stays-same old)
tag-stays true i old new is = record {
  table = ap (λ (z : Side). z.table) is;
  given = ap (λ (z : Side). lines_given z.given.items) is;
  ahead = ap (λ (z : Side). z.ledger.ahead) is;
}

halts-stay : (h : code.Halt) (old new : Side) → Halts h old new → Stays old new
halts-stay (halt.At stop.InputEnd) old new is = stays-as old old new is (stays-same old)
halts-stay (halt.At (stop.Script i)) old new is = tag-stays (runs_there i old) i old new is
halts-stay (halt.At stop.Deep) old new is = ended-stays (end.Refused why.Depth) false old new is
halts-stay (halt.Over e) old new is = ended-stays e false old new is

judged-stays : (c : Verdict) (held : Parser) (old new : Side) → JudgedAs c held old new → Stays old new
judged-stays Keep held old new is = record {
  table = ap (λ (z : Side). z.table) is;
  given = ap (λ (z : Side). lines_given z.given.items) is;
  ahead = ap (λ (z : Side). z.ledger.ahead) is;
}
judged-stays Rewind held old new is = record {
  table = ap (λ (z : Side). z.table) is;
  given = ap (λ (z : Side). lines_given z.given.items) is;
  ahead = ap (λ (z : Side). z.ledger.ahead) is;
}

leaves-stay : (answer : Left) (held : Parser) (old new : Side) → LeavesBy answer held old new → Stays old new
leaves-stay left.Empty held old new (c, verdict, is) = judged-stays c held old new is
leaves-stay (left.Awaits name) held old new is = record {
  table = ap (λ (z : Side). z.table) is;
  given = ap (λ (z : Side). lines_given z.given.items) is;
  ahead = ap (λ (z : Side). z.ledger.ahead) is;
}
leaves-stay (left.Refused l) held old new is = ended-stays (end.Refused l) true old new is

settled-stays : (held : Parser) (v : View) (old new : Side) → Settled held (with_writer v old) new → Stays old new
settled-stays held v old new x = by (leaves-stay x.answer held (with_writer x.mid old) new x.leaves)
  where
    by : Stays (with_writer x.mid old) new → Stays old new
    by s = record { table = s.table; given = s.given; ahead = s.ahead }

fetched-stays : (f : Fetched) (name : List ℕ) (held : Parser) (old new : Side) → RunsFetched f name held old new → Stays old new
fetched-stays (got bytes) name held old new x = settled-stays held x.mid old new x.settled
fetched-stays missing name held old new x = settled-stays held x.mid old new x.settled
fetched-stays faulted name held old new x = ended-stays (end.Refused why.Fault) true old new x

acts-stay : (stage : Stage) (old new : Side) → ActsBy stage old new → Stays old new
acts-stay Free old new x = stays-then old x.mid new (executed-stays old x.mid x.halt x.executed) (halts-stay x.halt x.mid new x.halts)
acts-stay (Tagged i held) old new x = settled-stays held x.mid old new x.settled
acts-stay (Waits name held) old new x = fetched-stays (met old name) name held old new x
acts-stay (Done w in_hand) old new x = absurd x

-- ---- behind Do

-- where a script is awaited the page isn't refused, and the script has arrived
halted-of : (stage : Stage) (s : Side) → IsSound (at_stage stage s) → Halted stage s
halted-of Free s sound = tt
halted-of (Tagged i held) s sound = tt
halted-of (Waits name held) s sound = sound.stands.halted
halted-of (Done w in_hand) s sound = tt

fetches-of : (w : World) (stage : Stage) (s : Side) → Knows s.journal.fetches w → IsTrue (can_do (desk_of (at_stage stage s))) → Fetches w stage s
fetches-of w Free s knows can = tt
fetches-of w (Tagged i held) s knows can = tt
fetches-of w (Waits name held) s knows can = fetched-met w name s.journal.fetches knows can
fetches-of w (Done why in_hand) s knows can = tt

-- Do was done, and the event is in the journal
module _ (stage : Stage) (s mid : Side) (j : Journal) (free : s.stage ≡ Free) (sound : IsSound (at_stage stage s)) (can : IsTrue (can_do (desk_of (at_stage stage s)))) (acts : ActsBy stage s mid)
    (same : mid.journal ≡ s.journal) (added : j ≡ record mid.journal { events = mid.journal.events ++ Do ∷ [] }) where
  abbrev old : Side
  old = at_stage stage s

  abbrev new : Side
  new = record mid { journal = j }

  -- the desk is as without it
  same-desk : desk_of mid ≡ desk_of new
  same-desk = sym (ap (λ (z : Journal). desk_of (record mid { journal = z })) added)

  pub act-sound : IsSound new
  act-sound =
      let h : IsSound mid = acts-sound stage s mid free sound acts in
      record {
        going = h.going;
        stands = h.stands;
        ahead = h.ahead;
        placed = subst (λ (z : Journal). IsPlaced mid.counts.place mid.counts.sent_to mid.ledger z) (sym added)
            (record { asked = h.placed.asked; to_send = h.placed.to_send; within = h.placed.within });
      }

  pub act-does : DoesShow s.table s.journal.fetches (desk_of old) (desk_of new)
  act-does w es knows = subst (λ (e : Desk). (d' : Desk) × Does w (desk_of old) d' × Shows d' e) same-desk (acts-show w stage s mid es free (halted-of stage s sound) (fetches-of w stage s knows can) acts)

  pub act-shown : shown_of new false ≡ journaled Do (desk_of new) (shown_of old false)
  act-shown =
      let x : Stays s mid = acts-stay stage s mid acts in
      ap (λ ls. record (shown_of new false) { given = ls }) x.given
      ∙ (ap (λ (z : Journal). record (shown_of new false) { given = lines_given s.given.items; journal = z }) (added ∙ ap (λ (z : Journal). record z { events = z.events ++ Do ∷ [] }) same)
      ∙ (ap (λ (es : Entities). record (journaled Do (desk_of new) (shown_of old false)) { entities = es; ahead = mid.ledger.ahead }) x.table
      ∙ ap (λ a. record (journaled Do (desk_of new) (shown_of old false)) { ahead = a }) x.ahead))

  pub act-less : left_to_do (desk_of new) < left_to_do (desk_of old)
  act-less = subst (λ (d : Desk). left_to_do d < left_to_do (desk_of old)) same-desk (acts-less stage s mid free sound acts)

-- what a call's success gives
pub on_ok : {T E : Type 0} (r : Result T E) (P Q : Type 0) → (P → Q) → OnOk r P → OnOk r Q
on_ok (Ok x) P Q more has = more has
on_ok (Err e) P Q more has = tt

-- the stage is taken out of the side before
module _ (old : Side) (stage freed : Stage) (mid : Side) (j : Journal) (value : stage ≡ old.stage) (after : freed ≡ Free) (known : IsSound old) (able : IsTrue (can_do (desk_of old)))
    (parts : ActsBy stage (at_stage freed old) mid) (same : mid.journal ≡ old.journal) (added : j ≡ record mid.journal { events = mid.journal.events ++ Do ∷ [] }) where
  by_stage : ActsBy old.stage (at_stage freed old) mid
  by_stage = subst (λ t. ActsBy t (at_stage freed old) mid) value parts

  pub taken-sound : IsSound (record mid { journal = j })
  taken-sound = act-sound old.stage (at_stage freed old) mid j after known able by_stage same added

  pub taken-does : DoesShow old.table old.journal.fetches (desk_of old) (desk_of (record mid { journal = j }))
  taken-does = act-does old.stage (at_stage freed old) mid j after known able by_stage same added

  pub taken-shown : shown_of (record mid { journal = j }) false ≡ journaled Do (desk_of (record mid { journal = j })) (shown_of old false)
  taken-shown = act-shown old.stage (at_stage freed old) mid j after known able by_stage same added

  pub taken-less : left_to_do (desk_of (record mid { journal = j })) < left_to_do (desk_of old)
  taken-less = act-less old.stage (at_stage freed old) mid j after known able by_stage same added
