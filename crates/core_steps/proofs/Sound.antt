-- What is known of a side stays known behind each part of Do.
use Rattle.std.proofs.Common.{◌≡◌, ◌≢◌, ◌<◌, ◌≤◌, ◌+◌, ℕ, suc, Bool, true, false, List, [], ◌∷◌, ◌++◌, length, Option, Some, None, refl, sym, ◌∙◌, ap, subst, IsTrue, arith, length-append}
use Rattle.std.specs.Prelude.{◌&&◌, is_none, if◌then◌else◌}
use Rattle.std.proofs.lemmas.Bool.{and_parts}
use Rattle.html_types.specs.declared.operation.NodeId.{NodeId}
use Rattle.html_types.specs.declared.instruction.Stop.TheVariants as stop
use Rattle.html_types.specs.declared.ending.Ending.{Ending}
use Rattle.html_types.specs.declared.ending.Ending.TheVariants as ending
use Rattle.html_types.specs.declared.ending.Why.{Why}
use Rattle.html_types.specs.declared.ending.Why.TheVariants as why
use Rattle.serial.specs.declared.script.Line.{Line}
use Rattle.standard.specs.Act.{Doc, is_bound}
use Rattle.standard.specs.Entities.{Entities}
use Rattle.standard.specs.Parser.{Parser}
use Rattle.serial.specs.Scripts.{Fetched, got, missing, faulted, is_lawful, file_statements}
use Rattle.serial.specs.Serial.{World, Serial, Course, Moment, reading, tag_ended, awaits, over, moment_after, Leads, after_fetch, after_script, run_text}
use Rattle.rule_laws.specs.Naming.{Serves, AreFresh}
use Rattle.core_definitions.specs.declared.verdict.Verdict.{Verdict}
use Rattle.core_definitions.specs.declared.verdict.Verdict.TheVariants.{Keep, Rewind}
use Rattle.core_definitions.specs.Batches.{Piece, Batch, Halt, at, answer}
use Rattle.core_definitions.specs.Core.{joined}
use Rattle.core_definitions.specs.Journal.{Journal}
use Rattle.core_definitions.specs.Desk.{blank, renewed, sent_again}
use Rattle.core_definitions.specs.Settling.{Through, is_empty}
use Rattle.core_definitions.specs.StandsFor.{text_of}
use Rattle.core_laws.proofs.Cutting.{GoesOn}
use Rattle.moment_laws.specs.Served.{HasRoom, IsRoomy, AreBelow, state_at, IsServedAt, Binds}
use Rattle.moment_laws.proofs.Served.{room-serves, renewing-room, moments-room, moments-bind, held-room}
use Rattle.moment_laws.proofs.Through.{through-leads}
use Rattle.standard_laws.proofs.Passing.{leads-same, leads-next}
use Rattle.page_pieces.specs.Keeping.{Kept, rewound}
use Rattle.write_parser.specs.declared.left.Left.{Left}
use Rattle.write_parser.specs.declared.left.Left.TheVariants as left
use Rattle.std.proofs.lemmas.Option.{none-some}
use Rattle.write_parser.specs.Writing.{View, serial_of, moment_by, moment_of, StandsBy, Stands, AtTag, LeadsTo, LeftIs, HasRun, HasMissed, StaysBy}
use Rattle.speculation.specs.declared.batch.Halt as code
use Rattle.speculation.specs.declared.batch.Halt.TheVariants as halt
use Rattle.speculation.specs.Halting.{halt_of}
use Rattle.core_steps.specs.declared.stage.Stage.{Stage}
use Rattle.core_steps.specs.declared.stage.Stage.TheVariants.{Free, Tagged, Waits, Done}
use Rattle.core_steps.specs.declared.side.Side.{Side}
use Rattle.parse_machine.specs.declared.end.End.{End}
use Rattle.parse_machine.specs.declared.end.End.TheVariants as end
use Rattle.core_steps.specs.Sides.{hand_of, IsIdle, IsHolding, IsTagged, IsWaiting, IsFree, StandsIn, AreAhead, IsPlaced, IsSound}
use Rattle.core_steps.specs.Acting.{ended, at_stage, free_hand, Executed, IsHaltBound, MeetsTag, runs_there, Halts, RunsBatch, with_writer, JudgedAs, Judged, LeavesBy, Settled, RunsTagged, met, RunsText, Misses, RunsFetched, ActsBy}
use Rattle.core_steps.proofs.Settles.{ComesNext, comes-next, fetch-after}

-- ---- ids, from moment to moment

abbrev some_world : Entities → Fetched → World
some_world es f = record { entities = es; scripts = λ name. f }

-- where the view stands
state-of : (pending : Option (List ℕ)) (s : Serial) → state_at (moment_by pending s) ≡ s
state-of None s = refl
state-of (Some name) s = refl

-- From a moment whose state is the view's, the parse leads to one for which another view stands.
pub holding-led : (w : World) (realm : ℕ) (held : Parser) (v v' : View) (m to : Moment) → state_at m ≡ serial_of v [] [] → Leads ending.End w m to → to ≡ moment_of v' [] [] → IsHolding realm held v → IsHolding realm held v'
holding-led w realm held v v' m to from leads stands h =
    let s : Serial = serial_of v [] [] in
    let t : Serial = serial_of v' [] [] in
    let end : state_at to ≡ t = ap state_at stands ∙ state-of v'.pending t in
    let served : IsServedAt (HasRoom realm) m = subst (λ (z : Serial). Serves (HasRoom realm) (is_bound z.side.doc.bound) z.parser.open_state) (sym from) h.room in
    let room : IsRoomy realm v'.parser v'.doc =
    subst (λ (z : Serial). Serves (HasRoom realm) (is_bound z.side.doc.bound) z.parser.open_state) end (moments-room realm ending.End w m to leads served) in
    let fresh : IsServedAt AreFresh m = subst (λ (z : Serial). Serves AreFresh (is_bound z.side.doc.bound) z.parser.open_state) (sym from) (room-serves realm v.parser v.doc h.room) in
    let binds : Binds s t = subst (λ (z : Serial). Binds z t) from (subst (λ (z : Serial). Binds (state_at m) z) end (moments-bind ending.End w m to leads fresh)) in
    record {
      room = room;
      held_room = held-room realm held s t binds h.apart room.coming.below h.held_room;
      apart = λ e. h.apart (e ∙ binds.realm);
    }

-- where the page isn't refused
going-stands : (v : View) (to : Moment) → v.halted ≡ None → Stands v [] [] to → to ≡ moment_of v [] []
going-stands v to going stands = subst (λ h. StandsBy h v [] [] to) going stands

led-from : (es : Entities) (realm : ℕ) (held : Parser) (v v' : View) (From : List Line → List ℕ → Moment → Type 0) (m : Moment) → LeadsTo es From v' → From [] [] m → state_at m ≡ serial_of v [] [] → v'.halted ≡ None →
    IsHolding realm held v → IsHolding realm held v'
led-from es realm held v v' From m leads here from going h =
    let w : World = some_world es missing in
    let there = leads.leads ending.End w m [] [] refl here in
    holding-led w realm held v v' m there.0 from (through-leads ending.End w m m there.0 (leads-same ending.End w m) there.2) (going-stands v' there.0 going there.1) h

-- behind the end tag of a script
pub holding-tag : (es : Entities) (realm : ℕ) (held : Parser) (v v' : View) (i : NodeId) → LeadsTo es (AtTag i v) v' → v'.halted ≡ None → IsHolding realm held v → IsHolding realm held v'
holding-tag es realm held v v' i leads going h = led-from es realm held v v' (AtTag i v) (tag_ended i (serial_of v [] [])) leads refl refl going h

-- behind what was written
pub holding-fed : (es : Entities) (realm : ℕ) (held : Parser) (v v' : View) → LeadsTo es (Stands v) v' → v.halted ≡ None → v'.halted ≡ None → IsHolding realm held v → IsHolding realm held v'
holding-fed es realm held v v' leads before going h =
    led-from es realm held v v' (Stands v) (moment_of v [] []) leads (subst (λ k. StandsBy k v [] [] (moment_of v [] [])) (sym before) refl) (state-of v.pending (serial_of v [] [])) going h

-- a name that is lawful
some-name : is_lawful (97 ∷ []) ≡ true
unfolding is_lawful
some-name = refl

-- behind the text of a script
pub holding-ran : (es : Entities) (realm : ℕ) (held : Parser) (bytes : List ℕ) (v v' : View) → HasRun es None v v' (file_statements bytes) → v'.halted ≡ None → IsHolding realm held v → IsHolding realm held v'
unfolding moment_after is_lawful
holding-ran es realm held bytes v v' ran going h =
    let w : World = some_world es (got bytes) in
    let s : Serial = serial_of v [] [] in
    let m : Moment = awaits (97 ∷ []) s in
    let there = ran.comes w [] [] refl in
    let f : Course = there.0 in
    let next : ComesNext f v' [] = comes-next v'.halted v' [] f refl there.1 in
    let run = there.2 in
    let after : moment_after run.0 ending.End w m ≡ Some next.next = ap after_script run.1 ∙ next.after in
    holding-led w realm held v v' m next.next refl (leads-next ending.End w m run.0 m next.next (leads-same ending.End w m) after) (going-stands v' next.next going next.stands) h

-- ---- a realm more

pub room-more : (realm : ℕ) (p : Parser) (d : Doc) → IsRoomy realm p d → IsRoomy (suc realm) p d
room-more realm p d h = record {
  stack_bound = h.stack_bound;
  formats_bound = h.formats_bound;
  head_bound = h.head_bound;
  form_bound = h.form_bound;
  coming = record {
    fresh = h.coming.fresh;
    below = λ id bound. let l : id.realm < realm = h.coming.below id bound in omega (arith, l);
    next_below = omega (arith, h.coming.next_below);
  };
}

-- the state behind an end tag is held, and the parser goes on with ids of the next realm
pub holding-renewed : (realm : ℕ) (v : View) → IsRoomy realm v.parser v.doc → IsHolding (suc realm) v.parser (record v { parser = renewed realm v.parser })
holding-renewed realm v room = record {
  room = renewing-room realm v.parser v.doc room;
  held_room = room-more realm v.parser v.doc room;
  apart = λ (e : v.parser.open_state.next.realm ≡ realm). let l : v.parser.open_state.next.realm < realm = room.coming.next_below in absurd (omega (arith, e, l));
}

-- ---- places

pub text-append : (xs ys : List Piece) → text_of (xs ++ ys) ≡ text_of xs ++ text_of ys
text-append [] ys = refl
text-append (x ∷ xs) ys = ap (λ t. x.text ++ t) (text-append xs ys) ∙ sym (append_assoc x.text (text_of xs) (text_of ys))
  where
    append_assoc : (a b c : List ℕ) → (a ++ b) ++ c ≡ a ++ (b ++ c)
    append_assoc [] b c = refl
    append_assoc (y ∷ a) b c = ap (λ t. y ∷ t) (append_assoc a b c)

pub text-again : (xs : List Piece) → text_of (sent_again xs) ≡ text_of xs
text-again [] = refl
text-again (x ∷ xs) = by x.text x.ending (text-again xs)
  where
    by : (t : List ℕ) (o : Option Ending) → text_of (sent_again xs) ≡ text_of xs →
        text_of (if is_empty t && is_none o then sent_again xs else record { text = t; ending = o } ∷ sent_again xs) ≡ t ++ text_of xs
    by [] None h = h
    by [] (Some e) h = h
    by (c ∷ cs) o h = ap (λ u. (c ∷ cs) ++ u) h

pub placed-rewound : (place sent_to : ℕ) (k : Kept) (j : Journal) → IsPlaced place sent_to k j → IsPlaced place place (rewound k) j
placed-rewound place sent_to k j h =
    let all : length (text_of (sent_again (k.left ∷ k.asked) ++ k.to_send)) ≡ length (text_of (k.left ∷ k.asked)) + length (text_of k.to_send) =
    ap length (text-append (sent_again (k.left ∷ k.asked)) k.to_send ∙ ap (λ t. t ++ text_of k.to_send) (text-again (k.left ∷ k.asked))) ∙ length-append (text_of (k.left ∷ k.asked)) (text_of k.to_send) in
    record {
      asked = omega arith;
      to_send = omega (arith, all, h.asked, h.to_send);
      within = h.within;
    }

-- ---- batches that were made ahead

pub ahead-none : (hand : List Batch) → AreAhead [] hand
ahead-none hand = tt

-- ---- with no script in hand

tag-sound : (i : NodeId) (run : Bool) (mid new : Side) → mid.stage ≡ Free → mid.writer.spent ≡ false → IsFree mid.counts.realm mid.writer → AreAhead mid.ready (free_hand mid) →
    IsPlaced mid.counts.place mid.counts.sent_to mid.ledger mid.journal → IsTrue (is_bound mid.writer.doc.bound i) → MeetsTag run i mid new → IsSound new
tag-sound i false mid new stage going free ahead placed bound m = subst IsSound (sym m) (record {
  going = going;
  stands = subst (λ t. StandsIn t mid.counts.realm mid.writer) (sym stage) free;
  ahead = subst (λ t. AreAhead mid.ready (hand_of mid.table t mid.writer.parser mid.ledger.left)) (sym stage) ahead;
  placed = placed;
})
tag-sound i true mid new stage going free ahead placed bound m = subst IsSound (sym m) (record {
  going = going;
  stands = record {
    idle = record { rest = free.idle.rest; pending = free.idle.pending; halted = free.idle.halted };
    bound = bound;
    holding = holding-renewed mid.counts.realm mid.writer free.room;
  };
  ahead = ahead;
  placed = placed;
})

done-sound : (w : End) (in_hand : Bool) (mid new : Side) → mid.writer.spent ≡ false → IsPlaced mid.counts.place mid.counts.sent_to mid.ledger mid.journal → new ≡ ended w in_hand mid → IsSound new
done-sound w in_hand mid new going placed m = subst IsSound (sym m) (record { going = going; stands = tt; ahead = tt; placed = placed })

halt-sound : (h : code.Halt) (mid new : Side) → mid.stage ≡ Free → mid.writer.spent ≡ false → IsFree mid.counts.realm mid.writer → GoesOn (halt_of h) (AreAhead mid.ready (free_hand mid)) →
    IsPlaced mid.counts.place mid.counts.sent_to mid.ledger mid.journal → IsHaltBound (is_bound mid.writer.doc.bound) (halt_of h) → Halts h mid new → IsSound new
halt-sound (halt.At stop.InputEnd) mid new stage going free ahead placed bound m = subst IsSound (sym m) (record {
  going = going;
  stands = subst (λ t. StandsIn t mid.counts.realm mid.writer) (sym stage) free;
  ahead = subst (λ t. AreAhead mid.ready (hand_of mid.table t mid.writer.parser mid.ledger.left)) (sym stage) ahead;
  placed = placed;
})
halt-sound (halt.At (stop.Script i)) mid new stage going free ahead placed bound m = tag-sound i (runs_there i mid) mid new stage going free ahead placed bound m
halt-sound (halt.At stop.Deep) mid new stage going free ahead placed bound m = done-sound (end.Refused why.Depth) false mid new going placed m
halt-sound (halt.Over e) mid new stage going free ahead placed bound m = done-sound e false mid new going placed m

batch-sound : (s new : Side) → s.stage ≡ Free → s.writer.spent ≡ false → IsIdle s.writer → RunsBatch s new → IsSound new
batch-sound s new stage going idle x =
    let e = x.executed in
    let mid : Side = x.mid in
    let writer : mid.writer ≡ record s.writer { parser = mid.writer.parser; doc = mid.writer.doc } =
    ap (λ (z : Side). z.writer) e.is ∙ sym (ap (λ (z : Side). record s.writer { parser = z.writer.parser; doc = z.writer.doc }) e.is) in
    let still : IsIdle mid.writer = subst IsIdle (sym writer) (record { rest = idle.rest; pending = idle.pending; halted = idle.halted }) in
    let realm : s.counts.realm ≡ mid.counts.realm = sym (ap (λ (z : Side). z.counts.realm) e.is) in
    halt-sound x.halt mid new (ap (λ (z : Side). z.stage) e.is ∙ stage) (ap (λ (v : View). v.spent) writer ∙ going)
    (record { idle = still; room = subst (λ r. IsRoomy r mid.writer.parser mid.writer.doc) realm e.room })
    (subst (λ h. GoesOn h (AreAhead mid.ready (free_hand mid))) (sym e.halt) e.ahead) e.placed
    (subst (λ h. IsHaltBound (is_bound mid.writer.doc.bound) h) (sym e.halt) e.bound) x.halts

-- ---- with a script in hand

settled-sound : (held : Parser) (s new : Side) → AreAhead s.ready (answer s.table (Some held) s.ledger.left).batches → IsPlaced s.counts.place s.counts.sent_to s.ledger s.journal → Settled held s new → IsSound new
settled-sound held s new ahead placed x = by x.answer x.left x.leaves
  where
    judged : (c : Verdict) → IsHolding s.counts.realm held x.mid → IsIdle x.mid → JudgedAs c held (with_writer x.mid s) new → IsSound new
    judged Keep holding idle m = subst IsSound (sym m) (record {
      going = x.kept;
      stands = record { idle = record { rest = idle.rest; pending = idle.pending; halted = idle.halted }; room = holding.held_room };
      ahead = ahead;
      placed = placed;
    })
    judged Rewind holding idle m = subst IsSound (sym m) (record {
      going = x.kept;
      stands = record { idle = record { rest = idle.rest; pending = idle.pending; halted = idle.halted }; room = renewing-room s.counts.realm x.mid.parser x.mid.doc holding.room };
      ahead = tt;
      placed = placed-rewound s.counts.place s.counts.sent_to s.ledger s.journal placed;
    })

    by : (answer : Left) → LeftIs x.mid answer → LeavesBy answer held (with_writer x.mid s) new → IsSound new
    by left.Empty (halted, pending, rest) (c, verdict, m) = judged c (x.holding halted) (record { rest = rest; pending = pending; halted = halted }) m
    by (left.Awaits name) (halted, pending) m = subst IsSound (sym m) (record {
      going = x.kept;
      stands = record { pending = pending; halted = halted; holding = x.holding halted };
      ahead = ahead;
      placed = placed;
    })
    by (left.Refused l) halted m = done-sound (end.Refused l) true (with_writer x.mid s) new x.kept placed m

fetched-sound : (f : Fetched) (name : List ℕ) (held : Parser) (s new : Side) → s.writer.spent ≡ false → AreAhead s.ready (answer s.table (Some held) s.ledger.left).batches →
    IsPlaced s.counts.place s.counts.sent_to s.ledger s.journal → RunsFetched f name held s new → IsSound new
fetched-sound (got bytes) name held s new going ahead placed x = settled-sound held (with_writer x.mid s) new ahead placed x.settled
fetched-sound missing name held s new going ahead placed x = settled-sound held (with_writer x.mid s) new ahead placed x.settled
fetched-sound faulted name held s new going ahead placed x = done-sound (end.Refused why.Fault) true s new going placed x

pub acts-sound : (stage : Stage) (s new : Side) → s.stage ≡ Free → IsSound (at_stage stage s) → ActsBy stage s new → IsSound new
acts-sound Free s new free sound x = batch-sound s new free sound.going sound.stands.idle x
acts-sound (Tagged i held) s new free sound x = settled-sound held (with_writer x.mid s) new sound.ahead sound.placed x.settled
acts-sound (Waits name held) s new free sound x = fetched-sound (met s name) name held s new sound.going sound.ahead sound.placed x
acts-sound (Done w in_hand) s new free sound x = absurd x

-- ---- where the parser goes on, and how scripts that are awaited leave it

-- what was written was parsed as far as it goes, and the page isn't refused
pub holding-settled : (es : Entities) (realm : ℕ) (held : Parser) (old mid : View) → (old.halted ≡ None → IsHolding realm held old) → LeadsTo es (Stands old) mid → StaysBy old.halted old.pending old mid → mid.halted ≡ None →
    IsHolding realm held mid
holding-settled es realm held old mid h leads stays going = by old.halted refl stays
  where
    by : (k : Option Why) → old.halted ≡ k → StaysBy k old.pending old mid → IsHolding realm held mid
    by None is s = holding-fed es realm held old mid leads is going (h is)
    by (Some r) is same = absurd (none-some r (sym going ∙ (ap (λ (v : View). v.halted) same ∙ is)))

-- a script that was awaited is missing
pub holding-missed : (realm : ℕ) (name : List ℕ) (held : Parser) (old mid : View) → HasMissed None (Some name) old mid → IsHolding realm held old → IsHolding realm held mid
holding-missed realm name held old mid missed h = subst (IsHolding realm held) (sym missed) (record { room = h.room; held_room = h.held_room; apart = h.apart })
