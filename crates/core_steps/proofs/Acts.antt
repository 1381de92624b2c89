-- What Do makes of the side is what the definitions say of its desk.
use Rattle.std.proofs.Common.{◌≡◌, ℕ, suc, Bool, true, false, List, [], ◌∷◌, ◌++◌, length, drop, Option, Some, None, refl, sym, ◌∙◌, ap, subst, IsTrue}
use Rattle.std.proofs.Math.Seq.{drop-append_seam}
use Rattle.html_types.specs.declared.operation.NodeId.{NodeId}
use Rattle.html_types.specs.declared.instruction.Stop.TheVariants as stop
use Rattle.html_types.specs.declared.ending.Why.{Why}
use Rattle.html_types.specs.declared.ending.Why.TheVariants as why
use Rattle.serial.specs.declared.script.Line.{Line}
use Rattle.standard.specs.Parser.{Parser}
use Rattle.standard.specs.Entities.{Entities}
use Rattle.serial.specs.Scripts.{Fetched, got, missing, faulted, file_statements}
use Rattle.serial.specs.Serial.{World, fetched, Serial, Moment, reading, tag_ended, awaits, over, refused, prepared}
use Rattle.core_definitions.specs.declared.verdict.Verdict.{Verdict}
use Rattle.core_definitions.specs.declared.verdict.Verdict.TheVariants.{Keep, Rewind}
use Rattle.core_definitions.specs.Batches.{Batch, Halt, at, answer}
use Rattle.core_definitions.specs.Verdict.{runs}
use Rattle.core_definitions.specs.Desk.{Desk, Phase, free, tagged, waits, done, blank, in_phase, at_end_tag, behind_halt, with_executed, executes, decided, Does, DoesIn, RunsOn, Concludes}
use Rattle.core_definitions.specs.Settling.{Settles}
use Rattle.core_laws.proofs.Cutting.{GoesOn, blank-answer}
use Rattle.write_parser.specs.declared.left.Left.{Left}
use Rattle.write_parser.specs.declared.left.Left.TheVariants as left
use Rattle.write_parser.specs.Writing.{View, serial_of, AtTag, Stands, LeadsTo, LeftIs, HasRun, HasMissed}
use Rattle.speculation.specs.declared.batch.Halt as code
use Rattle.speculation.specs.declared.batch.Halt.TheVariants as halt
use Rattle.speculation.specs.Halting.{halt_of}
use Rattle.core_steps.specs.declared.stage.Stage.{Stage}
use Rattle.core_steps.specs.declared.stage.Stage.TheVariants.{Free, Tagged, Waits, Done}
use Rattle.core_steps.specs.declared.side.Side.{Side}
use Rattle.parse_machine.specs.declared.end.End.{End}
use Rattle.parse_machine.specs.declared.end.End.TheVariants as end
use Rattle.core_steps.specs.Sides.{lines_given, desk_of, hand_of, phase_of, ShowsIn, Shows}
use Rattle.core_steps.specs.Acting.{ended, at_stage, free_hand, Executed, MeetsTag, runs_there, Halts, RunsBatch, with_writer, JudgedAs, Judged, LeavesBy, Settled, RunsTagged, met, RunsText, Misses, RunsFetched, ActsBy}
use Rattle.parse_machine.specs.Ends.{result_of}
use Rattle.core_steps.proofs.Counts.{counts-same}
use Rattle.core_steps.proofs.Settles.{EndsAt, SettlesAt, tag-settles, miss-settles, ran-settles, fault-settles}

-- what is shown of a desk that is what is told
pub shows-all : (d v : Desk) → d ≡ v → Shows d v
shows-all d v is = by v.phase
  where
    by : (p : Phase) → ShowsIn p d v
    by free = is
    by (tagged i held) = is
    by (waits name held) = is
    by (done r) = (subst (λ z. d ≡ record z { own = d.own; hand = d.hand }) is refl, ap (λ (z : Desk). z.own.side.doc) is, ap (λ (z : Desk). z.own.side.lines) is, counts-same r d.own.side v.own.side (ap (λ (z : Desk). z.own.side) is))

-- from a desk to one of which that is shown
abbrev pub ShownBehind : World → Desk → Side → Type 0
ShownBehind w d new = (d' : Desk) × Does w d d' × Shows d' (desk_of new)

-- ---- with no script in hand

module _ (s0 : Side) (b : Batch) (bs : List Batch) (mid : Side) where
  abbrev s : Side
  s = at_stage Free s0

  abbrev d : Desk
  d = desk_of s

  abbrev d1 : Desk
  d1 = with_executed b bs d

  -- the desk behind the batch, as what is held comes to it
  abbrev IsBehind : Type 0
  IsBehind = d1 ≡ record (desk_of mid) { hand = bs }

  behind-all : IsBehind → bs ≡ free_hand mid → mid.stage ≡ Free → d1 ≡ desk_of mid
  behind-all is more stage =
      is ∙ (ap (λ h. record (desk_of mid) { hand = h }) more ∙ ap (λ t. record (desk_of mid) { hand = hand_of mid.table t mid.writer.parser mid.ledger.left }) (sym stage))

  tag-shows : (i : NodeId) (new : Side) (run : Bool) → IsBehind → bs ≡ free_hand mid → mid.stage ≡ Free → MeetsTag run i mid new → Shows (at_end_tag run i d1) (desk_of new)
  tag-shows i new false is more stage m = shows-all d1 (desk_of new) (behind-all is more stage ∙ ap desk_of (sym m))
  tag-shows i new true is more stage m =
      shows-all (at_end_tag true i d1) (desk_of new)
      (ap (at_end_tag true i) is ∙ (ap (λ h. record (at_end_tag true i (desk_of mid)) { hand = h }) more ∙ ap desk_of (sym m)))

  done-shows : (r : End) (in_hand : Bool) (new : Side) → IsBehind → new ≡ ended r in_hand mid → Shows (in_phase (done (result_of r)) d1) (desk_of new)
  done-shows r in_hand new is m =
      subst (λ (z : Side). Shows (in_phase (done (result_of r)) d1) (desk_of z)) (sym m)
      (subst (λ (z : Desk). Shows (in_phase (done (result_of r)) z) (desk_of (ended r in_hand mid))) (sym is) (refl, refl, refl, counts-same (result_of r) (desk_of (ended r in_hand mid)).own.side (desk_of (ended r in_hand mid)).own.side refl))

  abbrev runs_there_in : Desk → Side → Type 0
  runs_there_in e m = (i : NodeId) → runs (prepared i e.own) ≡ runs_there i m

  halt-shows : (h : code.Halt) (new : Side) → IsBehind → GoesOn (halt_of h) (bs ≡ free_hand mid) → mid.stage ≡ Free → runs_there_in d1 mid → Halts h mid new → Shows (behind_halt (halt_of h) d1) (desk_of new)
  halt-shows (halt.At stop.InputEnd) new is more stage same halts = shows-all d1 (desk_of new) (behind-all is more stage ∙ ap desk_of (sym halts))
  halt-shows (halt.At (stop.Script i)) new is more stage same halts =
      tag-shows i new (runs (prepared i d1.own)) is more stage (subst (λ run. MeetsTag run i mid new) (sym (same i)) halts)
  halt-shows (halt.At stop.Deep) new is more stage same halts = done-shows (end.Refused why.Depth) false new is halts
  halt-shows (halt.Over e) new is more stage same halts = done-shows e false new is halts

free-shows : (w : World) (s0 : Side) (h : code.Halt) (mid new : Side) → Executed (at_stage Free s0) h mid → Halts h mid new → ShownBehind w (desk_of (at_stage Free s0)) new
free-shows w s0 h mid new x halts =
    let s : Side = at_stage Free s0 in
    let d : Desk = desk_of s in
    let first : executes d.hand d ≡ behind_halt (halt_of h) (with_executed x.batch x.behind d) =
    ap (λ l. executes l d) x.hand ∙ ap (λ k. behind_halt k (with_executed x.batch x.behind d)) (sym x.halt) in (
      executes d.hand d,
      refl,
      subst (λ (z : Desk). Shows z (desk_of new)) (sym first)
          (halt-shows s0 x.batch x.behind mid h new (behind s0 h mid x) (subst (λ k. GoesOn k (x.behind ≡ free_hand mid)) (sym x.halt) x.more) (ap (λ (z : Side). z.stage) x.is)
          (λ i. ap (λ (z : Side). runs_there i z) (sym x.is)) halts),
    )
  where
    behind : (s0 : Side) (h : code.Halt) (mid : Side) (x : Executed (at_stage Free s0) h mid) → with_executed x.batch x.behind (desk_of (at_stage Free s0)) ≡ record (desk_of mid) { hand = x.behind }
    behind s0 h mid x =
        let d : Desk = desk_of (at_stage Free s0) in
        let rest : drop (length x.batch.text) d.left.text ≡ x.rest = ap (drop (length x.batch.text)) x.text ∙ drop-append_seam x.batch.text x.rest in
        ap (λ t. record (with_executed x.batch x.behind d) { left = record d.left { text = t } }) rest
        ∙ ap (λ (z : Side). record (desk_of z) { hand = x.behind }) (sym x.is)

-- ---- with a script in hand

-- the desk with the state behind the script's end tag
abbrev pub held_desk : Side → Parser → Phase → Desk
held_desk s held p = record (desk_of s) { phase = p; hand = (answer s.table (Some held) s.ledger.left).batches }

module _ (s : Side) (held : Parser) (p : Phase) (mid : View) where
  abbrev given : List Line
  given = lines_given s.given.items

  abbrev own : Serial
  own = serial_of mid given []

  abbrev Concluded : Moment → Side → Type 0
  Concluded m new = (d' : Desk) × Concludes held m (held_desk s held p) d' × Shows d' (desk_of new)

  judged : (c : Verdict) (new : Side) → JudgedAs c held (with_writer mid s) new → decided c held own (held_desk s held p) ≡ desk_of new
  judged Keep new is = ap desk_of (sym is)
  judged Rewind new is =
      ap (λ h. record (decided Rewind held own (held_desk s held p)) { hand = h }) (blank-answer s.table (decided Rewind held own (held_desk s held p)).own.parser) ∙ ap desk_of (sym is)

  concludes : (answer : Left) (m : Moment) (new : Side) → EndsAt answer mid given m → LeavesBy answer held (with_writer mid s) new → Concluded m new
  concludes left.Empty m new ends (c, verdict, is) =
      let d' : Desk = decided c held own (held_desk s held p) in
      (d', subst (λ n. Concludes held n (held_desk s held p) d') (sym ends) (c, verdict, refl), shows-all d' (desk_of new) (judged c new is))
  concludes (left.Awaits name) m new ends is =
      let d' : Desk = record (held_desk s held p) { own = own; phase = waits name held } in
      (d', subst (λ n. Concludes held n (held_desk s held p) d') (sym ends) refl, shows-all d' (desk_of new) (ap desk_of (sym is)))
  concludes (left.Refused l) m new ends is =
      let d' : Desk = record (held_desk s held p) { own = ends.last; phase = done (refused l) } in (
        d',
        subst (λ n. Concludes held n (held_desk s held p) d') (sym ends.is) refl,
        subst (λ (z : Side). Shows d' (desk_of z)) (sym is) (refl, ends.doc, ends.lines, tt),
      )

  runs-on : (w : World) (from : Moment) (answer : Left) (new : Side) → SettlesAt w from answer mid given → LeavesBy answer held (with_writer mid s) new →
      (d' : Desk) × RunsOn w held from (held_desk s held p) d' × Shows d' (desk_of new)
  runs-on w from answer new there leaves =
      let end = concludes answer there.to new there.ends leaves in
      (end.0, (there.to, there.settles, end.1), end.2)

tagged-shows : (w : World) (s : Side) (i : NodeId) (held : Parser) (new : Side) → w.entities ≡ s.table → RunsTagged i held s new → ShownBehind w (desk_of (at_stage (Tagged i held) s)) new
tagged-shows w s i held new es x =
    let given : List Line = lines_given s.given.items in
    let to = x.settled in
    runs-on s held (tagged i held) to.mid w (tag_ended i (serial_of s.writer given [])) to.answer new
    (tag-settles w i s.writer x.mid to.mid to.answer given
    (subst (λ e. LeadsTo e (AtTag i s.writer) x.mid) (sym es) x.leads) (subst (λ e. LeadsTo e (Stands x.mid) to.mid) (sym es) to.leads) to.left)
    to.leaves

fetched-shows : (w : World) (s : Side) (name : List ℕ) (held : Parser) (new : Side) (f : Fetched) → w.entities ≡ s.table → s.writer.halted ≡ None → fetched w name ≡ f → RunsFetched f name held s new →
    ShownBehind w (desk_of (at_stage (Waits name held) s)) new
fetched-shows w s name held new (got bytes) es halted is x =
    let given : List Line = lines_given s.given.items in
    let to = x.settled in
    runs-on s held (waits name held) to.mid w (awaits name (serial_of s.writer given [])) to.answer new
    (ran-settles w name bytes s.writer x.mid to.mid to.answer given is
    (subst (λ e. HasRun e None s.writer x.mid (file_statements bytes)) (sym es) x.ran) (subst (λ e. LeadsTo e (Stands x.mid) to.mid) (sym es) to.leads) to.left)
    to.leaves
fetched-shows w s name held new missing es halted is x =
    let given : List Line = lines_given s.given.items in
    let to = x.settled in
    runs-on s held (waits name held) to.mid w (awaits name (serial_of s.writer given [])) to.answer new
    (miss-settles w name s.writer x.mid to.mid to.answer given halted is x.missed (subst (λ e. LeadsTo e (Stands x.mid) to.mid) (sym es) to.leads) to.left)
    to.leaves
fetched-shows w s name held new faulted es halted is x =
    let own : Serial = serial_of s.writer (lines_given s.given.items) [] in
    let d' : Desk = record (held_desk s held (waits name held)) { phase = done (refused why.Fault) } in (
      d',
      (over (record { result = refused why.Fault; last = own }), fault-settles w name own is, refl),
      subst (λ (z : Side). Shows d' (desk_of z)) (sym x) (refl, refl, refl, tt),
    )

-- ---- by what is in hand

-- the page isn't refused yet
abbrev pub Halted : Stage → Side → Type 0
Halted (Waits name held) s = s.writer.halted ≡ None
Halted _ s = Unit {0}

-- the script that was awaited has arrived
abbrev pub Fetches : World → Stage → Side → Type 0
Fetches w (Waits name held) s = fetched w name ≡ met s name
Fetches w _ s = Unit {0}

pub acts-show : (w : World) (stage : Stage) (s new : Side) → w.entities ≡ s.table → s.stage ≡ Free → Halted stage s → Fetches w stage s → ActsBy stage s new → ShownBehind w (desk_of (at_stage stage s)) new
acts-show w Free s new es free_ halted fetch x =
    let here : s ≡ at_stage Free s = ap (λ t. at_stage t s) free_ in
    free-shows w s x.halt x.mid new (subst (λ (z : Side). Executed z x.halt x.mid) here x.executed) x.halts
acts-show w (Tagged i held) s new es free_ halted fetch x = tagged-shows w s i held new es x
acts-show w (Waits name held) s new es free_ halted fetch x = fetched-shows w s name held new (met s name) es halted fetch x
acts-show w (Done why in_hand) s new es free_ halted fetch x = absurd x
