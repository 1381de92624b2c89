-- The lines that a Do gives stand behind those that were there.
use Rattle.std.proofs.Common.{◌≡◌, ℕ, Bool, true, false, List, [], ◌∷◌, ◌++◌, Option, Some, None, refl, sym, ap, subst, ◌∙◌, append_assoc, append-nil}
use Rattle.serial.specs.declared.script.Line.{Line}
use Rattle.html_types.specs.declared.ending.Ending.TheVariants as ending
use Rattle.html_types.specs.declared.operation.NodeId.{NodeId}
use Rattle.html_types.specs.declared.instruction.Stop.TheVariants as stop
use Rattle.standard.specs.Parser.{Parser}
use Rattle.serial.specs.Serial.{World, prepared, Serial, Moment, reading, tag_ended, awaits, over, moment_after}
use Rattle.standard_laws.specs.Laws.{lines_of, GoesOnFrom}
use Rattle.standard_laws.proofs.Lines.{moment-follows}
use Rattle.core_definitions.specs.declared.verdict.Verdict.{Verdict}
use Rattle.core_definitions.specs.declared.verdict.Verdict.TheVariants.{Keep, Rewind}
use Rattle.core_definitions.specs.Batches.{Batch, Halt, at, over_with}
use Rattle.core_definitions.specs.Verdict.{runs}
use Rattle.core_definitions.specs.Settling.{Through, here, onward, Settles}
use Rattle.core_definitions.specs.Desk.{Phase, free, tagged, waits, done, Desk, at_end_tag, behind_halt, with_executed, executes, decided, Concludes, DoesIn, Does}
use Rattle.core_steps.specs.Sides.{Shows}
use Rattle.page_turns.proofs.EndLemmas.{shown-lines}

same-lines : (a : List Line) → GoesOnFrom a a
same-lines a = ([], sym (append-nil a))

then-lines : (a b c : List Line) → GoesOnFrom a b → GoesOnFrom b c → GoesOnFrom a c
then-lines a b c (x, p) (y, q) = (x ++ y, q ∙ (ap (λ l. l ++ y) p ∙ append_assoc a x y))

-- what a moment leads to has its lines, and perhaps more
abbrev Follows : List Line → Option Moment → Type 0
Follows a None = Unit {0}
Follows a (Some m) = GoesOnFrom a (lines_of m)

after-lines : (n : ℕ) (w : World) (m m1 : Moment) → moment_after n ending.End w m ≡ Some m1 → GoesOnFrom (lines_of m) (lines_of m1)
after-lines n w m m1 is = subst (λ o. Follows (lines_of m) o) is (moment-follows n ending.End w m)

through-lines : (w : World) (m m' : Moment) → Through ending.End w m m' → GoesOnFrom (lines_of m) (lines_of m')
through-lines w m m' (here m0) = same-lines (lines_of m0)
through-lines w m m' (onward n m0 m1 m2 open_ next more) = then-lines (lines_of m0) (lines_of m1) (lines_of m2) (after-lines n w m0 m1 next) (through-lines w m1 m2 more)

settles-lines : (w : World) (m m' : Moment) → Settles w m m' → GoesOnFrom (lines_of m) (lines_of m')
settles-lines w m m' s = then-lines (lines_of m) (lines_of s.next) (lines_of m') (after-lines s.fuel w m s.next s.first) (through-lines w s.next m' s.through)

-- ---- what a Do makes of the desk

tag-lines : (d : Desk) (i : NodeId) (run : Bool) → (at_end_tag run i d).own.side.lines ≡ d.own.side.lines
tag-lines d i true = refl
tag-lines d i false = refl

halt-lines : (d : Desk) (h : Halt) → (behind_halt h d).own.side.lines ≡ d.own.side.lines
halt-lines d (at stop.InputEnd) = refl
halt-lines d (at (stop.Script i)) = tag-lines d i (runs (prepared i d.own))
halt-lines d (at stop.Deep) = refl
halt-lines d (over_with w) = refl

executes-lines : (bs : List Batch) (d : Desk) → (executes bs d).own.side.lines ≡ d.own.side.lines
executes-lines [] d = refl
executes-lines (b ∷ bs) d = halt-lines (with_executed b bs d) b.halt

decided-lines : (c : Verdict) (held : Parser) (s : Serial) (d : Desk) → (decided c held s d).own.side.lines ≡ s.side.lines
decided-lines Keep held s d = refl
decided-lines Rewind held s d = refl

concluded-lines : (held : Parser) (m : Moment) (d d' : Desk) → Concludes held m d d' → d'.own.side.lines ≡ lines_of m
concluded-lines held (reading s) d d' (c, verdict, is) = ap (λ (z : Desk). z.own.side.lines) is ∙ decided-lines c held s d
concluded-lines held (tag_ended i s) d d' is = absurd is
concluded-lines held (awaits name s) d d' is = ap (λ (z : Desk). z.own.side.lines) is
concluded-lines held (over o) d d' is = ap (λ (z : Desk). z.own.side.lines) is

does-lines : (w : World) (p : Phase) (d d' : Desk) → DoesIn w p d d' → GoesOnFrom d.own.side.lines d'.own.side.lines
does-lines w free d d' is = ([], ap (λ (z : Desk). z.own.side.lines) is ∙ (executes-lines d.hand d ∙ sym (append-nil d.own.side.lines)))
does-lines w (tagged i held) d d' (m, settles, c) = subst (GoesOnFrom d.own.side.lines) (sym (concluded-lines held m d d' c)) (settles-lines w (tag_ended i d.own) m settles)
does-lines w (waits name held) d d' (m, settles, c) = subst (GoesOnFrom d.own.side.lines) (sym (concluded-lines held m d d' c)) (settles-lines w (awaits name d.own) m settles)
does-lines w (done r) d d' is = absurd is

pub do-lines : (w : World) (d d' v : Desk) → Does w d d' → Shows d' v → GoesOnFrom d.own.side.lines v.own.side.lines
do-lines w d d' v does shows = subst (GoesOnFrom d.own.side.lines) (shown-lines v.phase d' v shows) (does-lines w d.phase d d' does)
