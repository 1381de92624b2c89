-- The lines of every moment that a parse passes through begin those of its outcome.
use Rattle.std.proofs.Common.{◌≡◌, ℕ, zero, suc, ◌+◌, List, [], ◌∷◌, ◌++◌, Option, Some, None, option_and_then, refl, sym, ◌∙◌, ap, arith, append_assoc, append-nil, flat_map}
use Rattle.std.proofs.lemmas.Grind.{flat_map-append}
use Rattle.html_types.specs.declared.ending.Ending.{Ending}
use Rattle.html_types.specs.declared.ending.Ending.TheVariants as ending
use Rattle.serial.specs.declared.script.Line.{Line}
use Rattle.serial.specs.declared.script.Line.TheVariants as line
use Rattle.html_types.specs.declared.instruction.Stop.TheVariants as stop
use Rattle.html_types.specs.declared.instruction.Finish.{Finish}
use Rattle.html_types.specs.declared.instruction.Finish.TheVariants as finale
use Rattle.serial.specs.Page.{Page}
use Rattle.serial.specs.Scripts.{Fetched, got, missing, faulted, file_statements}
use Rattle.standard.specs.Act.{Doc, acts}
use Rattle.standard.specs.Parser.{Parser, Took, took, take_character, Finished, finish}
use Rattle.serial.specs.Serial.{World, fetched, Outcome, Serial, Course, goes, refuses, starved, Moment, reading, tag_ended, awaits, over, at_end, after_character, unless_pending, after_script, after_fetch, read_next, moment_after, moments_on, first, Passes, IsSerial}
use Rattle.serial.specs.Output.{line_text, result_with, output_with}
use Rattle.standard_laws.specs.Laws.{outcome_at, lines_of, GoesOnFrom, LinesBegin, OutputBegins}
use Rattle.standard_laws.proofs.Kept.{Kept, Grows, Grows-steps, end_of_script-kept, run_text-kept}
use Rattle.standard_laws.proofs.Fuel.{moments_on-by, over-by, serial-over}
use Rattle.standard_laws.proofs.Passing.{moments-add, finished-at}

same_lines : (a : List Line) → GoesOnFrom a a
same_lines a = ([], sym (append-nil a))

longer_lines : (a b c : List Line) → GoesOnFrom a b → GoesOnFrom b c → GoesOnFrom a c
longer_lines a b c (x, p) (y, q) = (x ++ y, q ∙ rw (p, append_assoc a x y))

-- what a moment leads to has its lines, and perhaps more
abbrev Follows : List Line → Option Moment → Type 0
Follows a None = Unit {0}
Follows a (Some m) = GoesOnFrom a (lines_of m)

outcome-lines : (s : Serial) (p : Parser) (d : Doc) (k : Finish) → (outcome_at s p d k).last.side.lines ≡ s.side.lines
outcome-lines s p d finale.Finished = refl
outcome-lines s p d finale.Deep = refl

ended-lines : (s : Serial) (f : Finished) → (at_end s f).last.side.lines ≡ s.side.lines
ended-lines s f = ap (λ (o : Outcome). o.last.side.lines) (finished-at s f) ∙ outcome-lines s f.parser (acts s.side.doc f.ops) f.finish

read-follows : (w : World) (e : Ending) (s : Serial) (input : List ℕ) → Follows s.side.lines (Some (read_next w.entities e s input))
read-follows w ending.End s [] = ([], ended-lines s (finish w.entities s.parser) ∙ sym (append-nil s.side.lines))
read-follows w ending.Bad s [] = same_lines s.side.lines
read-follows w ending.Long s [] = same_lines s.side.lines
read-follows w ending.Fault s [] = same_lines s.side.lines
read-follows w e s (c ∷ cs) = by_took (take_character w.entities s.parser c)
  where
    by_took : (k : Took) → Follows s.side.lines (Some (after_character s cs k))
    by_took (took ops p stop.InputEnd) = same_lines s.side.lines
    by_took (took ops p (stop.Script i)) = same_lines s.side.lines
    by_took (took ops p stop.Deep) = same_lines s.side.lines

pending-follows : (a : List Line) (pending : Option (List ℕ)) (t : Serial) → GoesOnFrom a t.side.lines → Follows a (Some (unless_pending pending t))
pending-follows a None t k = k
pending-follows a (Some name) t k = k

script-follows : (s : Serial) (f : Course) → Kept Grows s f → Follows s.side.lines (after_script f)
script-follows s starved k = tt
script-follows s (goes t) k = pending-follows s.side.lines t.side.pending t k
script-follows s (refuses w t) k = k

fetch-follows : (n : ℕ) (w : World) (name : List ℕ) (s : Serial) (f : Fetched) → Follows s.side.lines (after_fetch n w name s f)
fetch-follows n w name s (got bytes) = script-follows s _ (run_text-kept Grows Grows-steps n w (file_statements bytes) s)
fetch-follows n w name s missing = (line.Miss name ∷ [], refl)
fetch-follows n w name s faulted = same_lines s.side.lines

pub moment-follows : (n : ℕ) (e : Ending) (w : World) (m : Moment) → Follows (lines_of m) (moment_after n e w m)
unfolding moment_after
moment-follows n e w (reading s) = read-follows w e s s.input
moment-follows n e w (tag_ended i s) = script-follows s _ (end_of_script-kept Grows Grows-steps n w i s)
moment-follows n e w (awaits name s) = fetch-follows n w name s (fetched w name)
moment-follows n e w (over o) = same_lines o.last.side.lines

follows_on : (a : List Line) (m' : Moment) (r : Option Moment) → GoesOnFrom a (lines_of m') → Follows (lines_of m') r → Follows a r
follows_on a m' None f g = tt
follows_on a m' (Some r) f g = longer_lines _ _ _ f g

then_follows : (a : List Line) (o : Option Moment) (h : Moment → Option Moment) → Follows a o → ((m : Moment) → Follows (lines_of m) (h m)) → Follows a (option_and_then h o)
then_follows a None h f each = tt
then_follows a (Some m) h f each = follows_on a m (h m) f (each m)

pub moments-follow : (k n : ℕ) (e : Ending) (w : World) (m : Moment) → Follows (lines_of m) (moments_on k n e w m)
moments-follow zero n e w m = same_lines (lines_of m)
moments-follow (suc k) n e w m = then_follows (lines_of m) (moment_after n e w m) _ (moment-follows n e w m) (λ m'. moments-follow k n e w m')

pub passed-lines : LinesBegin
passed-lines page w m o (k, n, p) (j, q) =
    let c : j + n ≡ n + j = omega arith in
    let here : moments_on k (n + j) page.ending w (reading (first page)) ≡ Some m =
    (let r : moments_on k (j + n) page.ending w (reading (first page)) ≡ Some m = moments_on-by j k n page.ending w (reading (first page)) m p in rw c at r) in
    let there : moments_on (k + j) (n + j) page.ending w (reading (first page)) ≡ Some (over o) =
    over-by k j (n + j) page.ending w (reading (first page)) o (moments_on-by n j j page.ending w (reading (first page)) (over o) (serial-over j page w o q)) in
    let on : moments_on j (n + j) page.ending w m ≡ Some (over o) = sym (moments-add j k (n + j) page.ending w (reading (first page)) m here) ∙ there in
    let f : Follows (lines_of m) (moments_on j (n + j) page.ending w m) = moments-follow j (n + j) page.ending w m in
    let g : Follows (lines_of m) (Some (over o)) = rw on at f in
    g

-- what is written for the lines of a moment that was passed begins what is written for all of them and what follows
passed_before : (page : Page) (w : World) (m : Moment) (o : Outcome) (tail : List ℕ) → Passes page w m → IsSerial page w o
    → (rest : List ℕ) × (flat_map line_text o.last.side.lines ++ tail ≡ flat_map line_text (lines_of m) ++ rest)
passed_before page w m o tail p q =
    let (more, e) = passed-lines page w m o p q in (
      flat_map line_text more ++ tail,
      ap (λ k. flat_map line_text k ++ tail) e ∙ (ap (λ k. k ++ tail) (flat_map-append line_text (lines_of m) more) ∙ append_assoc (flat_map line_text (lines_of m)) (flat_map line_text more) tail),
    )

pub passed-output : OutputBegins
unfolding output_with
passed-output dump page w m o p q = passed_before page w m o (result_with dump o.result o.last.side.doc.tree) p q
