-- Texts that are read through, and the serial parse of a page none of whose scripts runs.
use Rattle.std.proofs.Common.{◌≡◌, ℕ, suc, List, [], ◌∷◌, ◌++◌, drop, Option, Some, None, refl, sym, ◌∙◌, ap, subst, append_assoc}
use mathlib.Core.Path.{fun_ext}
use Rattle.html_types.specs.declared.instruction.Stop.{Stop}
use Rattle.html_types.specs.declared.instruction.Stop.TheVariants as stop
use Rattle.html_types.specs.declared.instruction.Finish.{Finish}
use Rattle.html_types.specs.declared.instruction.Finish.TheVariants as finale
use Rattle.html_types.specs.declared.operation.Op.{Op}
use Rattle.html_types.specs.declared.ending.Ending.{Ending}
use Rattle.html_types.specs.declared.ending.Ending.TheVariants as ending
use Rattle.html_types.specs.declared.ending.Why.TheVariants as why
use Rattle.standard.specs.Entities.{Entities}
use Rattle.standard.specs.Act.{Doc, acts}
use Rattle.serial.specs.Page.{Page}
use Rattle.standard.specs.Parser.{Parser, Took, took, take_character, Finished, finish, Parsed, after_character, and_rest, parse}
use Rattle.standard.specs.Through.{Through, through, deep, after_those, and_through, read_through, if_finished}
use Rattle.serial.specs.Quiet.{tree, made, ended_quietly, quiet}
use Rattle.serial.specs.Serial.{World, Serial, Outcome, Passes, reading, tag_ended, over, taken, at_end, ended, first, unless_pending, behind_script, read_next, moment_after}
use Rattle.serial.specs.Serial as serial
use Rattle.standard_laws.specs.Laws.{outcome_at}
use Rattle.standard_laws.specs.Quiet.{on_from, on_behind, ThroughByParse, go_through, ThroughInPieces, RunsNoScript, ComesTo, QuietIsSerial}
use Rattle.standard_laws.proofs.Parse.{acts-append}
use Rattle.standard_laws.proofs.Passing.{passes-first, leads-next, leads-end, passes-over, finished-at}
use Rattle.standard_laws.proofs.Scripts.{script-leads, still-script}
use Rattle.standard_laws.proofs.Fuel.{one_outcome}

pub after-twice : (ops more : List Op) (t : Through) → after_those ops (after_those more t) ≡ after_those (ops ++ more) t
after-twice ops more (through last p) = ap (λ os. through os p) (sym (append_assoc ops more last))
after-twice ops more deep = refl

-- ---- by the parses between scripts

after-on : (es : Entities) (ops : List Op) (c : ℕ) (cs : List ℕ) (r : Parsed) → after_those ops (on_behind es cs r) ≡ on_behind es (c ∷ cs) (after_character ops r)
after-on es ops c cs r = by r.stop
  where
    by : (s : Stop) → after_those ops (on_from es cs r.ops r.parser r.used s) ≡ on_from es (c ∷ cs) (ops ++ r.ops) r.parser (suc r.used) s
    by stop.InputEnd = refl
    by (stop.Script i) = after-twice ops r.ops (read_through es r.parser (drop r.used cs))
    by stop.Deep = refl

and-on : (es : Entities) (k : Took) (c : ℕ) (cs : List ℕ) → ((p : Parser) → read_through es p cs ≡ on_behind es cs (parse es p cs))
    → and_through k (λ p. read_through es p cs) ≡ on_behind es (c ∷ cs) (and_rest k (λ p. parse es p cs))
and-on es (took ops p stop.InputEnd) c cs same = ap (after_those ops) (same p) ∙ after-on es ops c cs (parse es p cs)
and-on es (took ops p (stop.Script i)) c cs same = refl
and-on es (took ops p stop.Deep) c cs same = refl

pub through-parse : ThroughByParse
unfolding read_through parse
through-parse es p [] = refl
through-parse es p (c ∷ cs) = and-on es (take_character es p c) c cs (λ p'. through-parse es p' cs)

-- ---- texts in pieces

pub after-none : (t : Through) → t ≡ after_those [] t
after-none (through ops p) = refl
after-none deep = refl

after-go : (ops : List Op) (t : Through) (rest : Parser → Through) → after_those ops (go_through t rest) ≡ go_through (after_those ops t) rest
after-go ops (through more p) rest = after-twice ops more (rest p)
after-go ops deep rest = refl

and-go : (k : Took) (f rest : Parser → Through) → and_through k (λ p. go_through (f p) rest) ≡ go_through (and_through k f) rest
and-go (took ops p stop.InputEnd) f rest = after-go ops (f p) rest
and-go (took ops p (stop.Script i)) f rest = after-go ops (f p) rest
and-go (took ops p stop.Deep) f rest = refl

pub through-append : ThroughInPieces
unfolding read_through
through-append es p [] y = after-none (read_through es p y)
through-append es p (c ∷ cs) y =
    ap (and_through (take_character es p c)) (fun_ext (λ q. through-append es q cs y))
    ∙ and-go (take_character es p c) (λ q. read_through es q cs) (λ q. read_through es q y)

-- ---- a page none of whose scripts runs

finished-after : (d : Doc) (ops more last : List Op) (k : Finish) → made d (if_finished ((ops ++ more) ++ last) k) ≡ made (acts d ops) (if_finished (more ++ last) k)
finished-after d ops more last finale.Finished = ap (λ os. made d (Some os)) (append_assoc ops more last) ∙ ap (λ x. tree x) (acts-append ops (more ++ last) d)
finished-after d ops more last finale.Deep = refl

ended-after : (es : Entities) (d : Doc) (ops : List Op) (e : Ending) (t : Through) → ended_quietly es d e (after_those ops t) ≡ ended_quietly es (acts d ops) e t
ended-after es d ops ending.End (through more p) = let f : Finished = finish es p in finished-after d ops more f.ops f.finish
ended-after es d ops ending.Bad (through more p) = refl
ended-after es d ops ending.Long (through more p) = refl
ended-after es d ops ending.Fault (through more p) = refl
ended-after es d ops ending.End deep = refl
ended-after es d ops ending.Bad deep = refl
ended-after es d ops ending.Long deep = refl
ended-after es d ops ending.Fault deep = refl

finish-comes : (s : Serial) (f : Finished) → ComesTo (at_end s f) (made s.side.doc (if_finished f.ops f.finish))
finish-comes s f = subst (λ (o : Outcome). ComesTo o (made s.side.doc (if_finished f.ops f.finish))) (sym (finished-at s f)) (by f.finish)
  where
    by : (k : Finish) → ComesTo (outcome_at s f.parser (acts s.side.doc f.ops) k) (made s.side.doc (if_finished f.ops k))
    by finale.Finished = (refl, refl)
    by finale.Deep = refl

end-comes : (es : Entities) (e : Ending) (s : Serial) → ComesTo (ended es e s) (ended_quietly es s.side.doc e (through [] s.parser))
end-comes es ending.End s = finish-comes s (finish es s.parser)
end-comes es ending.Bad s = refl
end-comes es ending.Long s = refl
end-comes es ending.Fault s = refl

deep-comes : (es : Entities) (d : Doc) (e : Ending) (s : Serial) → ComesTo (serial.refusal why.Depth s) (ended_quietly es d e deep)
deep-comes es d ending.End s = refl
deep-comes es d ending.Bad s = refl
deep-comes es d ending.Long s = refl
deep-comes es d ending.Fault s = refl

module _ (page : Page) (w : World) (none : RunsNoScript page w) where
  -- from that document on, the parse of the page comes to what is read through
  abbrev Comes : Doc → Through → Type 0
  Comes d t = (o : Outcome) × Passes page w (over o) × ComesTo o (ended_quietly w.entities d page.ending t)

  behind-ops : (d : Doc) (ops : List Op) (t : Through) → Comes (acts d ops) t → Comes d (after_those ops t)
  behind-ops d ops t (o, p, c) = (o, p, subst (ComesTo o) (sym (ended-after w.entities d ops page.ending t)) c)

  one-on : (s : Serial) (c : ℕ) (cs : List ℕ) (k : Took) → s.input ≡ c ∷ cs → Passes page w (reading s) → take_character w.entities s.parser c ≡ k → Passes page w (serial.after_character s cs k)
  unfolding moment_after
  one-on s c cs k is h e =
      leads-next page.ending w (reading (first page)) 0 (reading s) (serial.after_character s cs k) h
      (ap (λ x. Some (read_next w.entities page.ending s x)) is ∙ ap (λ x. Some (serial.after_character s cs x)) e)

  step : (k : Took) (s : Serial) (c : ℕ) (cs : List ℕ) → s.input ≡ c ∷ cs → s.side.pending ≡ None → Passes page w (reading s) → take_character w.entities s.parser c ≡ k
      → ((t : Serial) → t.input ≡ cs → t.side.pending ≡ None → Passes page w (reading t) → Comes t.side.doc (read_through w.entities t.parser cs))
      → Comes s.side.doc (and_through k (λ p. read_through w.entities p cs))
  step (took ops q stop.InputEnd) s c cs is free h e each =
      behind-ops s.side.doc ops (read_through w.entities q cs) (each (taken q (acts s.side.doc ops) cs s) refl free (one-on s c cs (took ops q stop.InputEnd) is h e))
  step (took ops q (stop.Script i)) s c cs is free h e each =
      let t : Serial = taken q (acts s.side.doc ops) cs s in
      let met : Passes page w (tag_ended i t) = one-on s c cs (took ops q (stop.Script i)) is h e in
      let on : Passes page w (behind_script t) = script-leads page.ending w (reading (first page)) i t t met (still-script w i t (none i t met)) in
      behind-ops s.side.doc ops (read_through w.entities q cs) (each t refl free (subst (λ (v : Option (List ℕ)). Passes page w (unless_pending v t)) free on))
  step (took ops q stop.Deep) s c cs is free h e each =
      let t : Serial = taken q (acts s.side.doc ops) cs s in
      (serial.refusal why.Depth t, one-on s c cs (took ops q stop.Deep) is h e, deep-comes w.entities s.side.doc page.ending t)

  walk : (text : List ℕ) (s : Serial) → s.input ≡ text → s.side.pending ≡ None → Passes page w (reading s) → Comes s.side.doc (read_through w.entities s.parser text)
  unfolding read_through
  walk [] s is free h = (ended w.entities page.ending s, leads-end page.ending w (reading (first page)) s h is, end-comes w.entities page.ending s)
  walk (c ∷ cs) s is free h = step (take_character w.entities s.parser c) s c cs is free h refl (λ t. walk cs t)

pub quiet-serial : QuietIsSerial
unfolding quiet
quiet-serial page w none o is =
    let (o', p, c) = walk page w none page.text (first page) refl refl (passes-first page w) in
    subst (λ (x : Outcome). ComesTo x (quiet w.entities page)) (one_outcome page w o' o (passes-over page w o' p) is) c
