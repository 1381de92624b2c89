-- From the moments through which a writer's calls lead to the moment at which a script in hand settles.
use Rattle.std.proofs.Common.{◌≡◌, ℕ, true, false, List, [], ◌∷◌, ◌++◌, Option, Some, None, refl, sym, ◌∙◌, ap, subst, append_assoc}
use Rattle.html_types.specs.declared.operation.NodeId.{NodeId}
use Rattle.html_types.specs.declared.ending.Ending.TheVariants as ending
use Rattle.html_types.specs.declared.ending.Why.{Why}
use Rattle.html_types.specs.declared.ending.Why.TheVariants as why
use Rattle.serial.specs.declared.script.Line.{Line}
use Rattle.serial.specs.declared.script.Line.TheVariants as line
use Rattle.serial.specs.Scripts.{Fetched, got, missing, faulted, file_statements}
use Rattle.serial.specs.Serial.{World, fetched, Serial, Course, goes, refuses, starved, with_line, awaiting, run_text, Moment, reading, tag_ended, awaits, over, refusal, after_script, after_fetch, moment_after}
use Rattle.standard_laws.specs.Laws.{EndsIn}
use Rattle.core_definitions.specs.Settling.{is_settled, Through, here, onward, Settles}
use Rattle.moment_laws.proofs.Through.{goes-on, through-settles}
use Rattle.write_parser.specs.declared.left.Left.{Left}
use Rattle.write_parser.specs.declared.left.Left.TheVariants as left
use Rattle.write_parser.specs.Writing.{View, serial_of, moment_by, moment_of, IsOver, StandsBy, Stands, AtTag, LeadsTo, LeftIs, IsRefusal, ComesBy, Comes, Runs, HasRun, HasMissed}

-- the moment at which what was written was parsed as far as it goes
abbrev pub EndsAt : Left → View → List Line → Moment → Type 0
EndsAt left.Empty v given m = m ≡ reading (serial_of v given [])
EndsAt (left.Awaits name) v given m = m ≡ awaits name (serial_of v given [])
EndsAt (left.Refused l) v given m = IsOver l v given m

pub ends-at : (answer : Left) (v : View) (given : List Line) (m : Moment) → LeftIs v answer → Stands v given [] m → EndsAt answer v given m
ends-at left.Empty v given m (halted, pending, rest) stands =
    subst (λ h. StandsBy h v given [] m) halted stands ∙ ap (λ p. moment_by p (serial_of v given [])) pending
ends-at (left.Awaits name) v given m (halted, pending) stands =
    subst (λ h. StandsBy h v given [] m) halted stands ∙ ap (λ p. moment_by p (serial_of v given [])) pending
ends-at (left.Refused l) v given m halted stands = subst (λ h. StandsBy h v given [] m) halted stands

empty-settled : (v : View) (given : List Line) → v.rest ≡ [] → is_settled (reading (serial_of v given [])) ≡ true
empty-settled v given none = ap (λ t. is_settled (reading (record (serial_of v given []) { input = t ++ [] }))) none

-- it is settled
pub ends-settled : (answer : Left) (v : View) (given : List Line) (m : Moment) → LeftIs v answer → EndsAt answer v given m → is_settled m ≡ true
ends-settled left.Empty v given m (halted, pending, rest) at = ap is_settled at ∙ empty-settled v given rest
ends-settled (left.Awaits name) v given m l at = ap is_settled at
ends-settled (left.Refused l) v given m h at = ap is_settled at.is

-- ---- behind an end tag

-- a settled moment, and what stands there
pub record SettlesAt (w : World) (from : Moment) (answer : Left) (v : View) (given : List Line) : Type 0 where
  pub to : Moment
  pub settles : Settles w from to
  pub ends : EndsAt answer v given to

pub tag-settles : (w : World) (i : NodeId) (old mid new : View) (answer : Left) (given : List Line) → LeadsTo w.entities (AtTag i old) mid → LeadsTo w.entities (Stands mid) new → LeftIs new answer →
    SettlesAt w (tag_ended i (serial_of old given [])) answer new given
tag-settles w i old mid new answer given first second is =
    let from : Moment = tag_ended i (serial_of old given []) in
    let there = first.leads ending.End w from given [] refl refl in
    let end = second.leads ending.End w there.0 given [] refl there.1 in
    let at : EndsAt answer new given end.0 = ends-at answer new given end.0 is end.1 in
    record {
      to = end.0;
      settles = through-settles w from end.0 refl (ends-settled answer new given end.0 is at) (goes-on ending.End w from there.0 end.0 there.2 end.2);
      ends = at;
    }

-- ---- behind a script that was awaited

pub from-next : (w : World) (n : ℕ) (from next : Moment) (mid new : View) (answer : Left) (given : List Line) → moment_after n ending.End w from ≡ Some next → Stands mid given [] next →
    LeadsTo w.entities (Stands mid) new → LeftIs new answer → SettlesAt w from answer new given
from-next w n from next mid new answer given first stands leads is =
    let end = leads.leads ending.End w next given [] refl stands in
    let at : EndsAt answer new given end.0 = ends-at answer new given end.0 is end.1 in
    record {
      to = end.0;
      settles = record { fuel = n; next = next; first = first; through = end.2; settled = ends-settled answer new given end.0 is at };
      ends = at;
    }

pub fetch-after : (n : ℕ) (w : World) (name : List ℕ) (s : Serial) (f : Fetched) → fetched w name ≡ f → moment_after n ending.End w (awaits name s) ≡ after_fetch n w name s f
unfolding moment_after
fetch-after n w name s f is = ap (after_fetch n w name s) is

-- it is missing
pub miss-settles : (w : World) (name : List ℕ) (old mid new : View) (answer : Left) (given : List Line) → old.halted ≡ None → fetched w name ≡ missing → HasMissed None (Some name) old mid →
    LeadsTo w.entities (Stands mid) new → LeftIs new answer → SettlesAt w (awaits name (serial_of old given [])) answer new given
miss-settles w name old mid new answer given halted is missed leads ends =
    from-next w 0 (awaits name (serial_of old given [])) (reading (with_line (line.Miss name) (serial_of old given []))) mid new answer given
    (fetch-after 0 w name (serial_of old given []) missing is)
    (subst (λ (v : View). Stands v given [] (reading (with_line (line.Miss name) (serial_of old given [])))) (sym missed)
    (subst (λ h. StandsBy h (record old { lines = old.lines ++ line.Miss name ∷ []; pending = None }) given [] (reading (with_line (line.Miss name) (serial_of old given [])))) (sym halted)
    (ap (λ ls. reading (record (serial_of old given []) { side = record (serial_of old given []).side { lines = ls } })) (append_assoc given old.lines (line.Miss name ∷ [])))))
    leads ends

-- where a text ran
ran-next : (pending : Option (List ℕ)) (t : Serial) → t.side.pending ≡ None → after_script (goes (awaiting pending t)) ≡ Some (moment_by pending t)
ran-next None t none = ap (λ p. Some (reading (record t { side = record t.side { pending = p } }))) (sym none)
ran-next (Some name) t none = ap (λ p. Some (awaits name (record t { side = record t.side { pending = p } }))) (sym none)

-- the moment behind it, for which the view stands
pub record ComesNext (f : Course) (v : View) (given : List Line) : Type 0 where
  pub next : Moment
  pub after : after_script f ≡ Some next
  pub stands : Stands v given [] next

pub comes-next : (halted : Option Why) (v : View) (given : List Line) (f : Course) → v.halted ≡ halted → ComesBy halted v given [] f → ComesNext f v given
comes-next None v given f h is = record {
  next = moment_of v given [];
  after = ap after_script is ∙ ran-next v.pending (serial_of v given []) refl;
  stands = subst (λ k. StandsBy k v given [] (moment_of v given [])) (sym h) refl;
}
comes-next (Some r) v given f h is = record {
  next = over (refusal r is.last);
  after = ap after_script is.is;
  stands = subst (λ k. StandsBy k v given [] (over (refusal r is.last))) (sym h) (record { last = is.last; is = refl; lines = is.lines; doc = is.doc });
}

pub ran-settles : (w : World) (name bytes : List ℕ) (old mid new : View) (answer : Left) (given : List Line) → fetched w name ≡ got bytes → HasRun w.entities None old mid (file_statements bytes) →
    LeadsTo w.entities (Stands mid) new → LeftIs new answer → SettlesAt w (awaits name (serial_of old given [])) answer new given
ran-settles w name bytes old mid new answer given is ran leads ends =
    let there = ran.comes w given [] refl in
    let f : Course = there.0 in
    let next : ComesNext f mid given = comes-next mid.halted mid given f refl there.1 in
    let run = there.2 in
    from-next w run.0 (awaits name (serial_of old given [])) next.next mid new answer given
    (fetch-after run.0 w name (serial_of old given []) (got bytes) is ∙ (ap after_script run.1 ∙ next.after))
    next.stands leads ends

-- it can't be read
pub fault-settles : (w : World) (name : List ℕ) (s : Serial) → fetched w name ≡ faulted → Settles w (awaits name s) (over (refusal why.Fault s))
fault-settles w name s is = record {
  fuel = 0;
  next = over (refusal why.Fault s);
  first = fetch-after 0 w name s faulted is;
  through = here (over (refusal why.Fault s));
  settled = refl;
}
