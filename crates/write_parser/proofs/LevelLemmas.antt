-- Scripts and written text at level 0, against the moments of the serial parse.
use Rattle.std.proofs.Common.{◌≡◌, ◌<◌, ◌≤◌, ℕ, suc, Bool, false, List, [], ◌∷◌, ◌++◌, length, Option, Some, None, refl, sym, ap, ◌∙◌, subst, arith}
use Rattle.html_types.specs.declared.operation.NodeId.{NodeId}
use Rattle.html_types.specs.declared.ending.Ending.{Ending}
use Rattle.serial.specs.declared.script.Line.{Line}
use Rattle.html_types.specs.declared.ending.Why.TheVariants as why
use Rattle.html_types.specs.declared.ending.Why.{Why}
use Rattle.html_types.specs.declared.instruction.Stop.{Stop}
use Rattle.html_types.specs.declared.instruction.Stop.TheVariants as stop
use Rattle.standard.specs.Entities.{Entities}
use Rattle.standard.specs.Act.{Doc}
use Rattle.standard.specs.Parser.{Parser}
use Rattle.serial.specs.Statements.{statements}
use Rattle.standard_laws.specs.Laws.{HasParsed, EndsIn, ScriptComesTo, moment_at}
use Rattle.serial.specs.Serial.{World, Serial, Course, goes, refuses, awaiting, run_text, Moment, reading, tag_ended, over, refusal, taken, unless_pending, behind_script, after_script, moment_after}
use Rattle.standard_laws.specs.Frames.{rests, state_of, NestComesTo, TagComesTo, TextComesTo}
use Rattle.write_parser.specs.declared.nesting.Begun.{Begun}
use Rattle.write_parser.specs.declared.live.Live.{Live}
use Rattle.write_parser.specs.Parsing.{RestParsed}
use Rattle.write_parser.specs.Writing.{View, serial_of, moment_by, moment_of, StandsBy, Stands, AtTag, LeadsTo, ComesBy, Runs, scripts_awaited}
use Rattle.write_parser.specs.Steps.{IsGoing, view_of, with_begun, nest_of, ThenBy, Then, weight, Moves, WroteNothing, Begins, Prepares, Keeps, Continues, EndsTag, awaits_none, RunsText, FeedsOn, StaysAt}
use Rattle.standard_laws.proofs.Passing.{parse-left}
use Rattle.standard_laws.proofs.Frames.{frames-end, scripts-enter}
use Rattle.core_definitions.specs.Settling.{Through, here, onward}
use Rattle.moment_laws.proofs.Through.{goes-on, batches-through}
use Rattle.write_parser.proofs.NestingLemmas.{awaited-one}

-- ---- a script that was begun, and all behind it

then-of : (w : World) (Of : Course → Type 0) (mid new : Live) (begun : Option Begun) (before : List Line) (page : List ℕ) →
    ((g : Course) → NestComesTo w (nest_of mid (with_begun begun []) before page) g → Of g) → Then w (NestComesTo w (nest_of mid (with_begun begun []) before page)) new [] before page →
    Then w Of new [] before page
then-of w Of mid new begun before page first = by new.halted
  where
    by : (h : Option Why) → ThenBy h w (NestComesTo w (nest_of mid (with_begun begun []) before page)) new [] before page → ThenBy h w Of new [] before page
    by None second = λ g come. first g (second g come)
    by (Some l) (g, refusal, come) = (g, refusal, first g come)

nothing-written : (begun : Option Begun) → WroteNothing begun → length (rests (with_begun begun [])) ≡ 0
nothing-written None wrote = refl
nothing-written (Some b) wrote = ap (λ r. length (r ++ [])) wrote

tag-weight : (old mid : Live) (begun : Option Begun) → Keeps old mid → WroteNothing begun → weight mid (with_begun begun []) ≤ suc (weight old [])
tag-weight old mid begun keeps wrote =
    omega (arith, nothing-written begun wrote, awaited-one mid.pending, ap (λ (l : Live). l.written) keeps, ap (λ (l : Live). length l.rest) keeps)

text-weight : (old mid : Live) (begun : Option Begun) → Keeps old mid → mid.pending ≡ old.pending → WroteNothing begun → weight mid (with_begun begun []) ≤ weight old []
text-weight old mid begun keeps pending wrote =
    omega (arith, nothing-written begun wrote, ap scripts_awaited pending, ap (λ (l : Live). l.written) keeps, ap (λ (l : Live). length l.rest) keeps)

pub ends-tag : (es : Entities) (id : NodeId) (old mid new : Live) (begun : Option Begun) → Prepares id old begun mid → Moves es mid (with_begun begun []) new [] → EndsTag es id old new
ends-tag es id old mid new begun prepares moves = record {
  comes = λ w before page is.
      then-of w (TagComesTo w id (nest_of old [] before page)) mid new begun before page (λ g come. prepares.comes w [] before page g come) (moves.turns.turns w before page is);
  served = moves.served;
  weight = omega (arith, moves.weight, tag-weight old mid begun prepares.keeps prepares.wrote);
}

pub runs-text : (es : Entities) (text : List ℕ) (old mid new : Live) (begun : Option Begun) → Begins text (awaits_none old) begun mid → Moves es mid (with_begun begun []) new [] →
    RunsText es text old new
runs-text es text old mid new begun begins moves = record {
  comes = λ w before page is.
      then-of w (TextComesTo w (statements text) (nest_of (awaits_none old) [] before page)) mid new begun before page (λ g come. begins.comes w [] before page g come)
      (moves.turns.turns w before page is);
  served = moves.served;
  less = omega (arith, moves.weight, text-weight (awaits_none old) mid begun begins.keeps begins.pending begins.wrote);
}

-- ---- the moment behind a script

behind-is : (l : Live) (before : List Line) (page : List ℕ) → behind_script (state_of (nest_of l [] before page)) ≡ moment_of (view_of l false) before page
behind-is l before page = by l.pending
  where
    by : (p : Option (List ℕ)) → unless_pending p (awaiting p (serial_of (view_of l false) before page)) ≡ moment_by p (serial_of (view_of l false) before page)
    by None = refl
    by (Some name) = refl

-- the parse goes to a moment for which the state stands
abbrev pub Reaches : Ending → World → Moment → Live → List Line → List ℕ → Type 0
Reaches e w from l before page = (to : Moment) × Stands (view_of l false) before page to × Through e w from to

-- a script is one moment
script-through : (e : Ending) (w : World) (i : NodeId) (s : Serial) (f : Course) (m : Moment) → ScriptComesTo w i s f → after_script f ≡ Some m → Through e w (tag_ended i s) m
unfolding moment_after
script-through e w i s f m (n, q, ended) is = onward n (tag_ended i s) m m refl (ap after_script q ∙ is) (here m)

pub tag-leads : (es : Entities) (id : NodeId) (old new : Live) → old.pending ≡ None → EndsTag es id old new → (e : Ending) (w : World) (before : List Line) (page : List ℕ) →
    w.entities ≡ es → Reaches e w (tag_ended id (serial_of (view_of old false) before page)) new before page
tag-leads es id old new idle ends e w before page is = by new.halted (ends.comes w before page is)
  where
    tag : (to : Moment) → Through e w (tag_ended id (state_of (nest_of old [] before page))) to → Through e w (tag_ended id (serial_of (view_of old false) before page)) to
    tag to path = subst (λ p. Through e w (tag_ended id (awaiting p (serial_of (view_of old false) before page))) to) idle path

    by : (h : Option Why) → ThenBy h w (TagComesTo w id (nest_of old [] before page)) new [] before page →
        (to : Moment) × StandsBy h (view_of new false) before page to × Through e w (tag_ended id (serial_of (view_of old false) before page)) to
    by None each =
        let come = each (goes (state_of (nest_of new [] before page))) (frames-end w (nest_of new [] before page) refl) in (
          behind_script (state_of (nest_of new [] before page)),
          behind-is new before page,
          tag _ (script-through e w id (state_of (nest_of old [] before page)) (goes (state_of (nest_of new [] before page))) _
              (scripts-enter w id (nest_of old [] before page) _ refl come) refl),
        )
    by (Some l) (g, halt, come) = (
      over (refusal l halt.last),
      record { last = halt.last; is = refl; lines = halt.lines; doc = halt.doc },
      tag _ (script-through e w id (state_of (nest_of old [] before page)) (refuses l halt.last) _
          (scripts-enter w id (nest_of old [] before page) (refuses l halt.last) refl (subst (TagComesTo w id (nest_of old [] before page)) halt.is come)) refl),
    )

pub tag-leads-to : (es : Entities) (id : NodeId) (old new : Live) → old.pending ≡ None → EndsTag es id old new → LeadsTo es (AtTag id (view_of old false)) (view_of new false)
tag-leads-to es id old new idle ends = record {
  leads = λ e w from before page is at-tag. subst (λ k. Reaches e w k new before page) (sym at-tag) (tag-leads es id old new idle ends e w before page is);
}

-- what a text that ran came to
pub text-runs : (es : Entities) (text : List ℕ) (old : Live) (spent : Bool) (new : Live) → RunsText es text old new → Runs es (view_of old spent) (view_of new false) (statements text)
text-runs es text old spent new runs = record { comes = λ w before page is. by w before page new.halted (runs.comes w before page is) }
  where
    by : (w : World) (before : List Line) (page : List ℕ) (h : Option Why) → ThenBy h w (TextComesTo w (statements text) (nest_of (awaits_none old) [] before page)) new [] before page →
        (f : Course) × ComesBy h (view_of new false) before page f × EndsIn (λ n. run_text n w (statements text) (serial_of (view_of old false) before page)) f
    by w before page None each =
        (goes (state_of (nest_of new [] before page)), refl, each (goes (state_of (nest_of new [] before page))) (frames-end w (nest_of new [] before page) refl))
    by w before page (Some l) (g, refusal, come) = (g, refusal, come)

-- ---- written text at level 0

stands-reading : (l : Live) (before : List Line) (page : List ℕ) (from : Moment) → l.halted ≡ None → l.pending ≡ None → Stands (view_of l false) before page from →
    from ≡ reading (serial_of (view_of l false) before page)
stands-reading l before page from on none stands =
    subst (λ p. from ≡ moment_by p (serial_of (view_of l false) before page)) none
    (subst (λ h. StandsBy h (view_of l false) before page from) on stands)

reading-stands : (l : Live) (before : List Line) (page : List ℕ) → l.halted ≡ None → l.pending ≡ None → Stands (view_of l false) before page (reading (serial_of (view_of l false) before page))
reading-stands l before page on none =
    subst (λ h. StandsBy h (view_of l false) before page (reading (serial_of (view_of l false) before page))) (sym on)
    (subst (λ p. reading (serial_of (view_of l false) before page) ≡ moment_by p (serial_of (view_of l false) before page)) (sym none) refl)

-- a part of the rest was parsed
abbrev pub fed : Parser → Doc → List ℕ → Live → Live
fed p d left l = record l { machine = p; doc = d; rest = left }

-- where the parser stopped
fed-leads : (es : Entities) (old : Live) (p : Parser) (d : Doc) (left : List ℕ) (s : Stop) → IsGoing old → old.pending ≡ None → HasParsed es old.machine old.doc old.rest p d left s →
    (e : Ending) (w : World) (from : Moment) (before : List Line) (page : List ℕ) → w.entities ≡ es → Stands (view_of old false) before page from →
    Through e w from (moment_at (serial_of (view_of old false) before page) p d (left ++ page) s)
fed-leads es old p d left s going idle parsed e w from before page is stands =
    subst (λ k. Through e w k (moment_at (serial_of (view_of old false) before page) p d (left ++ page) s)) (sym (stands-reading old before page from going.halted idle stands))
    (batches-through e w (serial_of (view_of old false) before page) old.rest page p d left s refl
    (subst (λ k. HasParsed k old.machine old.doc old.rest p d left s) (sym is) parsed))

pub feeds-end : (es : Entities) (old new : Live) (p : Parser) (d : Doc) (left : List ℕ) (s : Stop) → IsGoing old → Continues old.pending old.rest →
    RestParsed es old.machine old.doc old.rest p d left s → s ≡ stop.InputEnd → new ≡ fed p d left old → FeedsOn es old new
feeds-end es old new p d left s going continues parsed ends is = subst (λ l. FeedsOn es old l) (sym is) (record {
  leads = record {
    leads = λ e w from before page world stands. (
      reading (serial_of (view_of (fed p d left old) false) before page),
      reading-stands (fed p d left old) before page going.halted continues.pending,
      fed-leads es old p d left stop.InputEnd going continues.pending whole e w from before page world stands,
    );
  };
  served = parsed.served;
  weight = omega (arith, some-rest old.rest continues.rest, ap length none);
})
  where
    whole : HasParsed es old.machine old.doc old.rest p d left stop.InputEnd
    whole = subst (λ k. HasParsed es old.machine old.doc old.rest p d left k) ends parsed.parsed

    none : left ≡ []
    none = parse-left es old.machine p old.doc d old.rest left whole

    some-rest : (text : List ℕ) → (text ≡ [] → ⊥) → 0 < length text
    some-rest [] some = absurd (some refl)
    some-rest (c ∷ cs) some = omega arith

pub feeds-deep : (es : Entities) (old new : Live) (p : Parser) (d : Doc) (left : List ℕ) (s : Stop) → IsGoing old → Continues old.pending old.rest →
    RestParsed es old.machine old.doc old.rest p d left s → s ≡ stop.Deep → new ≡ record (fed p d left old) { halted = Some why.Depth } → FeedsOn es old new
feeds-deep es old new p d left s going continues parsed deep is = subst (λ l. FeedsOn es old l) (sym is) (record {
  leads = record {
    leads = λ e w from before page world stands. (
      over (refusal why.Depth (taken p d (left ++ page) (serial_of (view_of old false) before page))),
      record { last = taken p d (left ++ page) (serial_of (view_of old false) before page); is = refl; lines = refl; doc = refl },
      fed-leads es old p d left stop.Deep going continues.pending (subst (λ k. HasParsed es old.machine old.doc old.rest p d left k) deep parsed.parsed) e w from before page world stands,
    );
  };
  served = parsed.served;
  weight = omega (arith, parsed.shorter (λ ends. absurd (cc (sym deep ∙ ends))));
})

pub feeds-script : (es : Entities) (old mid new : Live) (p : Parser) (d : Doc) (left : List ℕ) (s : Stop) (id : NodeId) → IsGoing old → Continues old.pending old.rest →
    RestParsed es old.machine old.doc old.rest p d left s → s ≡ stop.Script id → mid ≡ fed p d left old → EndsTag es id mid new → FeedsOn es old new
feeds-script es old mid new p d left s id going continues parsed stops is ends = by (subst (λ l. EndsTag es id l new) is ends)
  where
    by : EndsTag es id (fed p d left old) new → FeedsOn es old new
    by ended = record {
      leads = record {
        leads = λ e w from before page world stands.
            let there : Reaches e w (tag_ended id (serial_of (view_of (fed p d left old) false) before page)) new before page = tag-leads es id (fed p d left old) new continues.pending ended e w before page world in (
              there.0,
              there.1,
              goes-on e w from _ there.0
                  (fed-leads es old p d left (stop.Script id) going continues.pending (subst (λ k. HasParsed es old.machine old.doc old.rest p d left k) stops parsed.parsed) e w from before page world stands)
                  there.2,
            );
      };
      served = ended.served;
      weight = omega (arith, ended.weight, parsed.shorter (λ ends'. absurd (cc (sym stops ∙ ends'))));
    }

-- ---- one part behind another

pub leads-then : (es : Entities) (a b c : View) → LeadsTo es (Stands a) b → LeadsTo es (Stands b) c → LeadsTo es (Stands a) c
leads-then es a b c first second = record { leads = λ e w from before page is stands. by e w from before page is (first.leads e w from before page is stands) }
  where
    by : (e : Ending) (w : World) (from : Moment) (before : List Line) (page : List ℕ) → w.entities ≡ es → (to : Moment) × Stands b before page to × Through e w from to →
        (to : Moment) × Stands c before page to × Through e w from to
    by e w from before page is (to, stands, path) = let there = second.leads e w to before page is stands in (there.0, there.1, goes-on e w from to there.0 path there.2)

pub leads-nowhere : (es : Entities) (a : View) → LeadsTo es (Stands a) a
leads-nowhere es a = record { leads = λ e w from before page is stands. (from, stands, here from) }

pub stays-itself : (old : Live) → StaysAt old.halted old.pending old old
stays-itself old = by old.halted old.pending
  where
    by : (h : Option Why) (p : Option (List ℕ)) → StaysAt h p old old
    by None None = tt
    by None (Some name) = refl
    by (Some l) p = refl

-- a turn is only where nothing stays
pub stays-on : (old mid new : Live) → StaysAt old.halted old.pending old mid → mid.halted ≡ None → mid.pending ≡ None → StaysAt old.halted old.pending old new
stays-on old mid new stays on none = by old.halted old.pending refl refl stays
  where
    by : (h : Option Why) (p : Option (List ℕ)) → old.halted ≡ h → old.pending ≡ p → StaysAt h p old mid → StaysAt h p old new
    by None None is is' s = tt
    by None (Some name) is is' s = absurd (cc (sym is' ∙ (sym (ap (λ (l : Live). l.pending) s) ∙ none)))
    by (Some l) p is is' s = absurd (cc (sym is ∙ (sym (ap (λ (k : Live). k.halted) s) ∙ on)))
