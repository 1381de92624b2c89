-- A script that is in hand never finishes the parse.
use Rattle.std.proofs.Common.{◌≡◌, true≢false, ℕ, true, false, List, [], ◌∷◌, Option, Some, None, refl, subst, sym, ◌∙◌}
use Rattle.std.proofs.lemmas.Option.{same_Some}
use Rattle.html_types.specs.declared.instruction.Stop.TheVariants as stop
use Rattle.html_types.specs.declared.ending.Ending.{Ending}
use Rattle.html_types.specs.declared.ending.Ending.TheVariants as ending
use Rattle.standard.specs.Parser.{Took, took, take_character}
use Rattle.serial.specs.Scripts.{Fetched, got, missing, faulted, file_statements}
use Rattle.serial.specs.Serial.{World, fetched, Serial, Course, goes, refuses, starved, finished, refused, end_of_script, run_text, Moment, reading, tag_ended, awaits, over, after_character, unless_pending, behind_script, after_script, after_fetch, moment_after}
use Rattle.core_definitions.specs.Settling.{is_settled, Through, here, onward, Settles}

-- the parse hasn't finished
abbrev pub HasNotFinished : Moment → Type 0
HasNotFinished (over o) = o.result ≡ finished → ⊥
HasNotFinished _ = Unit {0}

unless-pending : (p : Option (List ℕ)) (t : Serial) → HasNotFinished (unless_pending p t)
unless-pending None t = tt
unless-pending (Some name) t = tt

behind-script : (f : Course) (m : Moment) → after_script f ≡ Some m → HasNotFinished m
behind-script (goes t) m q = subst HasNotFinished (same_Some (behind_script t) m q) (unless-pending t.side.pending t)
behind-script (refuses y t) m q = subst HasNotFinished (same_Some (over (record { result = refused y; last = t })) m q) (λ e. cc e)
behind-script starved m q = absurd (cc q)

behind-character : (s : Serial) (cs : List ℕ) (k : Took) → HasNotFinished (after_character s cs k)
behind-character s cs (took ops p stop.InputEnd) = tt
behind-character s cs (took ops p (stop.Script i)) = tt
behind-character s cs (took ops p stop.Deep) = λ e. cc e

behind-fetch : (n : ℕ) (w : World) (name : List ℕ) (s : Serial) (f : Fetched) (m : Moment) → after_fetch n w name s f ≡ Some m → HasNotFinished m
behind-fetch n w name s (got bytes) m q = behind-script (run_text n w (file_statements bytes) s) m q
behind-fetch n w name s missing m q = subst HasNotFinished (same_Some _ m q) tt
behind-fetch n w name s faulted m q = subst HasNotFinished (same_Some _ m q) (λ e. cc e)

module _ (e : Ending) (w : World) where
  pub tag-goes_on : (n : ℕ) (m m1 : Moment) → is_settled m ≡ false → moment_after n e w m ≡ Some m1 → HasNotFinished m1
  unfolding moment_after
  tag-goes_on n (reading s) m1 open_ q = by s.input open_ q
    where
      by : (cs : List ℕ) → is_settled (reading (record s { input = cs })) ≡ false → moment_after n e w (reading (record s { input = cs })) ≡ Some m1 → HasNotFinished m1
      by [] open_ q = absurd (true≢false open_)
      by (c ∷ cs) open_ q = subst HasNotFinished (same_Some _ m1 q) (behind-character (record s { input = c ∷ cs }) cs (take_character w.entities s.parser c))
  tag-goes_on n (tag_ended i s) m1 open_ q = behind-script (end_of_script n w i s) m1 q
  tag-goes_on n (awaits name s) m1 open_ q = absurd (true≢false open_)
  tag-goes_on n (over o) m1 open_ q = absurd (true≢false open_)

  awaited-goes_on : (n : ℕ) (name : List ℕ) (s : Serial) (m1 : Moment) → moment_after n e w (awaits name s) ≡ Some m1 → HasNotFinished m1
  unfolding moment_after
  awaited-goes_on n name s m1 q = behind-fetch n w name s (fetched w name) m1 q

  through-goes_on : (m m' : Moment) → Through e w m m' → HasNotFinished m → HasNotFinished m'
  through-goes_on m m' (here x) h = h
  through-goes_on m m' (onward n x x1 x' open_ q rest) h = through-goes_on x1 x' rest (tag-goes_on n x x1 open_ q)

pub tag-settles_open : (w : World) (m m' : Moment) → is_settled m ≡ false → Settles w m m' → HasNotFinished m'
tag-settles_open w m m' open_ h = through-goes_on ending.End w h.next m' h.through (tag-goes_on ending.End w h.fuel m h.next open_ h.first)

pub awaited-settles_open : (w : World) (name : List ℕ) (s : Serial) (m' : Moment) → Settles w (awaits name s) m' → HasNotFinished m'
awaited-settles_open w name s m' h = through-goes_on ending.End w h.next m' h.through (awaited-goes_on ending.End w h.fuel name s h.next h.first)
