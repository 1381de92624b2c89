-- Which scripts of a page leave what was parsed ahead of them standing, and which do not. That is told of the serial parse alone.
use Rattle.std.specs.Prelude.{◌≡◌, ℕ, suc, nat_lt, nat_le, Bool, true, false, length, Option, Some, None}
use Rattle.html_types.specs.declared.ending.Ending.{Ending}
use Rattle.core_definitions.specs.declared.verdict.Verdict.{Verdict}
use Rattle.core_definitions.specs.declared.verdict.Verdict.TheVariants.{Keep, Rewind}
use Rattle.serial.specs.Page.{Page}
use Rattle.standard.specs.Prepare.{Prepared, still, inline, external}
use Rattle.standard.specs.Parser.{Parser, AreSame}
use Rattle.serial.specs.Serial.{World, first, prepared, Moment, reading, tag_ended, awaits, over, Outcome, moment_after}

-- The text behind a script's end tag was parsed from the state `held`, and the parser now stands at `now`: what was made of the text is
-- kept exactly where these are the same, the next id aside.
abbrev pub IsVerdict : Parser → Parser → Verdict → Type 0
IsVerdict held now Keep = AreSame held now
IsVerdict held now Rewind = ¬ (AreSame held now)

-- What is known of the page's scripts while the moments of the parse go by: how many characters of the page are left, the parser's
-- state just behind the end tag of the page's script that is in hand, and how many were kept and how many failed.
pub record Watch : Type 0 where
  pub page_left : ℕ
  pub after_tag : Option Parser
  pub kept : ℕ
  pub failed : ℕ

abbrev pub first_watch : Page → Watch
first_watch page = record { page_left = length page.text; after_tag = None; kept = 0; failed = 0 }

abbrev pub runs : Prepared → Bool
runs still = false
runs (inline text) = true
runs (external name) = true

-- The end tag of a script was met, with so many characters left. It is the page's own where fewer of the page are left than before, and in
-- hand where it runs.
abbrev pub at_tag : Bool → Bool → ℕ → Parser → Watch → Watch
at_tag false run left p v = v
at_tag true true left p v = record v { page_left = left; after_tag = Some p }
at_tag true false left p v = record v { page_left = left }

abbrev pub judged : Verdict → Watch → Watch
judged Keep v = record v { after_tag = None; kept = suc v.kept }
judged Rewind v = record v { after_tag = None; failed = suc v.failed }

-- Between two characters, with so many left. Where none is left of what was written, the script in hand is judged; a page without one
-- is read on.
abbrev pub Reads : Bool → Option Parser → ℕ → Parser → Watch → Watch → Type 0
Reads false in_hand left now v v' = v' ≡ v
Reads true None left now v v' = v' ≡ record v { page_left = left }
Reads true (Some held) left now v v' = (c : Verdict) × IsVerdict held now c × (v' ≡ judged c v)

-- what is known at a moment, by what was known before it
abbrev pub Watched : Moment → Watch → Watch → Type 0
Watched (reading s) v v' = Reads (nat_le (length s.input) v.page_left) v.after_tag (length s.input) s.parser v v'
Watched (tag_ended i s) v v' = v' ≡ at_tag (nat_lt (length s.input) v.page_left) (runs (prepared i s)) (length s.input) s.parser v
Watched (awaits name s) v v' = v' ≡ v
Watched (over o) v v' = v' ≡ v

-- from a moment, and what is known at it, to a later one
pub data Watches (e : Ending) (w : World) : Moment → Watch → Moment → Watch → Type 0 where
  stays : (m : Moment) (v : Watch) → Watches e w m v m v
  goes_on : (n : ℕ) (m m1 m' : Moment) (v v1 v' : Watch) → moment_after n e w m ≡ Some m1 → Watched m1 v v1 → Watches e w m1 v1 m' v' → Watches e w m v m' v'

-- what is known of a page's scripts at a moment that its parse passes through
abbrev pub IsKnownAt : Page → World → Moment → Watch → Type 0
IsKnownAt page w m v = Watches page.ending w (reading (first page)) (first_watch page) m v

-- what is known of them where the parse is over
abbrev pub AreVerdicts : Page → World → Watch → Type 0
AreVerdicts page w v = (o : Outcome) × IsKnownAt page w (over o) v
