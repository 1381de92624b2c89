-- The faults that a double counts beside those of what it holds.
use Rattle.std.specs.Prelude.{ℕ, ◌+◌, None}
use Rattle.outside.specs.declared.traits.Port.{Port}
use Rattle.outside.specs.declared.traits.Port.TheVariants.{Entities, List, Page, Script}
use Rattle.outside.specs.Outside.{Seen}

-- a count of scripts
abbrev pub of_scripts : ℕ → Port → ℕ
of_scripts count Entities = 0
of_scripts count List = 0
of_scripts count Page = 0
of_scripts count Script = count

-- so many faults of scripts more; the calls aren't told, since those that failed so were never made of what it holds
abbrev pub with_faults : ℕ → Seen → Seen
with_faults count seen = record seen {
  calls = λ _. None;
  faults = λ port. seen.faults port + of_scripts count port;
}
