use Rattle.std.proofs.Common.{◌≡◌, length}
use Rattle.std.specs.Str.{chars}
use denote.Text.{Utf8}
use denote.Shadow.{shadow}
use Rattle.standard.specs.Through.{after_those, read_through}
use Rattle.parse_machine.proofs.machine.Machine.read_through.Given as goal

-- what is left of the text comes to what all of it comes to
abbrev pub invariant-texts : goal.invariant-texts
invariant-texts l = record {
  text : shadow (Utf8 l.rest);
  through : after_those l.fn.ops (read_through l.table l.fn.self (chars l.fn.text)) ≡ after_those l.ops (read_through l.table l.self (chars l.rest));
}

abbrev pub decreases-texts : goal.decreases-texts
decreases-texts l = length l.rest
