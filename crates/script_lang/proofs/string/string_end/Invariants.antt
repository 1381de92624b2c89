use Rattle.std.proofs.Common.{◌≡◌, false}
use Rattle.serial.specs.Statements.{string_end}
use Rattle.script_lang.proofs.Ends.{end_from}
use Rattle.script_lang.proofs.string.string_end.Given as goal

abbrev pub invariant-loop-place : goal.invariant-loop-place
invariant-loop-place l = end_from l.escaped l.byte-items l.place ≡ string_end false l.byte-items
