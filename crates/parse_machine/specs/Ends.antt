-- How the parse of a page is over, as the definitions say it.
use Rattle.serial.specs.Serial.{Result, finished, refused}
use Rattle.parse_machine.specs.declared.end.End.{End}
use Rattle.parse_machine.specs.declared.end.End.TheVariants.{Finished, Refused}

-- the serial parse's result
abbrev pub result_of : End → Result
result_of Finished = finished
result_of (Refused why) = refused why
