-- What the parts of the machine come to, against the definitions of the parser.
use Rattle.std.specs.Prelude.{◌≡◌, ℕ, Bool, true, false, List, ◌++◌, take}
use Rattle.std.specs.Str.{chars}
use Rattle.html_types.specs.declared.operation.Op.{Op}
use Rattle.html_types.specs.declared.instruction.Stop.{Stop}
use Rattle.html_types.specs.declared.instruction.Stop.TheVariants.{InputEnd}
use Rattle.html_types.specs.declared.instruction.Finish.{Finish}
use Rattle.html_types.specs.declared.open.Open.{Open}
use Rattle.standard.specs.Tokenizer.{Reached}
use Rattle.standard.specs.Parser.{Parser, parser, Parsed, Took, took, after_ops, build, Finished, after_all, build_end}
use Rattle.core_definitions.specs.Batches.{Batch, over_with}
use Rattle.parse_machine.specs.declared.machine.Ran.{Ran}
use Rattle.parse_machine.specs.declared.end.End.{End}
use Rattle.parse_machine.specs.declared.process.Went.{Went}
use Rattle.parse_machine.specs.declared.process.Went.TheVariants.{AllUsed}
use Rattle.parse_machine.specs.declared.process.Went.TheVariants as went
use Rattle.parse_machine.specs.declared.process.Ended.{Ended}
use Rattle.parse_machine.specs.declared.process.Ended.TheVariants as ended
use Rattle.parse_machine.specs.Ends.{result_of}

-- the tokens that waited were processed up to a stop, whether or not the last character was a CR
abbrev pub Builds : Bool → Reached → Open → List Op → Reached → Open → List Op → Stop → Type 0
Builds cr m b o m' b' o' stop = after_ops o (build m.state cr m.tokens b) ≡ took o' (parser m'.state cr b') stop

abbrev pub BuildsLast : Bool → Reached → Open → List Op → Reached → Open → List Op → Finish → Type 0
BuildsLast cr m b o m' b' o' finish = after_all o (build_end m.state cr m.tokens b) ≡ record { ops = o'; parser = parser m'.state cr b'; finish = finish }

abbrev pub finished_as : List Op → Parser → Finish → Finished
finished_as o p f = record { ops = o; parser = p; finish = f }

-- what the tokens come to, where the first led to a state and perhaps to a stop
abbrev pub WentTo : Bool → Reached → Open → List Op → Went → Took
WentTo cr m b o AllUsed = took o (parser m.state cr b) InputEnd
WentTo cr m b o went.On = after_ops o (build m.state cr m.tokens b)
WentTo cr m b o (went.At stop) = took o (parser m.state cr b) stop

abbrev pub EndedTo : Bool → Reached → Open → List Op → Ended → Finished
EndedTo cr m b o ended.On = after_all o (build_end m.state cr m.tokens b)
EndedTo cr m b o (ended.At finish) = finished_as o (parser m.state cr b) finish

-- The operations stand behind those before, the state and the stop are the parse's, and the bytes used are those of the
-- characters used.
pub record RanAs (p : Parsed) (before : List Op) (now : Parser) (after : List Op) (ran : Ran) (text : List ℕ) : Type 0 where
  pub ops : after ≡ before ++ p.ops
  pub state : now ≡ p.parser
  pub used : chars (take ran.used text) ≡ take p.used (chars text)
  pub stop : ran.stop ≡ p.stop

-- the parser stops before the text is used
abbrev pub stops : Stop → Bool
stops InputEnd = false
stops _ = true

-- The operations of the ending stand behind those before, and the state and the answer are the ending's.
pub record EndsAs (b : Batch) (before : List Op) (now : Parser) (after : List Op) (end : End) : Type 0 where
  pub ops : after ≡ before ++ b.ops
  pub state : now ≡ b.after
  pub answer : over_with (result_of end) ≡ b.halt
