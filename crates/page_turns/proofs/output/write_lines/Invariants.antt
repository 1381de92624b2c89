use Rattle.std.proofs.Common.{◌≤◌, flat_map, take}
use Rattle.serial.specs.Output.{line_text}
use Rattle.page_turns.specs.Taken.{Took}
use Rattle.page_turns.proofs.output.write_lines.Given as goal

abbrev pub invariant-loop-line : goal.invariant-loop-line
invariant-loop-line g l = record {
  took : Took (g.K.Sink.taken l.initial.out) (g.K.Sink.taken l.out) (flat_map line_text (take l.line-index l.lines));
  faults : g.K.Sink.faults l.initial.out ≤ g.K.Sink.faults l.out;
}
