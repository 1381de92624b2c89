use Rattle.std.proofs.Common.{false, List, ◌++◌, ◌∷◌, [], sym, ap, ◌∙◌}
use Rattle.std.specs.declared.snapshot.Snapshot.{Snapshot}
use Rattle.serial.specs.declared.script.Line.{Line}
use Rattle.write_parser.specs.Writing.{View}
use Rattle.core_steps.specs.declared.side.Side.{Side}
use Rattle.core_steps.specs.Sides.{lines_given, shown_of}
use Rattle.core_steps.proofs.Stays.{lines-taken}
use Rattle.core_steps.proofs.side.Side.take_lines.Goals as goal

pub returns-clause-taken : goal.returns-clause-taken
returns-clause-taken c =
    let s = c.args.self.now in
    lines-taken s (record s { writer = c.take_lines-lines.new.self; given = c.push_reserved.new.self }) c.of.result
    (ap (λ (v : View). record s { writer = v; given = c.push_reserved.new.self }) c.take_lines-lines.ensures.others)
    (c.push_reserved.ensures.items ∙ ap (λ (gs : List (Snapshot (List Line))). gs ++ c.of.result ∷ []) c.reserve.ensures.items) (c.of.ensures ∙ c.take_lines-lines.ensures.lines)
    ∙ ap (λ (ls : List Line). record (shown_of s false) { given = lines_given s.given.items ++ ls }) (sym c.take_lines-lines.ensures.lines)
