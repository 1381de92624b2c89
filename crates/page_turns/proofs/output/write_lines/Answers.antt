use Rattle.page_turns.proofs.LineLemmas.{on_err, line-front}
use Rattle.page_turns.proofs.output.write_lines.Goals as goal

pub returns-in_err-write_line-clause-front : goal.returns-in_err-write_line-clause-front
returns-in_err-write_line-clause-front g c =
    on_err _ _ (line-front (g.K.Sink.taken c.args.out.now) (g.K.Sink.taken c.loop-line.out) (g.K.Sink.taken c.write_line.new.out) c.args.lines.now c.loop-line.line-index c.line-item.result c.loop-line-test.true c.line-item.is
    c.loop-line.invariant.took c.in_err-write_line.ensures.front)
