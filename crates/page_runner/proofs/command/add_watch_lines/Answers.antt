use Rattle.std.proofs.Common.{◌≡◌, ◌<◌, length, sym, subst, arith}
use Rattle.page_runner.proofs.MannerLemmas.{lines_more}
use Rattle.page_runner.proofs.command.add_watch_lines.Goals as goal

pub loop-i-preserved : goal.loop-i-preserved
loop-i-preserved c =
    let here : c.loop-i.i < length c.args.seen.now = omega arith in
    record {
      added = λ t all. lines_more c.args.text.now.items c.loop-i.text.items c.add_watch_line.new.text.items _ t c.loop-i.i (c.loop-i.invariant.added t all)
          (subst (λ s. s.text ≡ t) (sym c.index-seen-i.is) (all c.loop-i.i c.index-seen-i.result here)) c.in_ok-add_watch_line.ensures;
    }
