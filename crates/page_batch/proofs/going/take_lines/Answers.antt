use Rattle.std.proofs.Common.{◌≡◌, ◌++◌, ◌∙◌, flat_map, ap, subst}
use Rattle.serial.specs.Output.{line_text}
use Rattle.core_pair.specs.Pairs.{Paired}
use Rattle.page_turns.proofs.LineLemmas.{on_ok, ok_weaker}
use Rattle.page_batch.proofs.GoingLemmas.{goes-lines}
use Rattle.page_batch.proofs.TurnLemmas.{lines-taken}
use Rattle.page_batch.proofs.going.take_lines.Goals as goal

pub returns-clause-goes : goal.returns-clause-goes
returns-clause-goes g c =
    ok_weaker c.push_lines.result _ _ (λ is. goes-lines c.args.pair.now c.take_lines.new.self c.in_ok-lines.lines c.args.text.now.items c.push_lines.new.text.items c.in_ok-lines.ensures.taken
    (subst (λ ls. c.push_lines.new.text.items ≡ c.args.text.now.items ++ flat_map line_text ls) c.as_slice.ensures is)) c.push_lines.ensures

pub returns-clause-all : goal.returns-clause-all
returns-clause-all g c = on_ok c.push_lines.result _ (lines-taken c.args.pair.now c.take_lines.new.self c.in_ok-lines.lines c.in_ok-lines.ensures.lines c.in_ok-lines.ensures.taken)

pub returns-clause-core : goal.returns-clause-core
returns-clause-core g c = on_ok c.push_lines.result _ (ap (λ (p : Paired). p.core) c.in_ok-lines.ensures.taken)
