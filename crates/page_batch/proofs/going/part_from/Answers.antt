use Rattle.std.proofs.Common.{◌++◌, ◌∙◌, ap}
use Rattle.parse_machine.specs.Ends.{result_of}
use Rattle.page_batch.proofs.EndLemmas.{settles-part, used-same}
use Rattle.page_batch.proofs.going.part_from.Goals as goal

pub returns-clause-settled : goal.returns-clause-settled
returns-clause-settled g c = λ read h.
    settles-part c.args.pair.now c.take_lines.new.pair c.args.text.items c.take_lines.new.text.items c.in_ok-last.last.items c.extend_from_slice.new.self.items c.doc.result.now (result_of c.args.outcome) c.end_number.result h
    c.in_ok-take_lines.ensures.goes c.every_interleaving.ensures.in_each c.requires c.in_ok-take_lines.ensures.core c.in_ok-take_lines.ensures.all c.doc.ensures c.in_ok-last.ensures c.end_number.ensures
    (c.in_ok-extend_from_slice.ensures.items ∙ ap (λ l. c.take_lines.new.text.items ++ l) c.deref.ensures.value)

pub returns-clause-used : goal.returns-clause-used
returns-clause-used g c = used-same c.args.pair.now c.take_lines.new.pair c.args.text.items c.take_lines.new.text.items c.of.result c.journal.result.now c.in_ok-take_lines.ensures.goes c.of.ensures c.journal.ensures
