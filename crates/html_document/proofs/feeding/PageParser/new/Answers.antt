use Rattle.html_document.proofs.Pieces.{first-fed, first-served}
use Rattle.html_document.proofs.feeding.PageParser.new.Goals as goal

pub invariant_of-result : goal.invariant_of-result
invariant_of-result c = λ _ _. first-served c.new-machine.result c.in_ok-doc.doc c.new-machine.ensures c.in_ok-doc.ensures

pub returns : goal.returns
returns c = first-fed c.args.table.now c.new-decoder.result c.new-machine.result c.in_ok-doc.doc c.in_ok-table.table c.in_ok-table.ensures c.new-decoder.ensures c.new-machine.ensures c.in_ok-doc.ensures
