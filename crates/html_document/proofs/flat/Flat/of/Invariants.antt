use Rattle.html_document.proofs.Lists.{ShowsFirst}
use Rattle.html_document.proofs.flat.Flat.of.Given as goal

abbrev pub invariant-loop-node : goal.invariant-loop-node
invariant-loop-node l = ShowsFirst l.tree l.node l.flat.nodes.items l.flat.attributes.items l.flat.text.items
