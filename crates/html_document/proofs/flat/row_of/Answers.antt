use Rattle.std.proofs.Common.{◌∙◌, ap}
use Rattle.html_document.specs.Flat.{kind_number, space_at, link_number}
use Rattle.html_document.proofs.flat.row_of.Goals as goal

pub returns-clause-node : goal.returns-clause-node
returns-clause-node c = record {
  kind = c.kind_number.ensures ∙ ap kind_number c.kind-kind.ensures;
  space = c.space_at.ensures ∙ ap space_at c.kind-kind.ensures;
  parent = c.in_ok-parent.ensures ∙ ap link_number c.parent.ensures.parent;
  first_child = c.in_ok-first_child.ensures ∙ ap link_number c.first_child.ensures;
  last_child = c.in_ok-last_child.ensures ∙ ap link_number c.last_child.ensures;
  previous = c.in_ok-previous.ensures ∙ ap link_number c.previous.ensures;
  next = c.in_ok-next.ensures ∙ ap link_number c.next_sibling.ensures;
  contents = c.in_ok-contents.ensures ∙ ap link_number c.contents.ensures.contents;
}
