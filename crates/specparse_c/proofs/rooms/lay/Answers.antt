use Rattle.std.proofs.Common.{◌≤◌, ◌++◌, ◌∙◌, length, drop, sym, ap, subst}
use Rattle.specparse_c.proofs.rooms.lay.Goals as goal

pub fill-requires : goal.fill-requires
fill-requires c = subst (λ xs. length xs ≤ length c.args.nodes.now) (sym c.as_slice.ensures.value) c.requires.nodes

pub fill-requires-2 : goal.fill-requires-2
fill-requires-2 c = subst (λ xs. length xs ≤ length c.args.attributes.now) (sym c.as_slice-2.ensures.value) c.requires.attributes

pub fill-requires-3 : goal.fill-requires-3
fill-requires-3 c = subst (λ xs. length xs ≤ length c.args.text.now) (sym c.as_slice-3.ensures.value) c.requires.text

pub returns-clause-nodes : goal.returns-clause-nodes
returns-clause-nodes c = c.fill.ensures ∙ ap (λ xs. xs ++ drop (length xs) c.args.nodes.now) c.as_slice.ensures.value

pub returns-clause-attributes : goal.returns-clause-attributes
returns-clause-attributes c = c.fill-2.ensures ∙ ap (λ xs. xs ++ drop (length xs) c.args.attributes.now) c.as_slice-2.ensures.value

pub returns-clause-text : goal.returns-clause-text
returns-clause-text c = c.fill-3.ensures ∙ ap (λ xs. xs ++ drop (length xs) c.args.text.now) c.as_slice-3.ensures.value
