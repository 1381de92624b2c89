use Rattle.std.proofs.Common.{◌∙◌}
use Rattle.doc_tree.proofs.Done.{kind_read}
use Rattle.doc_tree.proofs.nodes.Nodes.kind.Goals as goal

pub kind-requires : goal.kind-requires
kind-requires c = (kind_read c.self.inside.store c.self.inside.rows.items c.args.self.now c.self.view_is c.self.invariant.linked c.args.node c.index-row.result.now c.requires c.index-row.ensures).held

pub returns : goal.returns
returns c = c.kind.ensures ∙ (kind_read c.self.inside.store c.self.inside.rows.items c.args.self.now c.self.view_is c.self.invariant.linked c.args.node c.index-row.result.now c.requires c.index-row.ensures).is
