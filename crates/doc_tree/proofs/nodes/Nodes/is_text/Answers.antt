use Rattle.std.proofs.Common.{ap, ◌∙◌}
use Rattle.standard.specs.Tree.{is_text}
use Rattle.doc_tree.proofs.Done.{kind_read}
use Rattle.doc_tree.proofs.nodes.Nodes.is_text.Goals as goal

pub returns : goal.returns
returns c =
    c.is_text.ensures c.self.inside.store
    ∙ ap is_text (kind_read c.self.inside.store c.self.inside.rows.items c.args.self.now c.self.view_is c.self.invariant.linked c.args.node c.index-row.result.now c.requires c.index-row.ensures).is
