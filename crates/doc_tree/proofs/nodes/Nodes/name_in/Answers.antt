use Rattle.doc_tree.proofs.Done.{kind_read}
use Rattle.doc_tree.proofs.nodes.Nodes.name_in.Goals as goal

pub name_in-requires : goal.name_in-requires
name_in-requires c = (kind_read c.self.inside.store c.self.inside.rows.items c.args.self.now c.self.view_is c.self.invariant.linked c.args.node c.index-row.result.now c.requires c.index-row.ensures).held

pub returns : goal.returns
returns c =
    rw (← (kind_read c.self.inside.store c.self.inside.rows.items c.args.self.now c.self.view_is c.self.invariant.linked c.args.node c.index-row.result.now c.requires c.index-row.ensures).is)
    c.name_in.ensures
