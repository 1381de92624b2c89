use Rattle.std.proofs.Common.{ap, ◌∙◌}
use Rattle.std.specs.Map.{remove_entry}
use Rattle.std.specs.BTreeMap.{is_at}
use Rattle.standard.specs.Act.{Bound, id_cmp}
use Rattle.op_exec.proofs.Docs.{remove_entry-insert_entry}
use Rattle.op_exec.proofs.bound.make_in_map.Goals as goal

pub returns-in-Err-clause-err_bound : goal.returns-in-Err-clause-err_bound
returns-in-Err-clause-err_bound c =
    c.remove.ensures.entries
    ∙ (ap (λ (es : Bound). remove_entry (is_at (id_cmp c.args.id)) es) c.in_ok-insert.ensures.entries
    ∙ remove_entry-insert_entry c.args.others.now.entries c.args.id c.len-number.result c.requires)
