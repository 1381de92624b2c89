use Rattle.tag_sets.proofs.Lowered.{same_lowered}
use Rattle.op_exec.proofs.fragment.is_spelled.Goals as goal

pub returns : goal.returns
returns c = same_lowered c.args.text.now c.args.name.now _ c.utf8.text c.requires c.eq_ignore_ascii_case.ensures.test
