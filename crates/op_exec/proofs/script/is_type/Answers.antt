use Rattle.op_exec.proofs.Types.{same_type}
use Rattle.op_exec.proofs.script.is_type.Goals as goal

pub returns : goal.returns
returns c = same_type c.args.text.now c.trim_ascii.result.now c.args.name.now _ c.utf8.text c.trim_ascii.ensures.value c.requires c.eq_ignore_ascii_case.ensures.test
