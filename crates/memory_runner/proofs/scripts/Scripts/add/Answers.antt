use Rattle.std.proofs.Common.{◌∙◌}
use Rattle.outside.specs.Memory.{files_of}
use Rattle.memory_runner.proofs.Printed.{added}
use Rattle.memory_runner.proofs.scripts.Scripts.add.Goals as goal

pub returns : goal.returns
returns c other =
    added c.as_str.result.now c.args.name.now c.args.bytes.now (files_of c.args.self.now.files) (files_of c.add.new.self) (c.as_str.ensures.value ∙ c.in_ok-path.ensures.ok) c.in_ok-add.ensures.ok other
