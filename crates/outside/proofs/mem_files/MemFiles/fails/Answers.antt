use Rattle.std.proofs.Common.{rules, ◌≡◌}
use Rattle.outside.specs.MemFiles.{number_at}
use Rattle.outside.proofs.mem_files.MemFiles.fails.Goals as goal

pub returns-clause-fails : goal.returns-clause-fails
returns-clause-fails c =
    let number : c.saturating_add-number.result ≡ number_at c.args.self.now c.args.port = search rules in
    rw (← number, ← c.deref.ensures.value) c.is_listed.ensures
