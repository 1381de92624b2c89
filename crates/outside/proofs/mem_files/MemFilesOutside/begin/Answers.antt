use Rattle.std.proofs.Common.{◌∙◌, ap, arith}
use Rattle.outside.specs.ByPort.{at_port}
use Rattle.outside.proofs.MemFilesLemmas.{failed_keeps}
use Rattle.outside.proofs.mem_files.MemFilesOutside.begin.Goals as goal

pub returns-then-fails-clause-others : goal.returns-then-fails-clause-others
returns-then-fails-clause-others c =
    let before = c.fails.ensures.faults in
    failed_keeps c.args.port c.args.self.now.files c.count_fault.new.self.files c.close.new.self (at_port c.args.self.now.faults) (at_port c.count_fault.new.self.faults)
    (c.count_fault.ensures.files ∙ c.fails.ensures.files) c.close.ensures.files c.close.ensures.others c.close.ensures.others_begun c.close.ensures.others_calls c.close.ensures.others_open c.close.ensures.absences
    (λ other ne. c.count_fault.ensures.others other ne ∙ ap (λ f. at_port f other) before)
    (λ port. let rose = c.count_fault.ensures.faults port in let same = ap (λ f. at_port f port) before in omega arith)
