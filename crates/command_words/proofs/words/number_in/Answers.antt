use Rattle.std.proofs.Common.{arith}
use Rattle.command_words.proofs.GrammarLemmas.{read_number, read_none}
use Rattle.command_words.proofs.words.number_in.Goals as goal

pub returns-else-most-number : goal.returns-else-most-number
returns-else-most-number c =
    let read = c.in-Ok.ensures.value.0 in
    read_number c.args.least c.args.most c.args.otherwise c.in-Ok.number c.args.text.now read.0.0 read.0.1 read.1 (omega arith) (omega arith)

pub returns-in-Err : goal.returns-in-Err
returns-in-Err c = read_none c.args.least c.args.most c.args.otherwise c.args.text.now (λ number. c.in-Err.ensures.value.0 (number.0, number.1))
