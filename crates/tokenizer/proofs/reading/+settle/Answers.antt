use Rattle.std.proofs.Common.{refl, sym, append-nil, arith}
use Rattle.tokenizer_laws.proofs.SettleLemmas.{settle-none}
use Rattle.tokenizer.proofs.ReadingLemmas.{Adds-from_last, IfOk-from_more}
use Rattle.tokenizer.proofs.reading.+settle.Goals as goal

pub returns-then-readings-eq0 : goal.returns-then-readings-eq0
returns-then-readings-eq0 t c =
    let none = settle-none c.args.table.now c.args.foreign c.args.state c.args.class c.args.c in
    rw (c.if-readings-eq0.true, none) (record { state = refl; tokens = sym (append-nil c.args.out.now) })

pub returns-then-next : goal.returns-then-next
returns-then-next t c = IfOk-from_more _ c.settle.result c.args.table.now c.args.foreign c.args.readings c.args.state c.args.class c.args.c (omega arith) c.in_ok-next.ensures c.if-next.true c.settle.ensures

pub returns-else-next : goal.returns-else-next
returns-else-next t c = Adds-from_last c.args.table.now c.args.foreign c.args.readings c.args.state c.args.class c.args.c (omega arith) c.in_ok-next.ensures c.if-next.false
