use Rattle.std.proofs.Common.{◌-◌, drop, length, arith}
use Rattle.std.proofs.lemmas.List.{take_all, length-drop}
use Rattle.text_store.proofs.seen.behind_first.Goals as goal

pub returns : goal.returns
returns c = take_all (length c.args.marks.now - 1) (drop 1 c.args.marks.now) (omega (arith, length-drop 1 c.args.marks.now))
