use Rattle.std.proofs.Common.{arith}
use Rattle.std.proofs.lemmas.Str.Pattern.{split_once_first}
use Rattle.page_batch.proofs.LineLemmas.{none-after}
use Rattle.page_batch.proofs.list.behind_line.Goals as goal

pub returns-in-Some : goal.returns-in-Some
returns-in-Some c = let cut = rw c.in-Some.is at (split_once_first 10 c.args.text.now c.split_once.result c.split_once.ensures.cases (omega arith)) in cut.2

pub returns-in-None : goal.returns-in-None
returns-in-None c = none-after c.args.text.now (rw c.in-None.is at (split_once_first 10 c.args.text.now c.split_once.result c.split_once.ensures.cases (omega arith)))
