use Rattle.std.proofs.lemmas.Result.{IfOk-weaker}
use Rattle.std.specs.String.{string_bytes}
use Rattle.page_runner.proofs.MakingLemmas.{tally-line}
use Rattle.page_runner.proofs.making.tally_line.Goals as goal

pub returns : goal.returns
returns c = IfOk-weaker c.format.result _ _ (λ line is. tally-line (string_bytes line) c.args.tally is) c.format.ensures.ok
