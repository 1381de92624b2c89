use Rattle.page_turns.proofs.PassedLemmas.{passed-stand}
use Rattle.page_turns.proofs.watch.passed_stand.Goals as goal

pub returns : goal.returns
returns c = passed-stand
