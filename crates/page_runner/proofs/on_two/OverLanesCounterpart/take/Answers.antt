use Rattle.std.proofs.Common.{refl}
use Rattle.page_turns.proofs.MessageLemmas.{tells_unordered}
use Rattle.page_runner.proofs.OnTwoLemmas.{always_ok}
use Rattle.page_runner.proofs.on_two.OverLanesCounterpart.take.Goals as goal

pub returns-clause-tells : goal.returns-clause-tells
returns-clause-tells g c = always_ok _ (tells_unordered _ _ _ _ _ refl refl)
