use Rattle.std.proofs.Common.{refl}
use Rattle.page_turns.proofs.MessageLemmas.{tells_unordered}
use Rattle.page_runner.proofs.on_two.OverLanesCounterpart.answer.Goals as goal

pub returns-clause-tells : goal.returns-clause-tells
returns-clause-tells g c = tells_unordered _ _ _ _ _ refl refl
