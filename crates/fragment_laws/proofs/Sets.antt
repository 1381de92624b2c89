-- The statement that sets what stands in an element.
use Rattle.std.proofs.Common.{suc, ap}
use Rattle.serial.specs.Serial.{execute, on_set}
use Rattle.fragment_laws.specs.Laws.{SetsTree, SetsTooDeep}

pub sets-tree : SetsTree
unfolding execute
sets-tree n w k v c list s t is = ap (λ there. on_set (suc n) w k list there s) is

pub sets-too_deep : SetsTooDeep
unfolding execute
sets-too_deep n w k v c list s is = ap (λ there. on_set (suc n) w k list there s) is
