use Rattle.std.proofs.Common.{rules, arith, refl}
use Rattle.std.proofs.lemmas.Grind.{common_steps}
use Rattle.two_copies.proofs.SidesKept.{rests}
use Rattle.two_copies.proofs.desk.Open.new.Goals as goal

pub invariant_of-result : goal.invariant_of-result
invariant_of-result g c = record {
  seated = search rules;
  sized = (first_of (search rules, grind (arith, common_steps)));
  whole = (first_of (search rules, grind (arith, common_steps)));
  planned = rests _ _ c.begin.ensures.1 _ _ _ refl refl refl refl refl refl (first_of (search rules, grind (arith, common_steps)));
}
