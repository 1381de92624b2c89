-- Once over, no further turn changes anything.
use Rattle.std.proofs.Common.{◌≡◌, refl, ℕ, zero, suc, Bool, List}
use Rattle.html_types.specs.declared.name.Name.{Name}
use Rattle.html_types.specs.declared.operation.Op.{Op}
use Rattle.html_types.specs.declared.open.Open.{Open}
use Rattle.html_types.specs.declared.instruction.Turn.TheVariants.{Over, Other}
use Rattle.standard.specs.Adoption.{turned, turns}

pub turns_over : (n : ℕ) (is : Name → Bool) (b : Open) (o : List Op) → turns n is (turned b o Over) ≡ turned b o Over
turns_over zero is b o = refl
turns_over (suc n) is b o = refl

pub turns_other : (n : ℕ) (is : Name → Bool) (b : Open) (o : List Op) → turns n is (turned b o Other) ≡ turned b o Other
turns_other zero is b o = refl
turns_other (suc n) is b o = refl
