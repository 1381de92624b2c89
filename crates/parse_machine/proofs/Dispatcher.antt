-- The tree construction dispatcher: all characters go by the same rules.
use Rattle.std.proofs.Common.{◌≡◌, ℕ, Bool, Option, Some, None, refl, ap}
use Rattle.std.specs.Prelude.{if◌then◌else◌}
use Rattle.html_types.specs.declared.token.Token.TheVariants.{Character}
use Rattle.html_types.specs.declared.open.Open.{Open}
use Rattle.html_types.specs.declared.open.OpenElement.{OpenElement}
use Rattle.html_types.specs.declared.instruction.Mode.TheVariants.{InForeign}
use Rattle.standard.specs.Foreign.{adjusted, is_foreign_element, is_foreign, goes_foreign}
use Rattle.standard.specs.Rules.{rules_for}

both_foreign : (c d : ℕ) (o : Option OpenElement) → goes_foreign (Character c) o ≡ goes_foreign (Character d) o
unfolding goes_foreign
both_foreign c d None = refl
both_foreign c d (Some e) = refl

pub same_rules : (c d : ℕ) (b : Open) → rules_for (Character c) b ≡ rules_for (Character d) b
same_rules c d b = ap (λ (v : Bool). if v then InForeign else b.mode) (both_foreign c d (adjusted b))

-- the adjusted current node alone decides
pub same_foreign : (b b' : Open) → adjusted b ≡ adjusted b' → is_foreign b ≡ is_foreign b'
unfolding is_foreign
same_foreign b b' e = ap is_foreign_element e
