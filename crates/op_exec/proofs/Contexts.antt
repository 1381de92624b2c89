-- Whether a node is a form or stands under one, a step at a time.
use Rattle.std.proofs.Common.{◌≡◌, ℕ, suc, true, false, Some, None, ap, ◌∙◌}
use Rattle.std.specs.Prelude.{◌||◌, unwrap_or}
use Rattle.std.specs.Option.{option_map}
use Rattle.standard.specs.Tree.{Nodes, kind_of, parent_of}
use Rattle.standard.specs.Fragment.{is_form, in_form_by}

pub form-here : (t : Nodes) (k n : ℕ) → is_form (kind_of t n) ≡ true → in_form_by t (suc k) n ≡ true
form-here t k n is = ap (λ b. b || unwrap_or (option_map (λ p. in_form_by t k p) (parent_of t n)) false) is

above : (t : Nodes) (k n : ℕ) → is_form (kind_of t n) ≡ false → in_form_by t (suc k) n ≡ unwrap_or (option_map (λ p. in_form_by t k p) (parent_of t n)) false
above t k n is = ap (λ b. b || unwrap_or (option_map (λ p. in_form_by t k p) (parent_of t n)) false) is

pub form-above : (t : Nodes) (k n p : ℕ) → is_form (kind_of t n) ≡ false → parent_of t n ≡ Some p → in_form_by t (suc k) n ≡ in_form_by t k p
form-above t k n p is link = above t k n is ∙ ap (λ o. unwrap_or (option_map (λ q. in_form_by t k q) o) false) link

pub form-none : (t : Nodes) (k n : ℕ) → is_form (kind_of t n) ≡ false → parent_of t n ≡ None → in_form_by t (suc k) n ≡ false
form-none t k n is link = above t k n is ∙ ap (λ o. unwrap_or (option_map (λ q. in_form_by t k q) o) false) link
