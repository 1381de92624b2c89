-- Letters have their class, whatever is tested before them.
use Rattle.std.proofs.Common.{◌≡◌, ℕ, ◌&&◌, true, false, true≢false, refl, sym, ap, ◌∙◌, arith}
use Rattle.std.specs.Prelude.{nat_le}
use Rattle.std.specs.Char.{is_ascii_alphabetic}
use Rattle.std.proofs.lemmas.Bool.{ne_eqb}
use Rattle.std.proofs.lemmas.Bool.Decides.{nat_tests}
use Rattle.html_types.specs.declared.class.Class.TheVariants.{Alpha}
use Rattle.standard.specs.Class.{class_of}

no_digit : (c : ℕ) → is_ascii_alphabetic c ≡ true → (nat_le 48 c && nat_le c 57) ≡ false
no_digit c h = grind (arith, nat_tests)

pub letter_class : (c : ℕ) → is_ascii_alphabetic c ≡ true → class_of c ≡ Alpha
letter_class c h =
    let no = λ (n : ℕ) (k : is_ascii_alphabetic n ≡ false). ne_eqb c n (λ e. true≢false (sym h ∙ ap is_ascii_alphabetic e ∙ k)) in
    rw (
      no 0 refl,
      no 9 refl,
      no 10 refl,
      no 12 refl,
      no 32 refl,
      no 33 refl,
      no 34 refl,
      no 35 refl,
      no 38 refl,
      no 39 refl,
      no 45 refl,
      no 47 refl,
      no_digit c h,
      no 59 refl,
      no 60 refl,
      no 61 refl,
      no 62 refl,
      no 63 refl,
      h,
    ) refl
