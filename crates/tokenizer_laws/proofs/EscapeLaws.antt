-- Script escapes: no character is read more than twice.
use Rattle.std.proofs.Common.{◌≡◌, ℕ, suc, Bool, true, List, Option, refl}
use Rattle.html_types.specs.declared.word.Word.{Word}
use Rattle.html_types.specs.declared.state.TextState.TheVariants.{EscapeStart, EscapeStartDash, EscapedDash, EscapedDashDash, DoubleEscapeStart, DoubleEscaped, DoubleEscapedDash, DoubleEscapedDashDash, DoubleEscapedLessThan, DoubleEscapeEnd}
use Rattle.html_types.specs.declared.class.Class.{Class}
use Rattle.html_types.specs.declared.class.Class.TheVariants.{Nul}
use Rattle.standard.specs.Entities.{Entities}
use Rattle.standard.specs.Step.{in_text}
use Rattle.tokenizer_laws.specs.TokenizerLaws.{ends}

pub ends-escape_start : (es : Entities) (foreign : Bool) (n : ℕ) (l : Option Word) (k : Class) (c : ℕ) → ends es foreign (suc (suc n)) (in_text (EscapeStart l)) k c ≡ true
unfolding ends
ends-escape_start es foreign n l k c = elim k as (λ v. ends es foreign (suc (suc n)) (in_text (EscapeStart l)) v c ≡ true) [ Nul ↦ refl | _ ↦ refl ]

pub ends-escape_start_dash : (es : Entities) (foreign : Bool) (n : ℕ) (l : Option Word) (k : Class) (c : ℕ) → ends es foreign (suc (suc n)) (in_text (EscapeStartDash l)) k c ≡ true
unfolding ends
ends-escape_start_dash es foreign n l k c = elim k as (λ v. ends es foreign (suc (suc n)) (in_text (EscapeStartDash l)) v c ≡ true) [ Nul ↦ refl | _ ↦ refl ]

pub ends-escaped_dash : (es : Entities) (foreign : Bool) (n : ℕ) (l : Option Word) (k : Class) (c : ℕ) → ends es foreign (suc (suc n)) (in_text (EscapedDash l)) k c ≡ true
unfolding ends
ends-escaped_dash es foreign n l k c = elim k as (λ v. ends es foreign (suc (suc n)) (in_text (EscapedDash l)) v c ≡ true) [ Nul ↦ refl | _ ↦ refl ]

pub ends-escaped_dash_dash : (es : Entities) (foreign : Bool) (n : ℕ) (l : Option Word) (k : Class) (c : ℕ) → ends es foreign (suc (suc n)) (in_text (EscapedDashDash l)) k c ≡ true
unfolding ends
ends-escaped_dash_dash es foreign n l k c = elim k as (λ v. ends es foreign (suc (suc n)) (in_text (EscapedDashDash l)) v c ≡ true) [ Nul ↦ refl | _ ↦ refl ]

pub ends-double_escape_start : (es : Entities) (foreign : Bool) (n : ℕ) (l : Option Word) (t : List ℕ) (k : Class) (c : ℕ) → ends es foreign (suc (suc n)) (in_text (DoubleEscapeStart l t)) k c ≡ true
unfolding ends
ends-double_escape_start es foreign n l t k c = elim k as (λ v. ends es foreign (suc (suc n)) (in_text (DoubleEscapeStart l t)) v c ≡ true) [ Nul ↦ refl | _ ↦ refl ]

pub ends-double_escaped : (es : Entities) (foreign : Bool) (n : ℕ) (l : Option Word) (k : Class) (c : ℕ) → ends es foreign (suc (suc n)) (in_text (DoubleEscaped l)) k c ≡ true
unfolding ends
ends-double_escaped es foreign n l k c = elim k as (λ v. ends es foreign (suc (suc n)) (in_text (DoubleEscaped l)) v c ≡ true) [ Nul ↦ refl | _ ↦ refl ]

pub ends-double_escaped_dash : (es : Entities) (foreign : Bool) (n : ℕ) (l : Option Word) (k : Class) (c : ℕ) → ends es foreign (suc (suc n)) (in_text (DoubleEscapedDash l)) k c ≡ true
unfolding ends
ends-double_escaped_dash es foreign n l k c = elim k as (λ v. ends es foreign (suc (suc n)) (in_text (DoubleEscapedDash l)) v c ≡ true) [ Nul ↦ refl | _ ↦ refl ]

pub ends-double_escaped_dash_dash : (es : Entities) (foreign : Bool) (n : ℕ) (l : Option Word) (k : Class) (c : ℕ) → ends es foreign (suc (suc n)) (in_text (DoubleEscapedDashDash l)) k c ≡ true
unfolding ends
ends-double_escaped_dash_dash es foreign n l k c = elim k as (λ v. ends es foreign (suc (suc n)) (in_text (DoubleEscapedDashDash l)) v c ≡ true) [ Nul ↦ refl | _ ↦ refl ]

pub ends-double_escaped_less_than : (es : Entities) (foreign : Bool) (n : ℕ) (l : Option Word) (k : Class) (c : ℕ) → ends es foreign (suc (suc n)) (in_text (DoubleEscapedLessThan l)) k c ≡ true
unfolding ends
ends-double_escaped_less_than es foreign n l k c = elim k as (λ v. ends es foreign (suc (suc n)) (in_text (DoubleEscapedLessThan l)) v c ≡ true) [ Nul ↦ refl | _ ↦ refl ]

pub ends-double_escape_end : (es : Entities) (foreign : Bool) (n : ℕ) (l : Option Word) (t : List ℕ) (k : Class) (c : ℕ) → ends es foreign (suc (suc n)) (in_text (DoubleEscapeEnd l t)) k c ≡ true
unfolding ends
ends-double_escape_end es foreign n l t k c = elim k as (λ v. ends es foreign (suc (suc n)) (in_text (DoubleEscapeEnd l t)) v c ≡ true) [ Nul ↦ refl | _ ↦ refl ]
