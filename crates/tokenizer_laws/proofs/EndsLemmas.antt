-- That a character is not read again for ever: steps in common, and the states to which the others return.
use Rattle.std.proofs.Common.{◌≡◌, ℕ, suc, Bool, true, false, if◌then◌else◌, Option, refl}
use Rattle.html_types.specs.declared.word.Word.{Word}
use Rattle.html_types.specs.declared.attributes.Attribute.{Attribute}
use Rattle.html_types.specs.declared.token.PartialTag.{PartialTag}
use Rattle.html_types.specs.declared.token.Quote.{Quote}
use Rattle.html_types.specs.declared.token.Quote.TheVariants.{Single, Double}
use Rattle.html_types.specs.declared.state.RawText.{RawText}
use Rattle.html_types.specs.declared.state.RawText.TheVariants.{Rcdata, Rawtext, ScriptData, ScriptDataEscaped}
use Rattle.html_types.specs.declared.state.TextState.TheVariants.{Raw}
use Rattle.html_types.specs.declared.state.TagState.TheVariants.{AttributeValueQuoted, AttributeValueUnquoted}
use Rattle.html_types.specs.declared.class.Class.{Class}
use Rattle.html_types.specs.declared.class.Class.TheVariants.{Nul}
use Rattle.standard.specs.Entities.{Entities}
use Rattle.standard.specs.Step.{Step, in_text, in_tag, data_state}
use Rattle.tokenizer_laws.specs.TokenizerLaws.{ends}

-- the character is done with after the step, within so many readings more
abbrev pub settles : Entities → Bool → ℕ → Class → ℕ → Step → Bool
settles es foreign n k c r = if r.again then ends es foreign n r.state k c else true

-- one step or another
pub either : (es : Entities) (foreign : Bool) (n : ℕ) (k : Class) (c : ℕ) (p q : Step) (b : Bool) → settles es foreign n k c p ≡ true → settles es foreign n k c q ≡ true → settles es foreign n k c (if b then p else q) ≡ true
either es foreign n k c p q true e f = e
either es foreign n k c p q false e f = f

pub ends-data : (es : Entities) (foreign : Bool) (n : ℕ) (k : Class) (c : ℕ) → ends es foreign (suc n) data_state k c ≡ true
unfolding ends
ends-data es foreign n k c = elim k as (λ v. ends es foreign (suc n) data_state v c ≡ true) [ Nul ↦ refl | _ ↦ refl ]

pub ends-raw : (es : Entities) (foreign : Bool) (n : ℕ) (r : RawText) (l : Option Word) (k : Class) (c : ℕ) → ends es foreign (suc n) (in_text (Raw r l)) k c ≡ true
unfolding ends
ends-raw es foreign n Rcdata l k c = elim k as (λ v. ends es foreign (suc n) (in_text (Raw Rcdata l)) v c ≡ true) [ Nul ↦ refl | _ ↦ refl ]
ends-raw es foreign n Rawtext l k c = elim k as (λ v. ends es foreign (suc n) (in_text (Raw Rawtext l)) v c ≡ true) [ Nul ↦ refl | _ ↦ refl ]
ends-raw es foreign n ScriptData l k c = elim k as (λ v. ends es foreign (suc n) (in_text (Raw ScriptData l)) v c ≡ true) [ Nul ↦ refl | _ ↦ refl ]
ends-raw es foreign n ScriptDataEscaped l k c = elim k as (λ v. ends es foreign (suc n) (in_text (Raw ScriptDataEscaped l)) v c ≡ true) [ Nul ↦ refl | _ ↦ refl ]

pub ends-quoted : (es : Entities) (foreign : Bool) (n : ℕ) (t : PartialTag) (h : Option Attribute) (q : Quote) (k : Class) (c : ℕ) → ends es foreign (suc n) (in_tag (AttributeValueQuoted t h q)) k c ≡ true
unfolding ends
ends-quoted es foreign n t h Single k c = elim k as (λ v. ends es foreign (suc n) (in_tag (AttributeValueQuoted t h Single)) v c ≡ true) [ Nul ↦ refl | _ ↦ refl ]
ends-quoted es foreign n t h Double k c = elim k as (λ v. ends es foreign (suc n) (in_tag (AttributeValueQuoted t h Double)) v c ≡ true) [ Nul ↦ refl | _ ↦ refl ]

pub ends-unquoted : (es : Entities) (foreign : Bool) (n : ℕ) (t : PartialTag) (h : Option Attribute) (k : Class) (c : ℕ) → ends es foreign (suc n) (in_tag (AttributeValueUnquoted t h)) k c ≡ true
unfolding ends
ends-unquoted es foreign n t h k c = elim k as (λ v. ends es foreign (suc n) (in_tag (AttributeValueUnquoted t h)) v c ≡ true) [ Nul ↦ refl | _ ↦ refl ]
