-- Character references: no character is read more than three times.
use Rattle.std.proofs.Common.{◌≡◌, ℕ, ◌==◌, suc, Bool, true, false, ◌||◌, List, [], ◌∷◌, ◌++◌, Option, Some, None, length, drop, refl}
use Rattle.std.specs.Char.{is_digit}
use Rattle.html_types.specs.declared.reference_state.ReturnState.{ReturnState}
use Rattle.html_types.specs.declared.reference_state.ReturnState.TheVariants as back
use Rattle.html_types.specs.declared.state.RawText.TheVariants.{Rcdata}
use Rattle.html_types.specs.declared.reference_state.ReferenceState.{ReferenceState}
use Rattle.html_types.specs.declared.reference_state.ReferenceState.TheVariants.{Ampersand, Named, Numeric, HexadecimalStart, Hexadecimal, Decimal}
use Rattle.html_types.specs.declared.class.Class.{Class}
use Rattle.html_types.specs.declared.class.Class.TheVariants.{Hash, Digit, Semicolon, Alpha, InputEnd}
use Rattle.standard.specs.Entities.{Entity, Entities, begins_some, longest}
use Rattle.standard.specs.Step.{in_reference}
use Rattle.standard.specs.ReferenceStates.{literally, value_with, is_kept, named_step, character_of}
use Rattle.tokenizer_laws.specs.TokenizerLaws.{ends}
use Rattle.tokenizer_laws.proofs.EndsLemmas.{settles, either, ends-data, ends-raw, ends-quoted, ends-unquoted}

-- back in the return state
return-settles : (es : Entities) (foreign : Bool) (n : ℕ) (r : ReturnState) (cs : List ℕ) (b : Bool) (k : Class) (c : ℕ) → settles es foreign (suc n) k c (literally r cs b) ≡ true
return-settles es foreign n back.Data cs true k c = ends-data es foreign n k c
return-settles es foreign n back.Data cs false k c = refl
return-settles es foreign n (back.Rcdata l) cs true k c = ends-raw es foreign n Rcdata l k c
return-settles es foreign n (back.Rcdata l) cs false k c = refl
return-settles es foreign n (back.AttributeValueQuoted t h q) cs true k c = ends-quoted es foreign n t (value_with h cs) q k c
return-settles es foreign n (back.AttributeValueQuoted t h q) cs false k c = refl
return-settles es foreign n (back.AttributeValueUnquoted t h) cs true k c = ends-unquoted es foreign n t (value_with h cs) k c
return-settles es foreign n (back.AttributeValueUnquoted t h) cs false k c = refl

-- names

found-settles : (es : Entities) (foreign : Bool) (n : ℕ) (r : ReturnState) (h : List ℕ) (found : Option Entity) (k : Class) (c : ℕ) → settles es foreign (suc n) k c (named_step r h found k) ≡ true
found-settles es foreign n r h None k c = return-settles es foreign n r h true k c
found-settles es foreign n r h (Some e) k c =
    either es foreign (suc n) k c _ _ (is_kept r e (drop (length e.name) h) k) (return-settles es foreign n r h true k c) (return-settles es foreign n r (e.characters ++ drop (length e.name) h) true k c)

ends-named : (es : Entities) (foreign : Bool) (n : ℕ) (r : ReturnState) (h : List ℕ) (k : Class) (c : ℕ) → ends es foreign (suc (suc n)) (in_reference (Named r h)) k c ≡ true
unfolding ends
ends-named es foreign n r h InputEnd c = found-settles es foreign n r h (longest h es) InputEnd c
ends-named es foreign n r h k c =
    either es foreign (suc n) k c _ _ (begins_some (h ++ c ∷ []) es) refl (found-settles es foreign n r h (longest h es) k c)

ends-ampersand : (es : Entities) (foreign : Bool) (n : ℕ) (r : ReturnState) (k : Class) (c : ℕ) → ends es foreign (suc (suc (suc n))) (in_reference (Ampersand r)) k c ≡ true
unfolding ends
ends-ampersand es foreign n r Alpha c = ends-named es foreign n r (38 ∷ []) Alpha c
ends-ampersand es foreign n r Digit c = ends-named es foreign n r (38 ∷ []) Digit c
ends-ampersand es foreign n r Hash c = refl
ends-ampersand es foreign n r k c = return-settles es foreign (suc n) r (38 ∷ []) true k c

-- numbers

ends-hexadecimal : (es : Entities) (foreign : Bool) (n : ℕ) (r : ReturnState) (m : ℕ) (k : Class) (c : ℕ) → ends es foreign (suc (suc n)) (in_reference (Hexadecimal r m)) k c ≡ true
unfolding ends
ends-hexadecimal es foreign n r m Semicolon c = return-settles es foreign n r (character_of m ∷ []) false Semicolon c
ends-hexadecimal es foreign n r m InputEnd c = return-settles es foreign n r (character_of m ∷ []) true InputEnd c
ends-hexadecimal es foreign n r m k c =
    either es foreign (suc n) k c _ _ (is_digit c 16) refl (return-settles es foreign n r (character_of m ∷ []) true k c)

ends-decimal : (es : Entities) (foreign : Bool) (n : ℕ) (r : ReturnState) (m : ℕ) (k : Class) (c : ℕ) → ends es foreign (suc (suc n)) (in_reference (Decimal r m)) k c ≡ true
unfolding ends
ends-decimal es foreign n r m Semicolon c = return-settles es foreign n r (character_of m ∷ []) false Semicolon c
ends-decimal es foreign n r m InputEnd c = return-settles es foreign n r (character_of m ∷ []) true InputEnd c
ends-decimal es foreign n r m k c =
    either es foreign (suc n) k c _ _ (is_digit c 10) refl (return-settles es foreign n r (character_of m ∷ []) true k c)

ends-hexadecimal_start : (es : Entities) (foreign : Bool) (n : ℕ) (r : ReturnState) (x : ℕ) (k : Class) (c : ℕ) → ends es foreign (suc (suc (suc n))) (in_reference (HexadecimalStart r x)) k c ≡ true
unfolding ends
ends-hexadecimal_start es foreign n r x InputEnd c = return-settles es foreign (suc n) r (38 ∷ 35 ∷ x ∷ []) true InputEnd c
ends-hexadecimal_start es foreign n r x k c =
    either es foreign (suc (suc n)) k c _ _ (is_digit c 16) (ends-hexadecimal es foreign n r 0 k c) (return-settles es foreign (suc n) r (38 ∷ 35 ∷ x ∷ []) true k c)

ends-numeric : (es : Entities) (foreign : Bool) (n : ℕ) (r : ReturnState) (k : Class) (c : ℕ) → ends es foreign (suc (suc (suc n))) (in_reference (Numeric r)) k c ≡ true
unfolding ends
ends-numeric es foreign n r Alpha c =
    either es foreign (suc (suc n)) Alpha c _ _ (c == 120 || c == 88) refl (return-settles es foreign (suc n) r (38 ∷ 35 ∷ []) true Alpha c)
ends-numeric es foreign n r Digit c = ends-decimal es foreign n r 0 Digit c
ends-numeric es foreign n r k c = return-settles es foreign (suc n) r (38 ∷ 35 ∷ []) true k c

pub ends-reference : (es : Entities) (foreign : Bool) (n : ℕ) (s : ReferenceState) (k : Class) (c : ℕ) → ends es foreign (suc (suc (suc n))) (in_reference s) k c ≡ true
ends-reference es foreign n (Ampersand r) k c = ends-ampersand es foreign n r k c
ends-reference es foreign n (Named r h) k c = ends-named es foreign (suc n) r h k c
ends-reference es foreign n (Numeric r) k c = ends-numeric es foreign n r k c
ends-reference es foreign n (HexadecimalStart r x) k c = ends-hexadecimal_start es foreign n r x k c
ends-reference es foreign n (Hexadecimal r m) k c = ends-hexadecimal es foreign (suc n) r m k c
ends-reference es foreign n (Decimal r m) k c = ends-decimal es foreign (suc n) r m k c
