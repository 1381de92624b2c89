-- The value of the string with which a text begins, by the text's bytes.
use Rattle.std.proofs.Common.{◌≡◌, ℕ, ◌+◌, false, List, [], ◌∷◌, ◌++◌, take, drop, Option, Some, None, option_map, option_and_then, refl, sym, ap, ◌∙◌, lit<, add-one, encode_utf8}
use Rattle.std.specs.Prelude.{encode_utf8_all}
use Rattle.std.specs.Str.{chars, IsUtf8, IsCharBoundary}
use Rattle.std.specs.Str.Pattern.{FindsCharPrefix}
use Rattle.std.proofs.Math.Utf8.{encodes}
use Rattle.std.proofs.lemmas.Str.{chars_past_char, IsUtf8-past_char, IsUtf8-drop, encodes-chars, encodes_same, encode_ascii}
use Rattle.std.proofs.lemmas.Str.Pattern.{strip_prefix_char}
use Rattle.json.specs.Text.{content, plain}
use Rattle.serde_json.specs.Find.{as_str}
use Rattle.serde_json.specs.Read.{read}
use Rattle.serial.specs.Statements.{behind, string_end, string_value}
use Rattle.script_lang.specs.Parts.{cut}
use Rattle.script_lang.proofs.Words.{behind-some}
use Rattle.script_lang.proofs.Utf8Ends.{spelled, string_end-chars}
use Rattle.script_lang.proofs.JsonStrings.{read-string}

abbrev Parts : Type 0
Parts = List ℕ × List ℕ

-- by characters

no_string : (cs : List ℕ) → behind (34 ∷ []) cs ≡ None → string_value cs ≡ None
unfolding string_value
no_string cs e = rw e refl

no_end : (inside : List ℕ) → string_end false inside ≡ None → string_value (34 ∷ inside) ≡ None
unfolding string_value
no_end inside e = rw e refl

chained : {A B : Type 0} (f : A → B) (o : Option A) → option_and_then (λ a. Some (f a)) o ≡ option_map f o
chained f None = refl
chained f (Some a) = refl

has_end : (inside : List ℕ) (parts : Parts) → string_end false inside ≡ Some parts
    → string_value (34 ∷ inside) ≡ option_map (λ value. (chars value, parts.1)) (content plain (encode_utf8_all parts.0))
unfolding string_value
has_end inside parts e = rw e (chained (λ value. (chars value, parts.1)) (content plain (encode_utf8_all parts.0)))

-- by bytes

quote_first : (t inside : List ℕ) → t ≡ 34 ∷ inside → t ≡ encode_utf8 34 ++ inside
quote_first t inside e = e ∙ ap (λ bs. bs ++ inside) (sym (encode_ascii 34 (lit< tt)))

begins_none : (t : List ℕ) (o : Option (List ℕ)) → IsUtf8 t → ((rest : List ℕ) → t ≡ 34 ∷ rest → ⊥) → behind (34 ∷ []) (chars t) ≡ o → o ≡ None
begins_none t None u h e = refl
begins_none t (Some r) u h e =
    absurd (h (encodes r) (sym (encodes-chars t u) ∙ ap encodes (behind-some (34 ∷ []) (chars t) r e) ∙ ap (λ bs. bs ++ encodes r) (encode_ascii 34 (lit< tt))))

pub string_value-no_quote : (t : List ℕ) → IsUtf8 t → FindsCharPrefix 34 t None → string_value (chars t) ≡ None
string_value-no_quote t u h = no_string (chars t) (begins_none t _ u (strip_prefix_char 34 t None h (lit< tt)) refl)

unmapped_none : (o : Option Parts) → None ≡ option_map spelled o → o ≡ None
unmapped_none None e = refl
unmapped_none (Some p) e = absurd (cc)

pub string_value-no_end : (t inside : List ℕ) → IsUtf8 t → t ≡ 34 ∷ inside → None ≡ string_end false inside → string_value (chars t) ≡ None
string_value-no_end t inside u e none =
    let whole = quote_first t inside e in
    let v = IsUtf8-past_char t inside 34 u whole in
    ap string_value (chars_past_char t inside 34 u whole)
    ∙ no_end (chars inside) (unmapped_none (string_end false (chars inside)) (none ∙ string_end-chars inside v))

unmapped_some : (o : Option Parts) (p : Parts) → Some p ≡ option_map spelled o → (q : Parts) × (o ≡ Some q) × (encodes q.0 ≡ p.0) × (encodes q.1 ≡ p.1)
unmapped_some None p e = absurd (cc)
unmapped_some (Some q) p e = let same : p ≡ spelled q = cc in (q, refl, sym (ap (λ (r : Parts). r.0) same), sym (ap (λ (r : Parts). r.1) same))

twice : (rest : List ℕ) (o : Option (List ℕ)) → option_map {U = Parts} (λ w. (w, rest)) (option_map chars o) ≡ option_map (λ v. (chars v, rest)) o
twice rest None = refl
twice rest (Some v) = refl

module _ (t inside : List ℕ) (end : ℕ) (u : IsUtf8 t) (e : t ≡ 34 ∷ inside) (found : Some (cut inside end) ≡ string_end false inside) (b : IsCharBoundary inside end) where
  inside_text : IsUtf8 inside
  inside_text = IsUtf8-past_char t inside 34 u (quote_first t inside e)

  by_content : string_value (chars t) ≡ option_map (λ value. (chars value, chars (drop end inside))) (content plain (take end inside))
  by_content =
      let (parts, is, front, back) = unmapped_some (string_end false (chars inside)) (cut inside end) (found ∙ string_end-chars inside inside_text) in
      let rest : parts.1 ≡ chars (drop end inside) = encodes_same parts.1 (chars (drop end inside)) (back ∙ sym (encodes-chars (drop end inside) (IsUtf8-drop inside end inside_text b))) in
      ap string_value (chars_past_char t inside 34 u (quote_first t inside e))
      ∙ has_end (chars inside) parts is
      ∙ ap (λ r. option_map (λ value. (chars value, r)) (content plain (encode_utf8_all parts.0))) rest
      ∙ ap (λ bytes. option_map (λ value. (chars value, chars (drop end inside))) (content plain bytes)) front

  pub string_value-found : (quoted rest : List ℕ) → quoted ≡ take (end + 1) t → rest ≡ drop (end + 1) t → (value : Option (List ℕ)) → value ≡ option_map chars (option_and_then as_str (read quoted))
      → option_map (λ v. (v, chars rest)) value ≡ string_value (chars t)
  string_value-found quoted rest front back value is =
      let quoted_is : quoted ≡ 34 ∷ take end inside = front ∙ ap (take (end + 1)) e ∙ ap (λ n. take n (34 ∷ inside)) (add-one end) in
      let rest_is : rest ≡ drop end inside = back ∙ ap (drop (end + 1)) e ∙ ap (λ n. drop n (34 ∷ inside)) (add-one end) in
      ap (λ v. option_map (λ w. (w, chars rest)) v) is
      ∙ ap (λ bytes. option_map (λ w. (w, chars rest)) (option_map chars (option_and_then as_str (read bytes)))) quoted_is
      ∙ ap (λ o. option_map (λ w. (w, chars rest)) (option_map chars o)) (read-string inside (cut inside end) (sym found))
      ∙ twice (chars rest) (content plain (take end inside))
      ∙ ap (λ r. option_map (λ v. (chars v, chars r)) (content plain (take end inside))) rest_is
      ∙ sym by_content

  -- where the content means itself
  pub string_value-plain : (front rest : List ℕ) → content plain (take end inside) ≡ Some front → rest ≡ drop end inside → Some (chars front, chars rest) ≡ string_value (chars t)
  string_value-plain front rest value back =
      ap (λ bytes. Some (chars front, chars bytes)) back
      ∙ sym (ap (option_map (λ (v : List ℕ). (chars v, chars (drop end inside)))) value)
      ∙ sym by_content
