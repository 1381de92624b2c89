-- A text that begins with none of the letters with which the names begin is none of them.
use Rattle.std.proofs.Common.{◌≡◌, ◌≢◌, ℕ, List, ◌∷◌, [], ◌++◌, length, Option, None, refl, sym, ap, ◌∙◌}
use Rattle.std.specs.Prelude.{encode_utf8}
use Rattle.std.specs.Str.{chars, IsUtf8}
use Rattle.std.proofs.lemmas.Bool.{ne_eqb}
use Rattle.std.proofs.lemmas.Str.{chars_past_char}
use Rattle.std.proofs.StrCases.{chars_of_empty}
use Rattle.foreign_tables.specs.Split.{FindsFrom}
use Rattle.standard.specs.ForeignNames.{respelled, svg_names, svg_attributes}

pub no_svg_name : (letter : ℕ) (rest : List ℕ) → 97 ≢ letter → 99 ≢ letter → 102 ≢ letter → 103 ≢ letter → 108 ≢ letter → 114 ≢ letter → 116 ≢ letter → respelled svg_names (letter ∷ rest) ≡ None
unfolding respelled svg_names
no_svg_name letter rest a c f g l r t = rw (ne_eqb 97 letter a, ne_eqb 99 letter c, ne_eqb 102 letter f, ne_eqb 103 letter g, ne_eqb 108 letter l, ne_eqb 114 letter r, ne_eqb 116 letter t) refl

pub no_svg_attribute : (letter : ℕ) (rest : List ℕ) → 97 ≢ letter → 98 ≢ letter → 99 ≢ letter → 100 ≢ letter → 101 ≢ letter → 102 ≢ letter → 103 ≢ letter → 107 ≢ letter → 108 ≢ letter → 109 ≢ letter → 110 ≢ letter → 112 ≢ letter
    → 114 ≢ letter → 115 ≢ letter → 116 ≢ letter → 118 ≢ letter → 120 ≢ letter → 121 ≢ letter → 122 ≢ letter → respelled svg_attributes (letter ∷ rest) ≡ None
unfolding respelled svg_attributes
no_svg_attribute letter rest a b c d e f g k l m n p r s t v x y z =
    rw (
      ne_eqb 97 letter a,
      ne_eqb 98 letter b,
      ne_eqb 99 letter c,
      ne_eqb 100 letter d,
      ne_eqb 101 letter e,
      ne_eqb 102 letter f,
      ne_eqb 103 letter g,
      ne_eqb 107 letter k,
      ne_eqb 108 letter l,
      ne_eqb 109 letter m,
      ne_eqb 110 letter n,
      ne_eqb 112 letter p,
      ne_eqb 114 letter r,
      ne_eqb 115 letter s,
      ne_eqb 116 letter t,
      ne_eqb 118 letter v,
      ne_eqb 120 letter x,
      ne_eqb 121 letter y,
      ne_eqb 122 letter z,
    ) refl

-- nor is the empty text one
pub no_svg_name-empty : respelled svg_names [] ≡ None
unfolding respelled svg_names
no_svg_name-empty = refl

pub no_svg_attribute-empty : respelled svg_attributes [] ≡ None
unfolding respelled svg_attributes
no_svg_attribute-empty = refl

-- what was found among the names that begin with the text's first letter
pub found_from : (names all : List (List ℕ)) (it lower rest : List ℕ) (letter : ℕ) (found : Option (List ℕ)) → IsUtf8 lower → it ≡ lower → it ≡ encode_utf8 letter ++ rest → FindsFrom letter names all
    → found ≡ respelled names (chars lower) → found ≡ respelled all (chars lower)
found_from names all it lower rest letter found u same begins finds is =
    let text : chars lower ≡ letter ∷ chars rest = chars_past_char lower rest letter u (sym same ∙ begins) in
    is ∙ (ap (respelled names) text ∙ (finds (chars rest) ∙ sym (ap (respelled all) text)))

pub found_empty : (all : List (List ℕ)) (it lower : List ℕ) → it ≡ lower → length it ≡ 0 → respelled all [] ≡ None → None ≡ respelled all (chars lower)
found_empty all it lower same none no_name = sym (ap (respelled all) (chars_of_empty lower (sym (ap length same) ∙ none)) ∙ no_name)
