-- Character references that stand whole in a text.
use Rattle.std.specs.Prelude.{◌≡◌, ◌==◌, ◌&&◌, not, ℕ, Bool, true, false, if◌then◌else◌, List, [], ◌∷◌, ◌++◌, map, length, drop, Option, Some, None}
use Rattle.std.specs.Char.{is_digit}
use Rattle.std.specs.List.{list_any}
use Rattle.std.specs.Str.{chars}
use Rattle.html_types.specs.declared.class.Class.{Class}
use Rattle.html_types.specs.declared.class.Class.TheVariants.{Alpha, Digit, Hash, Semicolon}
use Rattle.html_types.specs.declared.reference_state.ReferenceState.TheVariants.{Named, Decimal, Hexadecimal}
use Rattle.html_types.specs.declared.reference_state.ReturnState.{ReturnState}
use Rattle.html_types.specs.declared.state.TokState.{TokState}
use Rattle.html_types.specs.declared.token.Token.TheVariants.{Character}
use Rattle.standard.specs.Class.{class_of}
use Rattle.standard.specs.Entities.{Entity, Entities, ends_in_semicolon}
use Rattle.standard.specs.ReferenceStates.{return_state, is_in_attribute, literally, goes_on, class_behind}
use Rattle.standard.specs.Step.{data_state, in_reference}
use Rattle.standard.specs.Tokenizer.{after_tokens, read, feed}
use Rattle.entity_table.specs.View.{characters_in}
use Rattle.entity_table.specs.declared.row.Characters.{Characters}
use Rattle.tokenizer.specs.Whole.{has_cr, piece}
use Rattle.tokenizer.specs.declared.reference.OpenReference.{OpenReference}

-- the classes with which a name may begin behind its `&`
abbrev pub begins : Class → Bool
begins Alpha = true
begins Digit = true
begins _ = false

-- and of which it goes on
abbrev pub in_name : Class → Bool
in_name Alpha = true
in_name Digit = true
in_name Semicolon = true
in_name _ = false

-- these characters were read in a state that references return to, and are held as a name
abbrev pub InName : Entities → List ℕ → Type 0
InName es cs = (foreign : Bool) (back : ReturnState) (rest : List ℕ) → feed es foreign (return_state back) (cs ++ rest) ≡ feed es foreign (in_reference (Named back cs)) rest

-- Read one by one from the data state they make no token, and each character behind them makes first those for which they stand, and then its own of the data state.
pub record Refers (es : Entities) (cs stands_for : List ℕ) : Type 0 where
  pub silent : (foreign : Bool) → (feed es foreign data_state cs).tokens ≡ []
  pub behind : (foreign : Bool) (c : ℕ) → read es foreign (feed es foreign data_state cs).state c ≡ after_tokens (map Character stands_for) (read es foreign data_state c)

-- Where a character stands behind them, they come to those for which they stand: emitted, or behind the value; and it is read in the state that references return to.
abbrev pub Means : Entities → List ℕ → List ℕ → Type 0
Means es cs stands_for = (foreign : Bool) (back : ReturnState) (c : ℕ) (rest : List ℕ) →
    feed es foreign (return_state back) (cs ++ c ∷ rest) ≡ after_tokens (literally back stands_for true).tokens (feed es foreign (literally back stands_for true).state (c ∷ rest))

-- ---- names that are read up to a character with which none goes on

abbrev pub has_nul : List ℕ → Bool
has_nul cs = list_any (λ c. c == 0) cs

-- a CR is read as a line feed
abbrev pub as_read : ℕ → ℕ
as_read c = if c == 13 then 10 else c

-- The characters were read, and are held as a name.
pub record IsHeld (es : Entities) (cs : List ℕ) : Type 0 where
  pub name : InName es cs
  pub no_cr : has_cr cs ≡ false
  pub no_nul : has_nul cs ≡ false

-- Read one by one from the data state they make no token, and this character behind them makes first those for which they stand, and then its own of the data state.
pub record RefersBefore (es : Entities) (c : ℕ) (cs stands_for : List ℕ) : Type 0 where
  pub silent : (foreign : Bool) → (feed es foreign data_state cs).tokens ≡ []
  pub behind : (foreign : Bool) → read es foreign (feed es foreign data_state cs).state c ≡ after_tokens (map Character stands_for) (read es foreign data_state c)

-- the characters begin with this one
abbrev pub IsFirst : ℕ → List ℕ → Type 0
IsFirst c cs = (rest : List ℕ) × (cs ≡ c ∷ rest)

-- So does the character that stands behind a part of a text.
abbrev pub RefersIn : Entities → List ℕ → ℕ → ℕ → List ℕ → Type 0
RefersIn es text from end stands_for = (c : ℕ) → IsFirst c (chars (drop end text)) → RefersBefore es (as_read c) (piece text from end) stands_for

-- what a held name stands for in the data state, where that is the longest name of the table in it
abbrev pub standing_for : List ℕ → Option Entity → List ℕ
standing_for held None = held
standing_for held (Some e) = e.characters ++ drop (length e.name) held

abbrev pub found_characters : Option Characters → List ℕ
found_characters None = []
found_characters (Some found) = characters_in found

-- the characters for which such a reference stands
abbrev pub open_characters : OpenReference → List ℕ
open_characters r = found_characters r.characters ++ chars r.rest.now

-- ---- references in an attribute's value, up to a character with which no name goes on

-- nothing is replaced, where that is the longest name in what was held, and this class is behind that
abbrev pub is_kept : List ℕ → Option Entity → Class → Bool
is_kept held None k = false
is_kept held (Some e) k = not (ends_in_semicolon e.name) && goes_on (class_behind (drop (length e.name) held) k)

-- what was held stands for this in a value
abbrev pub in_value : List ℕ → Option Entity → Class → List ℕ
in_value held found k = if is_kept held found k then held else standing_for held found

-- the classes of characters before which a `&` begins no reference
abbrev pub leaves_ampersand : Class → Bool
leaves_ampersand Alpha = false
leaves_ampersand Digit = false
leaves_ampersand Hash = false
leaves_ampersand _ = true

-- In a value they come to those for which they stand where this character is behind them, and it is read behind the value.
abbrev pub MeansBefore : Entities → ℕ → List ℕ → List ℕ → Type 0
MeansBefore es c cs stands_for = (foreign : Bool) (back : ReturnState) (rest : List ℕ) → is_in_attribute back ≡ true →
    feed es foreign (return_state back) (cs ++ c ∷ rest) ≡ after_tokens (literally back stands_for true).tokens (feed es foreign (literally back stands_for true).state (c ∷ rest))

-- So they do with the character that stands behind a part of a text.
abbrev pub MeansIn : Entities → List ℕ → ℕ → ℕ → List ℕ → Type 0
MeansIn es text from end stands_for = (c : ℕ) → IsFirst c (chars (drop end text)) → MeansBefore es c (piece text from end) stands_for

-- ---- numbers, in base 10 or in base 16

abbrev pub radix : Bool → ℕ
radix false = 10
radix true = 16

-- the classes of digits
abbrev pub in_number : Bool → Class → Bool
in_number hexadecimal Digit = true
in_number true Alpha = true
in_number hexadecimal _ = false

pub record IsDigit (hexadecimal : Bool) (c : ℕ) : Type 0 where
  pub class : in_number hexadecimal (class_of c) ≡ true
  pub digit : is_digit c (radix hexadecimal) ≡ true

-- the state in which digits were read
abbrev pub digits : Bool → ReturnState → ℕ → TokState
digits false back code = in_reference (Decimal back code)
digits true back code = in_reference (Hexadecimal back code)

-- behind these characters digits may stand
abbrev pub OpensNumber : Bool → List ℕ → Type 0
OpensNumber hexadecimal cs = (es : Entities) (foreign : Bool) (back : ReturnState) (c : ℕ) (rest : List ℕ) → IsDigit hexadecimal c →
    feed es foreign (return_state back) (cs ++ c ∷ rest) ≡ feed es foreign (digits hexadecimal back 0) (c ∷ rest)

-- digits were read among them
abbrev pub Counts : Bool → List ℕ → ℕ → Type 0
Counts hexadecimal cs code = (es : Entities) (foreign : Bool) (back : ReturnState) (rest : List ℕ) → feed es foreign (return_state back) (cs ++ rest) ≡ feed es foreign (digits hexadecimal back code) rest
