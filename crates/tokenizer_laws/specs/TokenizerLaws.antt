-- Laws of the tokenizer's rows (13.2.5 #tokenization), over texts and over reconsuming.
use Rattle.std.specs.Prelude.{◌≡◌, ℕ, Bool, true, false, not, ◌&&◌, List, [], ◌∷◌, ◌++◌, map, if◌then◌else◌, codes}
use Rattle.std.proofs.Common.{zero, suc}
use Rattle.html_types.specs.declared.token.Token.{Token}
use Rattle.html_types.specs.declared.token.Token.TheVariants.{Character, EndOfFile}
use Rattle.html_types.specs.declared.state.TokState.{TokState}
use Rattle.html_types.specs.declared.state.TokState.TheVariants as group
use Rattle.html_types.specs.declared.mark_state.MarkState.TheVariants.{MarkupDeclarationOpen}
use Rattle.html_types.specs.declared.mark_state.CdataState.TheVariants.{Section}
use Rattle.html_types.specs.declared.class.Class.{Class}
use Rattle.standard.specs.Entities.{Entities, is_front}
use Rattle.standard.specs.Step.{data_state}
use Rattle.standard.specs.CdataStates.{in_cdata}
use Rattle.standard.specs.Tokenizer.{Reached, row, readings, read_end, feed, onward}

-- a text may be cut anywhere: its parts, one after the other, come to what it comes to
abbrev pub CutAnywhere : Type 0
CutAnywhere = (es : Entities) (foreign : Bool) (m : Reached) (x y : List ℕ) → onward es foreign m (x ++ y) ≡ onward es foreign (onward es foreign m x) y

-- whether so many readings of a character are enough
unfoldable pub ends : Entities → Bool → ℕ → TokState → Class → ℕ → Bool
ends es foreign zero s k c = false
ends es foreign (suc n) s k c = if (row es foreign s k c).again then ends es foreign n (row es foreign s k c).state k c else true

-- the bound of the readings is never met
abbrev pub EndsAlways : Type 0
EndsAlways = (es : Entities) (foreign : Bool) (s : TokState) (k : Class) (c : ℕ) → ends es foreign readings s k c ≡ true

-- the last of the tokens is that one
abbrev pub EndsWith : Token → List Token → Type 0
EndsWith t ts = (front : List Token) × (ts ≡ front ++ t ∷ [])

-- the end of the input makes an end-of-file token, and none behind it
abbrev pub EndsInEndOfFile : Type 0
EndsInEndOfFile = (es : Entities) (foreign : Bool) (s : TokState) → EndsWith EndOfFile (read_end es foreign s).tokens

-- a state in which a markup declaration begins
abbrev pub is_declaration : TokState → Bool
is_declaration (group.Mark (MarkupDeclarationOpen held)) = true
is_declaration _ = false

-- whether the adjusted current node is an HTML element is asked where a markup declaration begins, and nowhere else
abbrev pub AsksAtDeclarations : Type 0
AsksAtDeclarations = (es : Entities) (foreign other : Bool) (s : TokState) (k : Class) (c : ℕ) → is_declaration s ≡ false → row es foreign s k c ≡ row es other s k c

-- no `]]>` stands in the text
abbrev pub lacks_close : List ℕ → Bool
lacks_close [] = true
lacks_close (c ∷ cs) = not (is_front (codes "]]>") (c ∷ cs)) && lacks_close cs

-- a CDATA section emits its characters as they are, up to the first `]]>`, and the data state follows
abbrev pub CdataIsText : Type 0
CdataIsText = (es : Entities) (foreign : Bool) (cs : List ℕ) → lacks_close (cs ++ codes "]]") ≡ true →
    feed es foreign (in_cdata Section) (cs ++ codes "]]>") ≡ record { tokens = map Character cs; state = data_state }
