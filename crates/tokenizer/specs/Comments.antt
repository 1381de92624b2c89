-- A comment that stands whole in a text.
use Rattle.std.specs.Prelude.{◌≡◌, ℕ, Bool, true, false, List, [], ◌∷◌, ◌++◌, ◌&&◌}
use Rattle.html_types.specs.declared.class.Class.{Class}
use Rattle.html_types.specs.declared.class.Class.TheVariants.{Hyphen, Less, Greater, InputEnd}
use Rattle.html_types.specs.declared.mark_state.CommentState.TheVariants.{Start, Inside}
use Rattle.standard.specs.Class.{class_of}
use Rattle.standard.specs.CommentStates.{in_comment}
use Rattle.standard.specs.Entities.{Entities}
use Rattle.standard.specs.Step.{data_state}
use Rattle.standard.specs.Tokenizer.{feed}
use Rattle.tokenizer.specs.declared.part.Part.TheVariants as part
use Rattle.tokenizer.specs.Whole.{is_of}

-- the classes with which a comment's text may begin
abbrev pub begins : Class → Bool
begins Hyphen = false
begins Less = false
begins Greater = false
begins InputEnd = false
begins _ = true

abbrev pub begins_inside : List ℕ → Bool
begins_inside [] = false
begins_inside (c ∷ cs) = begins (class_of c) && is_of part.Comment c

-- behind these characters a comment begins
abbrev pub OpensComment : List ℕ → Type 0
OpensComment cs = (es : Entities) (foreign : Bool) (rest : List ℕ) → feed es foreign data_state (cs ++ rest) ≡ feed es foreign (in_comment Start) rest

-- a comment gets these characters
abbrev pub Continues : List ℕ → Type 0
Continues cs = (es : Entities) (foreign : Bool) (text rest : List ℕ) → feed es foreign (in_comment (Inside text)) (cs ++ rest) ≡ feed es foreign (in_comment (Inside (text ++ cs))) rest
