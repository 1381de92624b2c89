-- Which elements an instruction means.
use Rattle.std.specs.Prelude.{ℕ, Bool, true, false, ◌||◌, List, [], ◌∷◌, codes}
use Rattle.html_types.specs.Text.{same_text}
use Rattle.html_types.specs.Words.{same_word}
use Rattle.html_types.specs.declared.word.Word.{Word}
use Rattle.html_types.specs.declared.instruction.Group.{Group}
use Rattle.html_types.specs.declared.instruction.Scope.{Scope}
use Rattle.html_types.specs.declared.instruction.Who.{Who}
use Rattle.html_types.specs.declared.instruction.Who.TheVariants.{Own, The, Any, Nobody}
use Rattle.standard.specs.Groups.{in_group, stops}
use Rattle.html_types.specs.declared.instruction.Scope.TheVariants as scope
use Rattle.html_types.specs.declared.instruction.Group.TheVariants as group
use Rattle.html_types.specs.declared.name.Space.{Space}
use Rattle.html_types.specs.declared.name.Space.TheVariants.{Html, MathMl, Svg}
use Rattle.html_types.specs.declared.name.Name.{Name}
use Rattle.html_types.specs.declared.name.Name.TheVariants.{Known, Other}
use Rattle.html_types.specs.declared.token.Token.{Token}
use Rattle.html_types.specs.declared.token.Token.TheVariants.{StartTag, EndTag}
use Rattle.html_types.specs.Names.{same_name}

-- ---- foreign elements

abbrev pub is_text_of : List (List ℕ) → List ℕ → Bool
is_text_of [] t = false
is_text_of (x ∷ xs) t = same_text t x || is_text_of xs t

-- an element of MathML with one of these names
abbrev pub is_math : List (List ℕ) → Name → Bool
is_math names (Known w) = false
is_math names (Other Html t) = false
is_math names (Other MathMl t) = is_text_of names t
is_math names (Other Svg t) = false

-- and of SVG
abbrev pub is_svg : List (List ℕ) → Name → Bool
is_svg names (Known w) = false
is_svg names (Other Html t) = false
is_svg names (Other MathMl t) = false
is_svg names (Other Svg t) = is_text_of names t

-- the MathML text integration points (13.2.6 #tree-construction)
abbrev pub text_points : List (List ℕ)
text_points = codes "mi" ∷ codes "mo" ∷ codes "mn" ∷ codes "ms" ∷ codes "mtext" ∷ []

-- the elements of SVG that are HTML integration points (13.2.6 #tree-construction)
abbrev pub html_points : List (List ℕ)
html_points = codes "foreignObject" ∷ codes "desc" ∷ codes "title" ∷ []

-- the foreign elements that are special, and at which scopes stop
-- (13.2.4.2 #the-stack-of-open-elements)
unfoldable pub is_foreign_stop : Space → List ℕ → Bool
is_foreign_stop Html t = false
is_foreign_stop MathMl t = is_text_of text_points t || same_text t (codes "annotation-xml")
is_foreign_stop Svg t = is_text_of html_points t

-- ---- elements

abbrev pub is_word : Word → Name → Bool
is_word w (Known v) = same_word v w
is_word w (Other s t) = false

abbrev pub is_one_of : Group → Name → Bool
is_one_of g (Known v) = in_group g v
is_one_of group.Special (Other s t) = is_foreign_stop s t
is_one_of _ (Other s t) = false

abbrev pub ends_scope : Scope → Name → Bool
ends_scope s (Known v) = stops s v
ends_scope scope.Select (Other s t) = true
ends_scope scope.Default (Other s t) = is_foreign_stop s t
ends_scope scope.ListItem (Other s t) = is_foreign_stop s t
ends_scope scope.Button (Other s t) = is_foreign_stop s t
ends_scope scope.Table (Other s t) = false

-- the token's own name
abbrev pub is_own : Token → Name → Bool
is_own (StartTag t) n = same_name n t.name
is_own (EndTag t) n = same_name n t.name
is_own _ n = false

abbrev pub is_meant : Who → Token → Name → Bool
is_meant Own t n = is_own t n
is_meant (The w) t n = is_word w n
is_meant (Any g) t n = is_one_of g n
is_meant Nobody t n = false
