-- The open state is proper: the original mode, the pending table text and the template insertion modes are there where the mode says so.
use Rattle.std.specs.Prelude.{◌≡◌, ℕ, Bool, true, false, not, ◌&&◌, ⊤, List, [], Option, None, IsSomeAnd, IsTrue}
use Rattle.std.specs.List.{list_all}
use Rattle.html_types.specs.declared.instruction.Mode.{Mode}
use Rattle.html_types.specs.declared.instruction.Mode.TheVariants.{Initial, BeforeHtml, InText, InTableText, InForeign}
use Rattle.html_types.specs.declared.instruction.Next.{Next}
use Rattle.html_types.specs.declared.instruction.Next.TheVariants as next
use Rattle.html_types.specs.declared.token.Token.{Token}
use Rattle.html_types.specs.declared.operation.Op.{Op}
use Rattle.html_types.specs.declared.open.Open.{Open}
use Rattle.standard.specs.Rules.{Answer, construct}
use Rattle.standard.specs.Parser.{opening}

-- the modes from which the parser doesn't go back to the original mode: all but "text" and "in table text". The rules for foreign content are
-- no mode
abbrev pub is_main_mode : Mode → Bool
is_main_mode InText = false
is_main_mode InTableText = false
is_main_mode InForeign = false
is_main_mode _ = true

-- the modes in which no element is open yet
abbrev pub is_early : Mode → Bool
is_early Initial = true
is_early BeforeHtml = true
is_early _ = false

-- the modes to which resetting the insertion mode may come
abbrev pub is_late : Mode → Bool
is_late m = is_main_mode m && not (is_early m)

-- an original mode is there exactly in the modes "text" and "in table text", and it is neither of them; the rules for foreign content are
-- never the mode
abbrev pub HasOriginal : Mode → Option Mode → Type 0
HasOriginal InText original = IsSomeAnd original (λ m. IsTrue (is_main_mode m))
HasOriginal InTableText original = IsSomeAnd original (λ m. IsTrue (is_main_mode m))
HasOriginal InForeign original = ⊥
HasOriginal _ original = original ≡ None

-- table text is pending in the mode "in table text" alone
abbrev pub HasPending : Mode → List ℕ → Type 0
HasPending InTableText text = ⊤
HasPending _ text = text ≡ []

pub record IsProper (b : Open) : Type 0 where
  pub original : HasOriginal b.mode b.original
  pub pending : HasPending b.mode b.pending_text
  -- no template's contents go by those two modes, nor by the rules for foreign content
  pub templates : IsTrue (list_all is_main_mode b.template_modes)

abbrev pub OpeningIsProper : Type 0
OpeningIsProper = (realm : ℕ) → IsProper (opening realm)

-- unless one element more than 512 would be open
abbrev pub ProperUnlessDeep : Next → Open → Type 0
ProperUnlessDeep next.Deep b = ⊤
ProperUnlessDeep _ b = IsProper b

abbrev pub TokensStayProper : Type 0
TokensStayProper = (t : Token) (b : Open) (o : List Op) → IsProper b → (let a : Answer = construct t b o in ProperUnlessDeep a.next a.open_state)
