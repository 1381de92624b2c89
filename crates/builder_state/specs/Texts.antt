-- Texts whose characters are inserted as they are.
use Rattle.std.specs.Prelude.{◌≡◌, ℕ, Bool, true, false, ◌&&◌, ◌||◌, List, []}
use Rattle.html_types.specs.declared.open.Open.{Open}
use Rattle.html_types.specs.declared.instruction.Mode.{Mode}
use Rattle.html_types.specs.declared.instruction.Mode.TheVariants.{InBody, InText, InCaption, InCell, InSelect, InSelectInTable, InTemplate, InForeign}
use Rattle.html_types.specs.declared.token.Token.TheVariants.{Character}
use Rattle.standard.specs.Formatting.{lost, kept}
use Rattle.standard.specs.Instructions.{all_space}
use Rattle.standard.specs.Rules.{rules_for}

-- the rules that characters go by, each by the same: those of the mode, or those for foreign content
abbrev pub text_rules : Open → Mode
text_rules b = rules_for (Character 0) b

-- the rules that send characters to those of "in body", and those that only insert them
abbrev pub takes_characters : Mode → Bool
takes_characters InBody = true
takes_characters InText = true
takes_characters InCaption = true
takes_characters InCell = true
takes_characters InSelect = true
takes_characters InSelectInTable = true
takes_characters InTemplate = true
takes_characters InForeign = true
takes_characters _ = false

-- the rules by which a character doesn't matter to a frameset
abbrev pub keeps_ok : Mode → Bool
keeps_ok InText = true
keeps_ok InSelect = true
keeps_ok InSelectInTable = true
keeps_ok _ = false

-- the rules by which a character reopens the formatting elements that were lost
abbrev pub reopens : Mode → Bool
reopens InText = false
reopens InSelect = false
reopens InSelectInTable = false
reopens InForeign = false
reopens _ = true

-- A character is inserted: it reopens no formatting element, isn't left out and isn't foster parented.
pub record TakesText (b : Open) : Type 0 where
  pub rules : takes_characters (text_rules b) ≡ true
  pub skip : b.skip_line_feed ≡ false
  pub foster : b.foster ≡ false
  pub none_lost : reopens (text_rules b) ≡ true → lost b.stack b.formats ≡ []
  pub all_kept : reopens (text_rules b) ≡ true → kept b.stack b.formats ≡ b.formats

-- the open state behind such a text
abbrev pub behind_text : List ℕ → Open → Open
behind_text cs b = record b { frameset_ok = (keeps_ok (text_rules b) || all_space cs) && b.frameset_ok }
