-- The states of script data behind `<!--` (13.2.5.18 #script-data-escape-start-state to
-- 13.2.5.31 #script-data-double-escape-end-state), where a script element may have another in it.
-- The escaped state itself, and those in which its end tag is sought, stand among the states of
-- text.
use Rattle.std.specs.Prelude.{ℕ, List, [], ◌∷◌, ◌++◌, Option, if◌then◌else◌, codes}
use Rattle.html_types.specs.Text.{same_text}
use Rattle.html_types.specs.declared.word.Word.{Word}
use Rattle.html_types.specs.declared.token.Token.TheVariants.{Character}
use Rattle.html_types.specs.declared.state.RawText.TheVariants.{ScriptData, ScriptDataEscaped}
use Rattle.html_types.specs.declared.state.TextState.TheVariants.{Raw, RawLessThan, EscapeStartDash, EscapedDashDash, DoubleEscapeStart, DoubleEscaped, DoubleEscapedDash, DoubleEscapedDashDash, DoubleEscapedLessThan, DoubleEscapeEnd}
use Rattle.html_types.specs.declared.state.TokState.{TokState}
use Rattle.html_types.specs.declared.class.Class.{Class}
use Rattle.html_types.specs.declared.class.Class.TheVariants.{Space, Hyphen, Slash, Less, Greater, Alpha, InputEnd}
use Rattle.standard.specs.Class.{shown, name_char}
use Rattle.standard.specs.Step.{Step, in_text, emit, to, again, finish}

-- 13.2.5.4 #script-data-state Script data state
abbrev pub script_data : Option Word → TokState
script_data last = in_text (Raw ScriptData last)

-- 13.2.5.20 #script-data-escaped-state Script data escaped state
abbrev pub escaped : Option Word → TokState
escaped last = in_text (Raw ScriptDataEscaped last)

-- 13.2.5.27 #script-data-double-escaped-state Script data double escaped state
abbrev pub double_escaped : Option Word → TokState
double_escaped last = in_text (DoubleEscaped last)

-- 13.2.5.18 #script-data-escape-start-state Script data escape start state
abbrev pub escape_start_row : Option Word → Class → ℕ → Step
escape_start_row last Hyphen c = emit (Character c ∷ []) (in_text (EscapeStartDash last))
escape_start_row last _ c = again (script_data last)

-- 13.2.5.19 #script-data-escape-start-dash-state Script data escape start dash state
abbrev pub escape_start_dash_row : Option Word → Class → ℕ → Step
escape_start_dash_row last Hyphen c = emit (Character c ∷ []) (in_text (EscapedDashDash last))
escape_start_dash_row last _ c = again (script_data last)

-- 13.2.5.21 #script-data-escaped-dash-state Script data escaped dash state
abbrev pub escaped_dash_row : Option Word → Class → ℕ → Step
escaped_dash_row last Hyphen c = emit (Character c ∷ []) (in_text (EscapedDashDash last))
escaped_dash_row last Less c = to (in_text (RawLessThan ScriptDataEscaped last))
escaped_dash_row last InputEnd c = finish
escaped_dash_row last _ c = emit (Character (shown c) ∷ []) (escaped last)

-- 13.2.5.22 #script-data-escaped-dash-dash-state Script data escaped dash dash state
abbrev pub escaped_dash_dash_row : Option Word → Class → ℕ → Step
escaped_dash_dash_row last Hyphen c = emit (Character c ∷ []) (in_text (EscapedDashDash last))
escaped_dash_dash_row last Less c = to (in_text (RawLessThan ScriptDataEscaped last))
escaped_dash_dash_row last Greater c = emit (Character c ∷ []) (script_data last)
escaped_dash_dash_row last InputEnd c = finish
escaped_dash_dash_row last _ c = emit (Character (shown c) ∷ []) (escaped last)

-- where the name of a tag inside ends: one state for `script`, another for every other name
abbrev pub if_script : List ℕ → TokState → TokState → TokState
if_script name script other = if same_text name (codes "script") then script else other

-- 13.2.5.26 #script-data-double-escape-start-state Script data double escape start state
abbrev pub double_escape_start_row : Option Word → List ℕ → Class → ℕ → Step
double_escape_start_row last name Space c = emit (Character c ∷ []) (if_script name (double_escaped last) (escaped last))
double_escape_start_row last name Slash c = emit (Character c ∷ []) (if_script name (double_escaped last) (escaped last))
double_escape_start_row last name Greater c = emit (Character c ∷ []) (if_script name (double_escaped last) (escaped last))
double_escape_start_row last name Alpha c = emit (Character c ∷ []) (in_text (DoubleEscapeStart last (name ++ name_char c ∷ [])))
double_escape_start_row last name _ c = again (escaped last)

-- 13.2.5.27 #script-data-double-escaped-state Script data double escaped state
abbrev pub double_escaped_row : Option Word → Class → ℕ → Step
double_escaped_row last Hyphen c = emit (Character c ∷ []) (in_text (DoubleEscapedDash last))
double_escaped_row last Less c = emit (Character c ∷ []) (in_text (DoubleEscapedLessThan last))
double_escaped_row last InputEnd c = finish
double_escaped_row last _ c = emit (Character (shown c) ∷ []) (double_escaped last)

-- 13.2.5.28 #script-data-double-escaped-dash-state Script data double escaped dash state
abbrev pub double_escaped_dash_row : Option Word → Class → ℕ → Step
double_escaped_dash_row last Hyphen c = emit (Character c ∷ []) (in_text (DoubleEscapedDashDash last))
double_escaped_dash_row last Less c = emit (Character c ∷ []) (in_text (DoubleEscapedLessThan last))
double_escaped_dash_row last InputEnd c = finish
double_escaped_dash_row last _ c = emit (Character (shown c) ∷ []) (double_escaped last)

-- 13.2.5.29 #script-data-double-escaped-dash-dash-state Script data double escaped dash dash state
abbrev pub double_escaped_dash_dash_row : Option Word → Class → ℕ → Step
double_escaped_dash_dash_row last Hyphen c = emit (Character c ∷ []) (in_text (DoubleEscapedDashDash last))
double_escaped_dash_dash_row last Less c = emit (Character c ∷ []) (in_text (DoubleEscapedLessThan last))
double_escaped_dash_dash_row last Greater c = emit (Character c ∷ []) (script_data last)
double_escaped_dash_dash_row last InputEnd c = finish
double_escaped_dash_dash_row last _ c = emit (Character (shown c) ∷ []) (double_escaped last)

-- 13.2.5.30 #script-data-double-escaped-less-than-sign-state Script data double escaped less-than
-- sign state
abbrev pub double_escaped_less_than_row : Option Word → Class → ℕ → Step
double_escaped_less_than_row last Slash c = emit (Character c ∷ []) (in_text (DoubleEscapeEnd last []))
double_escaped_less_than_row last _ c = again (double_escaped last)

-- 13.2.5.31 #script-data-double-escape-end-state Script data double escape end state
abbrev pub double_escape_end_row : Option Word → List ℕ → Class → ℕ → Step
double_escape_end_row last name Space c = emit (Character c ∷ []) (if_script name (escaped last) (double_escaped last))
double_escape_end_row last name Slash c = emit (Character c ∷ []) (if_script name (escaped last) (double_escaped last))
double_escape_end_row last name Greater c = emit (Character c ∷ []) (if_script name (escaped last) (double_escaped last))
double_escape_end_row last name Alpha c = emit (Character c ∷ []) (in_text (DoubleEscapeEnd last (name ++ name_char c ∷ [])))
double_escape_end_row last name _ c = again (double_escaped last)
