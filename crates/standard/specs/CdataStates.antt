-- The states of CDATA sections (13.2.5.69 #cdata-section-state to
-- 13.2.5.71 #cdata-section-end-state).
use Rattle.std.specs.Prelude.{ℕ, [], ◌∷◌}
use Rattle.html_types.specs.declared.token.Token.TheVariants.{Character}
use Rattle.html_types.specs.declared.mark_state.CdataState.{CdataState}
use Rattle.html_types.specs.declared.mark_state.CdataState.TheVariants.{Section, Bracket, End}
use Rattle.html_types.specs.declared.mark_state.MarkState.TheVariants as mark
use Rattle.html_types.specs.declared.state.TokState.{TokState}
use Rattle.html_types.specs.declared.class.Class.{Class}
use Rattle.html_types.specs.declared.class.Class.TheVariants.{Greater, RightBracket, InputEnd}
use Rattle.standard.specs.Step.{Step, in_mark, data_state, emit, to, emit_again, finish}

abbrev pub in_cdata : CdataState → TokState
in_cdata s = in_mark (mark.Cdata s)

-- 13.2.5.69 #cdata-section-state CDATA section state: NUL is emitted as it is
abbrev pub cdata_section_row : Class → ℕ → Step
cdata_section_row RightBracket c = to (in_cdata Bracket)
cdata_section_row InputEnd c = finish
cdata_section_row _ c = emit (Character c ∷ []) (in_cdata Section)

-- 13.2.5.70 #cdata-section-bracket-state CDATA section bracket state. `]` is 93
abbrev pub cdata_bracket_row : Class → ℕ → Step
cdata_bracket_row RightBracket c = to (in_cdata End)
cdata_bracket_row _ c = emit_again (Character 93 ∷ []) (in_cdata Section)

-- 13.2.5.71 #cdata-section-end-state CDATA section end state
abbrev pub cdata_end_row : Class → ℕ → Step
cdata_end_row RightBracket c = emit (Character 93 ∷ []) (in_cdata End)
cdata_end_row Greater c = to data_state
cdata_end_row _ c = emit_again (Character 93 ∷ Character 93 ∷ []) (in_cdata Section)

-- the rows of these states
abbrev pub cdata_state_row : CdataState → Class → ℕ → Step
cdata_state_row Section = cdata_section_row
cdata_state_row Bracket = cdata_bracket_row
cdata_state_row End = cdata_end_row
