-- The states of comments (13.2.5.43 #comment-start-state to 13.2.5.52 #comment-end-bang-state).
use Rattle.std.specs.Prelude.{ℕ, List, [], ◌∷◌, ◌++◌}
use Rattle.html_types.specs.declared.token.Token.TheVariants as token
use Rattle.html_types.specs.declared.mark_state.CommentState.{CommentState}
use Rattle.html_types.specs.declared.mark_state.CommentState.TheVariants.{Start, StartDash, Inside, LessThan, LessThanBang, LessThanBangDash, LessThanBangDashDash, EndDash, End, EndBang}
use Rattle.html_types.specs.declared.mark_state.MarkState.TheVariants as mark
use Rattle.html_types.specs.declared.state.TokState.{TokState}
use Rattle.html_types.specs.declared.class.Class.{Class}
use Rattle.html_types.specs.declared.class.Class.TheVariants.{Bang, Hyphen, Less, Greater, InputEnd}
use Rattle.standard.specs.Class.{shown}
use Rattle.standard.specs.Step.{Step, in_mark, data_state, emit, to, again}

abbrev pub in_comment : CommentState → TokState
in_comment s = in_mark (mark.Comment s)

-- the comment is emitted, and data follows
abbrev pub emit_comment : List ℕ → Step
emit_comment text = emit (token.Comment text ∷ []) data_state

-- the comment as it is, and the end of the input
abbrev pub finish_comment : List ℕ → Step
finish_comment text = emit (token.Comment text ∷ token.EndOfFile ∷ []) data_state

-- 13.2.5.43 #comment-start-state Comment start state
abbrev pub comment_start_row : Class → ℕ → Step
comment_start_row Hyphen c = to (in_comment StartDash)
comment_start_row Greater c = emit_comment []
comment_start_row InputEnd c = finish_comment []
comment_start_row _ c = again (in_comment (Inside []))

-- 13.2.5.44 #comment-start-dash-state Comment start dash state
abbrev pub comment_start_dash_row : Class → ℕ → Step
comment_start_dash_row Hyphen c = to (in_comment (End []))
comment_start_dash_row Greater c = emit_comment []
comment_start_dash_row InputEnd c = finish_comment []
comment_start_dash_row _ c = again (in_comment (Inside (45 ∷ [])))

-- 13.2.5.45 #comment-state Comment state
abbrev pub comment_inside_row : List ℕ → Class → ℕ → Step
comment_inside_row text Less c = to (in_comment (LessThan (text ++ c ∷ [])))
comment_inside_row text Hyphen c = to (in_comment (EndDash text))
comment_inside_row text InputEnd c = finish_comment text
comment_inside_row text _ c = to (in_comment (Inside (text ++ shown c ∷ [])))

-- 13.2.5.46 #comment-less-than-sign-state Comment less-than sign state
abbrev pub comment_less_than_row : List ℕ → Class → ℕ → Step
comment_less_than_row text Bang c = to (in_comment (LessThanBang (text ++ c ∷ [])))
comment_less_than_row text Less c = to (in_comment (LessThan (text ++ c ∷ [])))
comment_less_than_row text InputEnd c = finish_comment text
comment_less_than_row text _ c = again (in_comment (Inside text))

-- 13.2.5.47 #comment-less-than-sign-bang-state Comment less-than sign bang state
abbrev pub comment_bang_row : List ℕ → Class → ℕ → Step
comment_bang_row text Hyphen c = to (in_comment (LessThanBangDash text))
comment_bang_row text InputEnd c = finish_comment text
comment_bang_row text _ c = again (in_comment (Inside text))

-- 13.2.5.48 #comment-less-than-sign-bang-dash-state Comment less-than sign bang dash state
abbrev pub comment_bang_dash_row : List ℕ → Class → ℕ → Step
comment_bang_dash_row text Hyphen c = to (in_comment (LessThanBangDashDash text))
comment_bang_dash_row text InputEnd c = finish_comment text
comment_bang_dash_row text _ c = again (in_comment (EndDash text))

-- 13.2.5.49 #comment-less-than-sign-bang-dash-dash-state Comment less-than sign bang dash dash
-- state
abbrev pub comment_bang_dash_dash_row : List ℕ → Class → ℕ → Step
comment_bang_dash_dash_row text InputEnd c = finish_comment text
comment_bang_dash_dash_row text _ c = again (in_comment (End text))

-- 13.2.5.50 #comment-end-dash-state Comment end dash state
abbrev pub comment_end_dash_row : List ℕ → Class → ℕ → Step
comment_end_dash_row text Hyphen c = to (in_comment (End text))
comment_end_dash_row text InputEnd c = finish_comment text
comment_end_dash_row text _ c = again (in_comment (Inside (text ++ 45 ∷ [])))

-- 13.2.5.51 #comment-end-state Comment end state
abbrev pub comment_end_row : List ℕ → Class → ℕ → Step
comment_end_row text Greater c = emit_comment text
comment_end_row text Bang c = to (in_comment (EndBang text))
comment_end_row text Hyphen c = to (in_comment (End (text ++ 45 ∷ [])))
comment_end_row text InputEnd c = finish_comment text
comment_end_row text _ c = again (in_comment (Inside (text ++ 45 ∷ 45 ∷ [])))

-- 13.2.5.52 #comment-end-bang-state Comment end bang state
abbrev pub comment_end_bang_row : List ℕ → Class → ℕ → Step
comment_end_bang_row text Hyphen c = to (in_comment (EndDash (text ++ 45 ∷ 45 ∷ 33 ∷ [])))
comment_end_bang_row text Greater c = emit_comment text
comment_end_bang_row text InputEnd c = finish_comment text
comment_end_bang_row text _ c = again (in_comment (Inside (text ++ 45 ∷ 45 ∷ 33 ∷ [])))

-- the rows of these states
abbrev pub comment_state_row : CommentState → Class → ℕ → Step
comment_state_row Start = comment_start_row
comment_state_row StartDash = comment_start_dash_row
comment_state_row (Inside text) = comment_inside_row text
comment_state_row (LessThan text) = comment_less_than_row text
comment_state_row (LessThanBang text) = comment_bang_row text
comment_state_row (LessThanBangDash text) = comment_bang_dash_row text
comment_state_row (LessThanBangDashDash text) = comment_bang_dash_dash_row text
comment_state_row (EndDash text) = comment_end_dash_row text
comment_state_row (End text) = comment_end_row text
comment_state_row (EndBang text) = comment_end_bang_row text
