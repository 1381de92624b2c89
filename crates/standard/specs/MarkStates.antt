-- The states of what begins with `<!`, and of bogus comments (13.2.5.41 #bogus-comment-state,
-- 13.2.5.42 #markup-declaration-open-state). The flag says that there is an adjusted current node
-- that isn't an HTML element.
use Rattle.std.specs.Prelude.{ℕ, Bool, List, [], ◌∷◌, ◌++◌, ◌||◌, ◌&&◌, if◌then◌else◌, codes}
use Rattle.html_types.specs.Text.{same_text}
use Rattle.html_types.specs.declared.mark_state.CdataState.TheVariants as cdata
use Rattle.html_types.specs.declared.mark_state.CommentState.TheVariants as comment
use Rattle.html_types.specs.declared.mark_state.DoctypeState.TheVariants as doctype
use Rattle.html_types.specs.declared.mark_state.MarkState.{MarkState}
use Rattle.html_types.specs.declared.mark_state.MarkState.TheVariants.{MarkupDeclarationOpen, BogusComment, Comment, Doctype, Cdata}
use Rattle.html_types.specs.declared.class.Class.{Class}
use Rattle.html_types.specs.declared.class.Class.TheVariants.{Greater, InputEnd}
use Rattle.standard.specs.Class.{shown}
use Rattle.standard.specs.Entities.{is_front}
use Rattle.standard.specs.Step.{Step, in_mark, to, again}
use Rattle.standard.specs.TextStates.{in_lower_case}
use Rattle.standard.specs.CommentStates.{comment_state_row, in_comment, emit_comment, finish_comment}
use Rattle.standard.specs.CdataStates.{cdata_state_row, in_cdata}
use Rattle.standard.specs.DoctypeStates.{doctype_state_row, in_doctype}

-- behind what is held and one character more, which are `now`: `--` begins a comment, `doctype` in any case a doctype, and `[CDATA[` in
-- foreign content a CDATA section
abbrev pub declaration_step : Bool → List ℕ → List ℕ → Step
declaration_step f held now =
    if same_text now (codes "--") then to (in_comment comment.Start)
    else (if same_text (in_lower_case now) (codes "doctype") then to (in_doctype doctype.Doctype)
    else (if f && same_text now (codes "[CDATA[") then to (in_cdata cdata.Section)
    else (if is_front now (codes "--") || is_front (in_lower_case now) (codes "doctype") || (f && is_front now (codes "[CDATA["))
    then to (in_mark (MarkupDeclarationOpen now))
    else again (in_mark (BogusComment held)))))

-- 13.2.5.42 #markup-declaration-open-state Markup declaration open state
abbrev pub markup_declaration_open_row : Bool → List ℕ → Class → ℕ → Step
markup_declaration_open_row f held InputEnd c = again (in_mark (BogusComment held))
markup_declaration_open_row f held _ c = declaration_step f held (held ++ c ∷ [])

-- 13.2.5.41 #bogus-comment-state Bogus comment state
abbrev pub bogus_comment_row : List ℕ → Class → ℕ → Step
bogus_comment_row text Greater c = emit_comment text
bogus_comment_row text InputEnd c = finish_comment text
bogus_comment_row text _ c = to (in_mark (BogusComment (text ++ shown c ∷ [])))

-- the rows of these states
abbrev pub mark_row : Bool → MarkState → Class → ℕ → Step
mark_row f (MarkupDeclarationOpen held) = markup_declaration_open_row f held
mark_row f (BogusComment text) = bogus_comment_row text
mark_row f (Comment s) = comment_state_row s
mark_row f (Doctype s) = doctype_state_row s
mark_row f (Cdata s) = cdata_state_row s
