-- The states of doctypes (13.2.5.53 #doctype-state to 13.2.5.68 #bogus-doctype-state). Public and
-- system identifiers are read and dropped.
use Rattle.std.specs.Prelude.{ℕ, Bool, true, false, List, [], ◌∷◌, ◌++◌, ◌||◌, if◌then◌else◌, codes}
use Rattle.html_types.specs.Text.{same_text}
use Rattle.html_types.specs.declared.token.Token.TheVariants as token
use Rattle.html_types.specs.declared.token.Quote.{Quote}
use Rattle.html_types.specs.declared.token.Quote.TheVariants.{Single, Double}
use Rattle.html_types.specs.declared.mark_state.DoctypeState.{DoctypeState}
use Rattle.html_types.specs.declared.mark_state.DoctypeState.TheVariants.{Doctype, BeforeName, Name, AfterName, Keyword, AfterPublicKeyword, PublicIdentifier, AfterPublicIdentifier, AfterSystemKeyword, SystemIdentifier, AfterSystemIdentifier, Bogus}
use Rattle.html_types.specs.declared.mark_state.MarkState.TheVariants as mark
use Rattle.html_types.specs.declared.state.TokState.{TokState}
use Rattle.html_types.specs.declared.class.Class.{Class}
use Rattle.html_types.specs.declared.class.Class.TheVariants.{Space, DoubleQuote, SingleQuote, Greater, InputEnd}
use Rattle.standard.specs.Class.{name_char}
use Rattle.standard.specs.Entities.{is_front}
use Rattle.standard.specs.Step.{Step, in_mark, data_state, emit, to, again}

abbrev pub in_doctype : DoctypeState → TokState
in_doctype s = in_mark (mark.Doctype s)

-- the doctype is emitted, and data follows; `quirks` is its force-quirks flag
abbrev pub emit_doctype : List ℕ → Bool → Step
emit_doctype name quirks = emit (token.Doctype name quirks ∷ []) data_state

-- the doctype, and the end of the input
abbrev pub finish_doctype : List ℕ → Bool → Step
finish_doctype name quirks = emit (token.Doctype name quirks ∷ token.EndOfFile ∷ []) data_state

-- 13.2.5.53 #doctype-state DOCTYPE state
abbrev pub doctype_row : Class → ℕ → Step
doctype_row Space c = to (in_doctype BeforeName)
doctype_row InputEnd c = finish_doctype [] true
doctype_row _ c = again (in_doctype BeforeName)

-- 13.2.5.54 #before-doctype-name-state Before DOCTYPE name state
abbrev pub before_doctype_name_row : Class → ℕ → Step
before_doctype_name_row Space c = to (in_doctype BeforeName)
before_doctype_name_row Greater c = emit_doctype [] true
before_doctype_name_row InputEnd c = finish_doctype [] true
before_doctype_name_row _ c = to (in_doctype (Name (name_char c ∷ [])))

-- 13.2.5.55 #doctype-name-state DOCTYPE name state
abbrev pub doctype_name_row : List ℕ → Class → ℕ → Step
doctype_name_row name Space c = to (in_doctype (AfterName name))
doctype_name_row name Greater c = emit_doctype name false
doctype_name_row name InputEnd c = finish_doctype name true
doctype_name_row name _ c = to (in_doctype (Name (name ++ name_char c ∷ [])))

-- behind the letters `now`, in lower case: on with `public` or `system`, or nothing of the kind
abbrev pub keyword_step : List ℕ → List ℕ → Step
keyword_step name now =
    if same_text now (codes "public") then to (in_doctype (AfterPublicKeyword name))
    else (if same_text now (codes "system") then to (in_doctype (AfterSystemKeyword name))
    else (if is_front now (codes "public") || is_front now (codes "system") then to (in_doctype (Keyword name now))
    else again (in_doctype (Bogus name true))))

-- 13.2.5.56 #after-doctype-name-state After DOCTYPE name state
abbrev pub after_doctype_name_row : List ℕ → Class → ℕ → Step
after_doctype_name_row name Space c = to (in_doctype (AfterName name))
after_doctype_name_row name Greater c = emit_doctype name false
after_doctype_name_row name InputEnd c = finish_doctype name true
after_doctype_name_row name _ c = keyword_step name (name_char c ∷ [])

-- 13.2.5.56 #after-doctype-name-state After DOCTYPE name state, where letters of `public` or
-- `system` were read
abbrev pub doctype_keyword_row : List ℕ → List ℕ → Class → ℕ → Step
doctype_keyword_row name held InputEnd c = finish_doctype name true
doctype_keyword_row name held _ c = keyword_step name (held ++ name_char c ∷ [])

-- 13.2.5.57 #after-doctype-public-keyword-state After DOCTYPE public keyword state,
-- 13.2.5.58 #before-doctype-public-identifier-state Before DOCTYPE public identifier state
abbrev pub after_public_keyword_row : List ℕ → Class → ℕ → Step
after_public_keyword_row name Space c = to (in_doctype (AfterPublicKeyword name))
after_public_keyword_row name DoubleQuote c = to (in_doctype (PublicIdentifier name Double))
after_public_keyword_row name SingleQuote c = to (in_doctype (PublicIdentifier name Single))
after_public_keyword_row name Greater c = emit_doctype name true
after_public_keyword_row name InputEnd c = finish_doctype name true
after_public_keyword_row name _ c = again (in_doctype (Bogus name true))

-- 13.2.5.59 #doctype-public-identifier-(double-quoted)-state,
-- 13.2.5.60 #doctype-public-identifier-(single-quoted)-state DOCTYPE public identifier
-- (double-quoted), (single-quoted) state
abbrev pub public_identifier_row : List ℕ → Quote → Class → ℕ → Step
public_identifier_row name Double DoubleQuote c = to (in_doctype (AfterPublicIdentifier name))
public_identifier_row name Single SingleQuote c = to (in_doctype (AfterPublicIdentifier name))
public_identifier_row name quote Greater c = emit_doctype name true
public_identifier_row name quote InputEnd c = finish_doctype name true
public_identifier_row name quote _ c = to (in_doctype (PublicIdentifier name quote))

-- 13.2.5.61 #after-doctype-public-identifier-state After DOCTYPE public identifier state,
-- 13.2.5.62 #between-doctype-public-and-system-identifiers-state Between DOCTYPE public and
-- system identifiers state
abbrev pub after_public_identifier_row : List ℕ → Class → ℕ → Step
after_public_identifier_row name Space c = to (in_doctype (AfterPublicIdentifier name))
after_public_identifier_row name DoubleQuote c = to (in_doctype (SystemIdentifier name Double))
after_public_identifier_row name SingleQuote c = to (in_doctype (SystemIdentifier name Single))
after_public_identifier_row name Greater c = emit_doctype name false
after_public_identifier_row name InputEnd c = finish_doctype name true
after_public_identifier_row name _ c = again (in_doctype (Bogus name true))

-- 13.2.5.63 #after-doctype-system-keyword-state After DOCTYPE system keyword state,
-- 13.2.5.64 #before-doctype-system-identifier-state Before DOCTYPE system identifier state
abbrev pub after_system_keyword_row : List ℕ → Class → ℕ → Step
after_system_keyword_row name Space c = to (in_doctype (AfterSystemKeyword name))
after_system_keyword_row name DoubleQuote c = to (in_doctype (SystemIdentifier name Double))
after_system_keyword_row name SingleQuote c = to (in_doctype (SystemIdentifier name Single))
after_system_keyword_row name Greater c = emit_doctype name true
after_system_keyword_row name InputEnd c = finish_doctype name true
after_system_keyword_row name _ c = again (in_doctype (Bogus name true))

-- 13.2.5.65 #doctype-system-identifier-(double-quoted)-state,
-- 13.2.5.66 #doctype-system-identifier-(single-quoted)-state DOCTYPE system identifier
-- (double-quoted), (single-quoted) state
abbrev pub system_identifier_row : List ℕ → Quote → Class → ℕ → Step
system_identifier_row name Double DoubleQuote c = to (in_doctype (AfterSystemIdentifier name))
system_identifier_row name Single SingleQuote c = to (in_doctype (AfterSystemIdentifier name))
system_identifier_row name quote Greater c = emit_doctype name true
system_identifier_row name quote InputEnd c = finish_doctype name true
system_identifier_row name quote _ c = to (in_doctype (SystemIdentifier name quote))

-- 13.2.5.67 #after-doctype-system-identifier-state After DOCTYPE system identifier state
abbrev pub after_system_identifier_row : List ℕ → Class → ℕ → Step
after_system_identifier_row name Space c = to (in_doctype (AfterSystemIdentifier name))
after_system_identifier_row name Greater c = emit_doctype name false
after_system_identifier_row name InputEnd c = finish_doctype name true
after_system_identifier_row name _ c = again (in_doctype (Bogus name false))

-- 13.2.5.68 #bogus-doctype-state Bogus DOCTYPE state
abbrev pub bogus_doctype_row : List ℕ → Bool → Class → ℕ → Step
bogus_doctype_row name quirks Greater c = emit_doctype name quirks
bogus_doctype_row name quirks InputEnd c = finish_doctype name quirks
bogus_doctype_row name quirks _ c = to (in_doctype (Bogus name quirks))

-- the rows of these states
abbrev pub doctype_state_row : DoctypeState → Class → ℕ → Step
doctype_state_row Doctype = doctype_row
doctype_state_row BeforeName = before_doctype_name_row
doctype_state_row (Name name) = doctype_name_row name
doctype_state_row (AfterName name) = after_doctype_name_row name
doctype_state_row (Keyword name held) = doctype_keyword_row name held
doctype_state_row (AfterPublicKeyword name) = after_public_keyword_row name
doctype_state_row (PublicIdentifier name quote) = public_identifier_row name quote
doctype_state_row (AfterPublicIdentifier name) = after_public_identifier_row name
doctype_state_row (AfterSystemKeyword name) = after_system_keyword_row name
doctype_state_row (SystemIdentifier name quote) = system_identifier_row name quote
doctype_state_row (AfterSystemIdentifier name) = after_system_identifier_row name
doctype_state_row (Bogus name quirks) = bogus_doctype_row name quirks
