-- The open state stands on its root: the html element is the first of the stack, and as many template insertion modes are there as template
-- elements are open. Both follow from what is said of each mode, of the order of some elements, and of ids.
use Rattle.std.specs.Prelude.{◌≡◌, ℕ, suc, Bool, true, false, not, ◌&&◌, if◌then◌else◌, List, [], ◌∷◌, length, Option, None, Some, IsTrue, IfSome, ⊤}
use Rattle.std.specs.List.{list_all}
use Rattle.html_types.specs.Operations.{same_id}
use Rattle.html_types.specs.Words.{same_word}
use Rattle.html_types.specs.declared.word.Word.{Word}
use Rattle.html_types.specs.declared.word.Word.TheVariants.{A, B, Big, Code, Em, Font, Frameset, Head, Html, I, Nobr, S, Select, Small, Strike, Strong, Td, Template, Th, Tt, U}
use Rattle.html_types.specs.declared.name.Name.{Name}
use Rattle.html_types.specs.declared.name.Name.TheVariants.{Known, Other}
use Rattle.html_types.specs.declared.instruction.Group.TheVariants as group
use Rattle.html_types.specs.declared.instruction.Mode.{Mode}
use Rattle.html_types.specs.declared.instruction.Mode.TheVariants as mode
use Rattle.html_types.specs.declared.operation.NodeId.{NodeId}
use Rattle.html_types.specs.declared.open.OpenElement.{OpenElement}
use Rattle.html_types.specs.declared.open.FormattingEntry.{FormattingEntry}
use Rattle.html_types.specs.declared.open.FormattingEntry.TheVariants.{Marker, Element}
use Rattle.html_types.specs.declared.open.Open.{Open}
use Rattle.standard.specs.Rows.{has_word}
use Rattle.standard.specs.Elements.{is_word, is_one_of}
use Rattle.standard.specs.Stack.{is_open, is_empty}
use Rattle.standard.specs.Stack.{first_open}
use Rattle.standard.specs.Rules.{Answer, construct}
use Rattle.standard.specs.Parser.{opening}
use Rattle.html_types.specs.declared.instruction.Next.{Next}
use Rattle.html_types.specs.declared.instruction.Next.TheVariants as next
use Rattle.html_types.specs.declared.token.Token.{Token}
use Rattle.html_types.specs.declared.operation.Op.{Op}
use Rattle.rule_laws.specs.Naming.{Serves, AreFresh}
use Rattle.rule_laws.specs.Proper.{is_main_mode, is_early, is_late}

-- ---- names

-- no instruction pops these but with a template insertion mode
abbrev pub is_vital : Word → Bool
is_vital w = has_word (Html ∷ Template ∷ []) w

-- the elements by which modes and the order of the stack are told
abbrev pub is_guard : Word → Bool
is_guard w = has_word (Html ∷ Template ∷ Head ∷ Frameset ∷ Td ∷ Th ∷ Select ∷ []) w

-- the formatting elements (13.2.4.2 #the-stack-of-open-elements)
abbrev pub is_formatting : Word → Bool
is_formatting w = has_word (A ∷ B ∷ Big ∷ Code ∷ Em ∷ Font ∷ I ∷ Nobr ∷ S ∷ Small ∷ Strike ∷ Strong ∷ Tt ∷ U ∷ []) w

abbrev pub is_known : (Word → Bool) → Name → Bool
is_known p (Known w) = p w
is_known p (Other s t) = false

abbrev pub is_special : Name → Bool
is_special n = is_one_of group.Special n

-- ---- the names of the stack that count, the current node's first

abbrev pub with_name : Name → List Word → List Word
with_name (Known w) ws = if is_guard w then w ∷ ws else ws
with_name (Other s t) ws = ws

abbrev pub core : List OpenElement → List Word
core [] = []
core (e ∷ es) = with_name e.name (core es)

abbrev pub templates_among : List Word → ℕ
templates_among [] = 0
templates_among (w ∷ ws) = if same_word w Template then suc (templates_among ws) else templates_among ws

abbrev pub no_words : List Word → Bool
no_words [] = true
no_words (w ∷ ws) = false

abbrev pub has_no : Word → List Word → Bool
has_no u [] = true
has_no u (w ∷ ws) = not (same_word w u) && has_no u ws

-- html is at the top, and above a head or a frameset no template is open
abbrev pub is_placed : Word → List Word → Bool
is_placed w ws =
    if same_word w Html then no_words ws else (if has_word (Head ∷ Frameset ∷ []) w then has_no Template ws else true)

abbrev pub is_orderly : List Word → Bool
is_orderly [] = true
is_orderly (w ∷ ws) = is_placed w ws && is_orderly ws

-- one of these stands below each html and template
abbrev pub reaches : (Word → Bool) → List Word → Bool
reaches p [] = false
reaches p (w ∷ ws) = if p w then true else (if is_vital w then false else reaches p ws)

-- the first element is html, where there is one
abbrev pub is_rooted : List OpenElement → Bool
is_rooted [] = true
is_rooted (e ∷ es) = if is_empty es then is_word Html e.name else is_rooted es

-- ---- ids

-- no element of such a name has the id
abbrev pub is_loose : (Name → Bool) → List OpenElement → NodeId → Bool
is_loose q [] id = true
is_loose q (e ∷ es) id = not (q e.name && same_id e.id id) && is_loose q es id

abbrev pub is_loose_if_any : (Name → Bool) → List OpenElement → Option NodeId → Bool
is_loose_if_any q es None = true
is_loose_if_any q es (Some id) = is_loose q es id

-- no other element has the id of a special one
abbrev pub is_apart : OpenElement → List OpenElement → Bool
is_apart e es = if is_special e.name then not (is_open e.id es) else is_loose is_special es e.id

abbrev pub are_apart : List OpenElement → Bool
are_apart [] = true
are_apart (e ∷ es) = is_apart e es && are_apart es

-- each entry is a formatting element's, and no special element has its id
abbrev pub are_listed : List OpenElement → List FormattingEntry → Bool
are_listed es [] = true
are_listed es (Marker ∷ fs) = are_listed es fs
are_listed es (Element id tag ∷ fs) = (is_known is_formatting tag.name && is_loose is_special es id) && are_listed es fs

-- what holds of the stack, the list and the form element pointer
pub record Firm (es : List OpenElement) (fs : List FormattingEntry) (form : Option NodeId) : Type 0 where
  pub order : is_orderly (core es) ≡ true
  pub root : is_rooted es ≡ true
  pub apart : are_apart es ≡ true
  pub entries : are_listed es fs ≡ true
  pub owner : is_loose_if_any (is_known is_guard) es form ≡ true

abbrev pub FirmOf : Open → Type 0
FirmOf b = Firm b.stack b.formats b.form

-- ---- modes

-- what each mode says of the names of the stack
abbrev pub has_facts : Mode → List Word → Bool
has_facts mode.BeforeHead ws = has_no Template ws
has_facts mode.InHead ws = has_no Template ws && reaches (has_word (Head ∷ [])) ws
has_facts mode.AfterHead ws = has_no Template ws
has_facts mode.InFrameset ws = has_no Template ws
has_facts mode.InCell ws = reaches (has_word (Td ∷ Th ∷ [])) ws
has_facts mode.InSelectInTable ws = reaches (has_word (Select ∷ [])) ws
has_facts mode.InTemplate ws = not (has_no Template ws)
has_facts _ ws = true

abbrev pub stands : Mode → List OpenElement → Bool
stands m es = if is_early m then is_empty es else not (has_no Html (core es)) && has_facts m (core es)

-- the mode to which the parser goes back, or is in
abbrev pub main_mode : Mode → Option Mode → Mode
main_mode m None = m
main_mode m (Some original) = original

abbrev pub is_text_mode : Mode → Bool
is_text_mode mode.InText = true
is_text_mode _ = false

-- in the mode "text" the current node is of HTML, and none that counts
abbrev pub has_text_at_bottom : List OpenElement → Bool
has_text_at_bottom [] = false
has_text_at_bottom (e ∷ es) = is_known (λ w. not (is_guard w)) e.name

abbrev pub is_late_if_any : Option Mode → Bool
is_late_if_any None = true
is_late_if_any (Some m) = is_late m

-- the modes that a template's contents go by
abbrev pub is_template_mode : Mode → Bool
is_template_mode mode.InTemplate = true
is_template_mode mode.InBody = true
is_template_mode mode.InTable = true
is_template_mode mode.InColumnGroup = true
is_template_mode mode.InTableBody = true
is_template_mode mode.InRow = true
is_template_mode _ = false

-- the modes that have an original one
abbrev pub is_text_like : Mode → Bool
is_text_like mode.InText = true
is_text_like mode.InTableText = true
is_text_like _ = false

-- an original mode is there exactly in those, and the rules for foreign content are never the mode
abbrev pub has_kept : Mode → Option Mode → Bool
has_kept m None = is_main_mode m
has_kept m (Some original) = is_text_like m

pub record Ground (es : List OpenElement) (fs : List FormattingEntry) (form : Option NodeId) (m : Mode) (original : Option Mode) (ms : List Mode) (ok : Bool) : Type 0 where
  pub firm : Firm es fs form
  pub stand : stands (main_mode m original) es ≡ true
  pub bottom : (if is_text_mode m then has_text_at_bottom es else true) ≡ true
  pub kept : has_kept m original ≡ true
  pub late : is_late_if_any original ≡ true
  -- as many template insertion modes as template elements
  pub matches : length ms ≡ templates_among (core es)
  -- a frameset may take the place of the body only where no template is open
  pub marked : ok ≡ true → has_no Template (core es) ≡ true
  pub template_modes : list_all is_template_mode ms ≡ true

abbrev pub GroundOf : Open → Type 0
GroundOf b = Ground b.stack b.formats b.form b.mode b.original b.template_modes b.frameset_ok

-- ---- the law

-- how many template elements are open
abbrev pub templates_in : List OpenElement → ℕ
templates_in [] = 0
templates_in (e ∷ es) = if is_word Template e.name then suc (templates_in es) else templates_in es

-- the first element of the stack is html, where there is one
abbrev pub HasRoot : List OpenElement → Type 0
HasRoot es = IfSome (first_open es) (λ e. IsTrue (is_word Html e.name))

-- the open state of a page stands on its root; its ids are bound, and those that come aren't
pub record IsGrounded (b : Open) : Type 0 where
  pub page : b.context ≡ None
  pub ground : GroundOf b
  pub ids : (known : NodeId → Bool) × Serves AreFresh known b

-- as many template insertion modes are there as template elements are open, and html is the first of the stack
abbrev pub GroundedStand : Type 0
GroundedStand = (b : Open) → IsGrounded b → (length b.template_modes ≡ templates_in b.stack) × HasRoot b.stack

abbrev pub OpeningIsGrounded : Type 0
OpeningIsGrounded = (realm : ℕ) → IsGrounded (opening realm)

-- unless one element more than 512 would be open
abbrev pub GroundedUnlessDeep : Next → Open → Type 0
GroundedUnlessDeep next.Deep b = ⊤
GroundedUnlessDeep _ b = IsGrounded b

abbrev pub TokensStayGrounded : Type 0
TokensStayGrounded = (t : Token) (b : Open) (o : List Op) → IsGrounded b → (let a : Answer = construct t b o in GroundedUnlessDeep a.next a.open_state)
