-- What each instruction of a row does to the open state (13.2.4 #parse-state), and which operations
-- it asks for (13.2.6.1 #creating-and-inserting-nodes to
-- 13.2.6.3 #closing-elements-that-have-implied-end-tags).
use Rattle.std.specs.Prelude.{ℕ, Bool, true, false, not, ◌&&◌, ◌||◌, nat_lt, if◌then◌else◌, List, [], ◌∷◌, ◌++◌, Option, Some, None, is_some, length, map, reverse, codes}
use Rattle.std.specs.Char.{to_ascii_lowercase}
use Rattle.html_types.specs.Text.{same_text}
use Rattle.html_types.specs.Operations.{later}
use Rattle.html_types.specs.declared.word.Word.{Word}
use Rattle.html_types.specs.declared.word.Word.TheVariants as word
use Rattle.html_types.specs.declared.instruction.Instr.{Instr}
use Rattle.html_types.specs.declared.instruction.Instr.TheVariants as ins
use Rattle.html_types.specs.declared.instruction.Test.{Test}
use Rattle.html_types.specs.declared.instruction.Test.TheVariants.{InScope, Current, OnStack, InFormatting, Quirks, SecondIsBody, FramesetOk, QuirkyDoctype, InForm, HiddenInput, InTemplates, InTables, OptionInOptgroup, SelfClosing, BreaksOut, InFragment}
use Rattle.html_types.specs.declared.instruction.Scope.TheVariants as scope
use Rattle.html_types.specs.declared.instruction.Mode.{Mode}
use Rattle.html_types.specs.declared.instruction.Mode.TheVariants as mode
use Rattle.html_types.specs.declared.instruction.Who.TheVariants as who
use Rattle.html_types.specs.declared.instruction.Flow.{Flow}
use Rattle.html_types.specs.declared.instruction.Flow.TheVariants.{On, Skip, Leave}
use Rattle.html_types.specs.declared.instruction.Next.{Next}
use Rattle.html_types.specs.declared.instruction.Next.TheVariants as next
use Rattle.html_types.specs.declared.instruction.Then.TheVariants.{Nothing, Link, Nobr}
use Rattle.html_types.specs.Names.{name_of, name_text, space_of}
use Rattle.html_types.specs.declared.name.Space.{Space}
use Rattle.html_types.specs.declared.name.Space.TheVariants.{Html}
use Rattle.html_types.specs.declared.name.Name.{Name}
use Rattle.html_types.specs.declared.name.Name.TheVariants.{Known, Other}
use Rattle.html_types.specs.declared.token.Tag.{Tag}
use Rattle.html_types.specs.declared.token.Token.{Token}
use Rattle.html_types.specs.declared.token.Token.TheVariants.{StartTag, EndTag, Character, Comment, Doctype}
use Rattle.html_types.specs.declared.operation.NodeId.{NodeId}
use Rattle.html_types.specs.declared.operation.Place.{Place}
use Rattle.html_types.specs.declared.operation.Place.TheVariants.{Page, Inside}
use Rattle.html_types.specs.declared.operation.Op.{Op}
use Rattle.html_types.specs.declared.operation.Op.TheVariants as op
use Rattle.html_types.specs.declared.open.OpenElement.{OpenElement}
use Rattle.html_types.specs.declared.open.FormattingEntry.{FormattingEntry}
use Rattle.html_types.specs.declared.open.FormattingEntry.TheVariants.{Marker, Element}
use Rattle.html_types.specs.declared.open.Open.{Open}
use Rattle.standard.specs.Tree.{attribute}
use Rattle.standard.specs.WhiteSpace.{is_space}
use Rattle.standard.specs.ForeignNames.{is_lower_of}
use Rattle.standard.specs.Elements.{is_word, is_meant, is_one_of}
use Rattle.standard.specs.Foreign.{adjusted, opened, is_html, is_html_or_point, breaks_out, tag_in, foreign_tag}
use Rattle.standard.specs.Stack.{in_scope, on_stack, current_is, option_in_optgroup, current_id, pop, until, pop_to, pop_to_root, implied, implied_thoroughly, close, close_item, other_end, place, first_open, second_open, is_the, without_open, open_in_scope}
use Rattle.standard.specs.Reset.{reset_mode}
use Rattle.standard.specs.Formatting.{listed, clear_to_marker, kept, lost, list_element, entry_named, without_entry}

-- the open state, the operations so far, and how to go on
pub record Config : Type 0 where
  pub open_state : Open
  pub ops : List Op
  pub flow : Flow

abbrev pub config : Open → List Op → Flow → Config
config b o f = record { open_state = b; ops = o; flow = f }

abbrev pub on : Open → List Op → Config
on b o = config b o On

-- ---- tests

-- a document of this doctype is in quirks mode
abbrev pub is_quirky : Token → Bool
is_quirky (Doctype name force) = force || not (is_word word.Html (name_of name))
is_quirky _ = false

abbrev pub is_hidden : Option (List ℕ) → Bool
is_hidden None = false
is_hidden (Some text) = same_text (map to_ascii_lowercase text) (codes "hidden")

abbrev pub is_hidden_input : Token → Bool
is_hidden_input (StartTag tag) = is_hidden (attribute (codes "type") tag.attributes)
is_hidden_input _ = false

abbrev pub in_form : Open → Bool
in_form b = is_some b.form && not (on_stack (is_word word.Template) b.stack)

-- template insertion modes are left
abbrev pub has_modes : List Mode → Bool
has_modes [] = false
has_modes (m ∷ ms) = true

-- the modes in which a select goes by "in select in table"
abbrev pub is_table_mode : Mode → Bool
is_table_mode mode.InTable = true
is_table_mode mode.InCaption = true
is_table_mode mode.InTableBody = true
is_table_mode mode.InRow = true
is_table_mode mode.InCell = true
is_table_mode _ = false

abbrev pub closes_itself : Token → Bool
closes_itself (StartTag tag) = tag.self_closing
closes_itself _ = false

abbrev pub is_breaking : Token → Bool
is_breaking (StartTag tag) = breaks_out tag
is_breaking _ = false

abbrev pub holds : Test → Token → Open → Bool
holds (InScope s w) t b = in_scope s (is_meant w t) b.stack
holds (Current w) t b = current_is (is_meant w t) b.stack
holds (OnStack w) t b = on_stack (is_meant w t) b.stack
holds (InFormatting w) t b = listed (is_meant w t) b.formats
holds Quirks t b = b.quirks
holds SecondIsBody t b = is_the word.Body (second_open b.stack)
holds FramesetOk t b = b.frameset_ok
holds QuirkyDoctype t b = is_quirky t
holds InForm t b = in_form b
holds HiddenInput t b = is_hidden_input t
holds InTemplates t b = has_modes b.template_modes
holds InTables t b = is_table_mode b.mode
holds OptionInOptgroup t b = option_in_optgroup b.stack
holds SelfClosing t b = closes_itself t
holds BreaksOut t b = is_breaking t
holds InFragment t b = is_some b.context

-- ---- elements

-- another element may be opened: at most 512 are
abbrev pub room : Open → Bool
room b = nat_lt (length b.stack) 512

-- the operations that make an element and put it at a place
abbrev pub made : Place → Tag → Open → List Op → List Op
made p tag b o = o ++ op.Make b.next tag.name tag.attributes ∷ [] ++ op.Put b.next p ∷ []

abbrev pub pushed : Tag → Open → Open
pushed tag b = record b { stack = opened b.next tag ∷ b.stack; next = later 1 b.next }

-- insert an element: made, put there and pushed
abbrev pub insert_at : Place → Tag → Open → List Op → Config
insert_at p tag b o = if room b then on (pushed tag b) (made p tag b o) else config b o (Leave next.Deep)

-- the appropriate place for inserting a node (13.2.6.1 #creating-and-inserting-nodes)
abbrev pub here : Open → Place
here b = place b.foster b.stack

abbrev pub insert : Tag → Open → List Op → Config
insert tag b o = insert_at (here b) tag b o

abbrev pub insert_root : Tag → Open → List Op → Config
insert_root tag b o = insert_at Page tag b o

-- inserted, and popped at once
abbrev pub void : Tag → Open → List Op → Config
void tag b o = if room b then on (record b { next = later 1 b.next }) (made (here b) tag b o) else config b o (Leave next.Deep)

-- the namespace of an element, where there is one
abbrev pub space_or_html : Option OpenElement → Space
space_or_html None = Html
space_or_html (Some e) = space_of e.name

-- insert a foreign element, in the namespace of the adjusted current node
abbrev pub insert_foreign : Tag → Open → List Op → Config
insert_foreign tag b o = insert (foreign_tag (space_or_html (adjusted b)) tag) b o

abbrev pub insert_in : Space → Tag → Open → List Op → Config
insert_in s tag b o = insert (tag_in s tag) b o

-- a start tag of that name without attributes
abbrev pub tag_of : Word → Tag
tag_of w = record { name = Known w; attributes = []; self_closing = false }

-- the tag under another name
abbrev pub named : Word → Tag → Tag
named w tag = record tag { name = Known w }

abbrev pub void_as : Word → Tag → Open → List Op → Config
void_as w tag b o = void (named w tag) b o

-- an instruction that makes something of the token's tag does nothing at another token
abbrev pub for_tag : (Tag → Open → List Op → Config) → Token → Open → List Op → Config
for_tag f (StartTag tag) b o = f tag b o
for_tag f (EndTag tag) b o = f tag b o
for_tag f _ b o = on b o

-- ---- the list of active formatting elements (13.2.4.3 #the-list-of-active-formatting-elements)

-- the current node becomes an entry, with the tag
abbrev pub list_current : Tag → List OpenElement → List FormattingEntry → List FormattingEntry
list_current tag [] fs = fs
list_current tag (e ∷ es) fs = list_element e.id tag fs

abbrev pub enlist : Tag → Open → List Op → Config
enlist tag b o = on (record b { formats = list_current tag b.stack b.formats }) o

abbrev pub take_off : NodeId → Open → List Op → Config
take_off i b o = on (record b { stack = without_open (Some i) b.stack; formats = without_entry i b.formats }) o

-- ---- reconstruct the active formatting elements
-- (13.2.4.3 #the-list-of-active-formatting-elements)

-- an entry that was lost from the stack is opened again, and stands last in the list
abbrev pub reopen : Tag → Open → List Op → Config
reopen tag b o =
    if room b then on (record (pushed tag b) { formats = Element b.next tag ∷ b.formats }) (made (here b) tag b o)
    else config b o (Leave next.Deep)

abbrev pub reopen_all : List Tag → Config → Config
reopen_all [] c = c
reopen_all (tag ∷ tags) c =
    elim c.flow as (λ _. Config) [ On ↦ reopen_all tags (reopen tag c.open_state c.ops) | Skip ↦ c | Leave n ↦ c ]

abbrev pub reconstruct : Open → List Op → Config
reconstruct b o = reopen_all (reverse (lost b.stack b.formats)) (on (record b { formats = kept b.stack b.formats }) o)

-- ---- other insertions

abbrev pub insert_text : Token → Open → List Op → Config
insert_text (Character c) b o = on b (o ++ op.Text (here b) (c ∷ []) ∷ [])
insert_text _ b o = on b o

abbrev pub insert_replacement : Open → List Op → Config
insert_replacement b o = on b (o ++ op.Text (here b) (0xFFFD ∷ []) ∷ [])

abbrev pub insert_comment : Place → Token → Open → List Op → Config
insert_comment p (Comment text) b o = on b (o ++ op.Comment p text ∷ [])
insert_comment p _ b o = on b o

abbrev pub append_doctype : Token → Open → List Op → Config
append_doctype (Doctype name force) b o = on b (o ++ op.Doctype name ∷ [])
append_doctype _ b o = on b o

-- the end of an element, or of the Document where there is none
abbrev pub end_of : Option OpenElement → Place
end_of None = Page
end_of (Some e) = Inside e.id

-- the tag's attributes, where the element lacks them
abbrev pub add_attributes : Option OpenElement → Tag → Open → List Op → Config
add_attributes None tag b o = on b o
add_attributes (Some e) tag b o = on b (o ++ op.AddAttributes e.id tag.attributes ∷ [])

-- an element taken out of its parent
abbrev pub detach_second : Option OpenElement → Open → List Op → Config
detach_second None b o = on b o
detach_second (Some e) b o = on b (o ++ op.Detach e.id ∷ [])

-- ---- the pending table character tokens (13.2.6.4.10 #parsing-main-intabletext)

abbrev pub append_pending : Token → Open → List Op → Config
append_pending (Character c) b o = on (record b { pending_text = b.pending_text ++ c ∷ [] }) o
append_pending _ b o = on b o

abbrev pub all_space : List ℕ → Bool
all_space [] = true
all_space (c ∷ cs) = is_space c && all_space cs

-- the operations that insert characters at a place
abbrev pub texts : Place → List ℕ → List Op
texts p cs = map (λ c. op.Text p (c ∷ [])) cs

-- a character by the rules of "in body" (13.2.6.4.7 #parsing-main-inbody), behind the
-- reconstruction
abbrev pub body_text : ℕ → Config → Config
body_text c r =
    elim r.flow as (λ _. Config) [
      | On ↦ on (record r.open_state { frameset_ok = is_space c && r.open_state.frameset_ok }) (r.ops ++ op.Text (here r.open_state) (c ∷ []) ∷ [])
      | Skip ↦ r
      | Leave n ↦ r
    ]

abbrev pub body_character : ℕ → Open → List Op → Config
body_character c b o = body_text c (reconstruct b o)

-- one character after another
abbrev pub body_characters : List ℕ → Config → Config
body_characters [] r = r
body_characters (c ∷ cs) r =
    elim r.flow as (λ _. Config) [ On ↦ body_characters cs (body_character c r.open_state r.ops) | Skip ↦ r | Leave n ↦ r ]

-- no character is pending any more, and foster parenting is off
abbrev pub none_pending : Config → Config
none_pending r = record r { open_state = record r.open_state { pending_text = []; foster = false } }

abbrev pub insert_pending : Open → List Op → Config
insert_pending b o =
    if all_space b.pending_text then on (record b { pending_text = [] }) (o ++ texts (here b) b.pending_text)
    else none_pending (body_characters b.pending_text (on (record b { foster = true }) o))

-- ---- pointers and modes

abbrev pub pop_mode : List Mode → List Mode
pop_mode [] = []
pop_mode (m ∷ ms) = ms

abbrev pub push_head : Option NodeId → Open → List Op → Config
push_head None b o = on b o
push_head (Some i) b o =
    if room b then on (record b { stack = record { id = i; name = Known word.Head; html_point = false } ∷ b.stack }) o else config b o (Leave next.Deep)

-- the end tag `form` (13.2.6.4.7 #parsing-main-inbody) where no template is open: the form element
-- pointer's element, in scope, is taken off the stack wherever it stands
abbrev pub form_closed : (Name → Bool) → Option NodeId → List OpenElement → List OpenElement
form_closed nobody None es = es
form_closed nobody (Some i) es = if open_in_scope scope.Default i es then without_open (Some i) (implied nobody es) else es

-- and where one is
abbrev pub form_closed_in_template : (Name → Bool) → List OpenElement → List OpenElement
form_closed_in_template nobody es = if in_scope scope.Default (is_word word.Form) es then until (is_word word.Form) (implied nobody es) else es

abbrev pub end_form : (Name → Bool) → Open → List Op → Config
end_form nobody b o =
    if on_stack (is_word word.Template) b.stack then on (record b { stack = form_closed_in_template nobody b.stack }) o
    else on (record b { stack = form_closed nobody b.form b.stack; form = None }) o

-- the original mode; there always is one in the mode "text", and m stands for it elsewhere
abbrev pub original_or : Mode → Option Mode → Mode
original_or m None = m
original_or m (Some original) = original

-- the parser stops at a script, but in a fragment
abbrev pub next_at_script : Option OpenElement → NodeId → Next
next_at_script None i = next.Script i
next_at_script (Some c) i = next.Done

-- the script is popped, and the parser stops at it
abbrev pub stop_at_script : List OpenElement → Open → List Op → Config
stop_at_script [] b o = config b o (Leave next.Done)
stop_at_script (e ∷ es) b o = config (record b { stack = es }) o (Leave (next_at_script b.context e.id))

-- ---- foreign content is left (13.2.6.5 #parsing-main-inforeign)

-- popped while the current node is neither an HTML element nor an integration point
abbrev pub pop_foreign : List OpenElement → List OpenElement
pop_foreign [] = []
pop_foreign (e ∷ es) = if is_html_or_point e then e ∷ es else pop_foreign es

abbrev pub break_out : Open → List Op → Config
break_out b o = config (record b { stack = pop_foreign b.stack }) o (Leave (next.UsingRules b.mode))

-- "Any other end tag", from the current node up: the stack `all` with the element of that name popped, or as it is where the first element is
-- met; none where an HTML element comes before
abbrev pub foreign_end : List ℕ → List OpenElement → List OpenElement → Option (List OpenElement)
foreign_end name all [] = Some all
foreign_end name all (e ∷ []) = Some all
foreign_end name all (e ∷ d ∷ es) =
    if is_lower_of (name_text e.name) name then Some (d ∷ es) else (if is_html d.name then None else foreign_end name all (d ∷ es))

abbrev pub end_foreign_with : Option (List OpenElement) → Open → List Op → Config
end_foreign_with None b o = config b o (Leave (next.UsingRules b.mode))
end_foreign_with (Some es) b o = on (record b { stack = es }) o

abbrev pub end_foreign : Tag → Open → List Op → Config
end_foreign tag b o = end_foreign_with (foreign_end (name_text tag.name) b.stack b.stack) b o

-- ---- the adoption agency algorithm (13.2.6.4.7 #parsing-main-inbody) is asked for

abbrev pub adopt_name : Name → Open → List Op → Config
adopt_name (Known w) b o = config b o (Leave (next.Adopt w Nothing))
adopt_name (Other s text) b o = on b o

abbrev pub adopt_own : Tag → Open → List Op → Config
adopt_own tag b o = adopt_name tag.name b o

abbrev pub adopt_anchor : Option NodeId → Open → List Op → Config
adopt_anchor None b o = on b o
adopt_anchor (Some i) b o = config b o (Leave (next.Adopt word.A (Link i)))

-- ---- the instructions

abbrev pub step : Instr → Token → Open → List Op → Config
step (ins.Need c) t b o = config b o (if holds c t b then On else Leave next.Done)
step (ins.Forbid c) t b o = config b o (if holds c t b then Leave next.Done else On)
step (ins.When c) t b o = config b o (if holds c t b then On else Skip)
step (ins.Unless c) t b o = config b o (if holds c t b then Skip else On)
step ins.Insert t b o = for_tag insert t b o
step (ins.InsertA w) t b o = insert (tag_of w) b o
step ins.InsertRoot t b o = for_tag insert_root t b o
step ins.InsertRootA t b o = insert_root (tag_of word.Html) b o
step ins.InsertAndPop t b o = for_tag void t b o
step (ins.InsertAndPopA w) t b o = void (tag_of w) b o
step (ins.InsertAndPopAs w) t b o = for_tag (void_as w) t b o
step ins.InsertForeign t b o = for_tag insert_foreign t b o
step (ins.InsertIn s) t b o = for_tag (insert_in s) t b o
step ins.InsertText t b o = insert_text t b o
step ins.InsertReplacement t b o = insert_replacement b o
step ins.InsertComment t b o = insert_comment (here b) t b o
step ins.CommentToPage t b o = insert_comment Page t b o
step ins.CommentToRoot t b o = insert_comment (end_of (first_open b.stack)) t b o
step ins.AppendDoctype t b o = append_doctype t b o
step ins.Pop t b o = on (record b { stack = pop b.stack }) o
step (ins.PopUntil w) t b o = on (record b { stack = until (is_meant w t) b.stack }) o
step (ins.ClearBackTo g) t b o = on (record b { stack = pop_to (is_one_of g) b.stack }) o
step ins.PopToRoot t b o = on (record b { stack = pop_to_root b.stack }) o
step ins.GenerateImplied t b o = on (record b { stack = implied (is_meant who.Nobody t) b.stack }) o
step ins.GenerateImpliedThoroughly t b o = on (record b { stack = implied_thoroughly b.stack }) o
step (ins.GenerateImpliedBut w) t b o = on (record b { stack = implied (is_meant w t) b.stack }) o
step (ins.Close s w) t b o = on (record b { stack = close s (is_meant w t) b.stack }) o
step (ins.CloseItem w) t b o = on (record b { stack = close_item (is_meant w t) b.stack }) o
step ins.AnyOtherEnd t b o = on (record b { stack = other_end (is_meant who.Own t) b.stack }) o
step ins.BreakOut t b o = break_out b o
step ins.ForeignEnd t b o = for_tag end_foreign t b o
step ins.Reconstruct t b o = reconstruct b o
step ins.PushFormatting t b o = for_tag enlist t b o
step ins.PushMarker t b o = on (record b { formats = Marker ∷ b.formats }) o
step ins.ClearToMarker t b o = on (record b { formats = clear_to_marker b.formats }) o
step (ins.TakeOff i) t b o = take_off i b o
step ins.FramesetNotOk t b o = on (record b { frameset_ok = false }) o
step ins.BecomeQuirky t b o = on (record b { quirks = true }) o
step ins.SkipLineFeed t b o = on (record b { skip_line_feed = true }) o
step ins.SetHeadPointer t b o = on (record b { head = current_id b.stack }) o
step ins.PushHead t b o = push_head b.head b o
step ins.TakeHeadOff t b o = on (record b { stack = without_open b.head b.stack }) o
step ins.SetFormPointer t b o = on (record b { form = current_id b.stack }) o
step ins.EndForm t b o = end_form (is_meant who.Nobody t) b o
step ins.AddToFirst t b o = for_tag (add_attributes (first_open b.stack)) t b o
step ins.AddToSecond t b o = for_tag (add_attributes (second_open b.stack)) t b o
step ins.DetachSecond t b o = detach_second (second_open b.stack) b o
step (ins.SwitchMode m) t b o = on (record b { mode = m }) o
step ins.SaveMode t b o = on (record b { original = Some b.mode }) o
step ins.RestoreMode t b o = on (record b { mode = original_or mode.InBody b.original; original = None }) o
step (ins.PushTemplateMode m) t b o = on (record b { template_modes = m ∷ b.template_modes }) o
step ins.PopTemplateMode t b o = on (record b { template_modes = pop_mode b.template_modes }) o
step ins.ResetMode t b o = on (record b { mode = reset_mode b.context b.stack b.head b.template_modes }) o
step ins.AppendPending t b o = append_pending t b o
step ins.InsertPending t b o = insert_pending b o
step ins.Adopt t b o = for_tag adopt_own t b o
step ins.AdoptAnchor t b o = adopt_anchor (entry_named (is_word word.A) b.formats) b o
step ins.AdoptNobr t b o = config b o (Leave (next.Adopt word.Nobr Nobr))
step (ins.SwitchTokenizer r) t b o = config b o (Leave (next.SwitchTokenizer r))
step (ins.UsingRules m) t b o = config b o (Leave (next.UsingRules m))
step ins.InBodyFostering t b o = config (record b { foster = true }) o (Leave next.InBodyFostering)
step ins.Reprocess t b o = config b o (Leave next.Reprocess)
step ins.StopAtScript t b o = stop_at_script b.stack b o
step ins.Finish t b o = config b o (Leave next.Finished)

-- one instruction of a row: left out where the one before said so, or the token is done
abbrev pub turn : Token → Config → Instr → Config
turn t c i = elim c.flow as (λ _. Config) [ On ↦ step i t c.open_state c.ops | Skip ↦ on c.open_state c.ops | Leave n ↦ c ]

-- a row
unfoldable pub run : Token → Config → List Instr → Config
run t c [] = c
run t c (i ∷ is) = run t (turn t c i) is
