-- Operations are only appended: an instruction, and so a row and the processing of a token, asks for the same behind any others.
use Rattle.std.proofs.Common.{◌≡◌, refl, sym, ap, ◌∙◌, ℕ, zero, suc, Bool, true, false, ◌&&◌, List, [], ◌∷◌, ◌++◌, reverse, append_assoc}
use Rattle.std.proofs.lemmas.List.{append-nil}
use Rattle.std.specs.Prelude.{if◌then◌else◌, Option, Some, None}
use Rattle.html_types.specs.Operations.{later}
use Rattle.html_types.specs.Names.{name_text}
use Rattle.html_types.specs.declared.word.Word.{Word}
use Rattle.html_types.specs.declared.word.Word.TheVariants as word
use Rattle.html_types.specs.declared.name.Name.{Name}
use Rattle.html_types.specs.declared.name.Name.TheVariants.{Known, Other}
use Rattle.html_types.specs.declared.instruction.Who.TheVariants as who
use Rattle.html_types.specs.declared.instruction.Then.{Then}
use Rattle.html_types.specs.declared.instruction.Instr.{Instr}
use Rattle.html_types.specs.declared.instruction.Instr.TheVariants as ins
use Rattle.html_types.specs.declared.instruction.Mode.{Mode}
use Rattle.html_types.specs.declared.instruction.Flow.{Flow}
use Rattle.html_types.specs.declared.instruction.Flow.TheVariants.{On, Skip, Leave}
use Rattle.html_types.specs.declared.instruction.Next.{Next}
use Rattle.html_types.specs.declared.instruction.Next.TheVariants as next
use Rattle.html_types.specs.declared.token.Tag.{Tag}
use Rattle.html_types.specs.declared.token.Token.{Token}
use Rattle.html_types.specs.declared.token.Token.TheVariants.{StartTag, EndTag, Character, Comment, Doctype, EndOfFile}
use Rattle.html_types.specs.declared.operation.NodeId.{NodeId}
use Rattle.html_types.specs.declared.operation.Place.{Place}
use Rattle.html_types.specs.declared.operation.Place.TheVariants.{Page}
use Rattle.html_types.specs.declared.operation.Op.{Op}
use Rattle.html_types.specs.declared.open.OpenElement.{OpenElement}
use Rattle.html_types.specs.declared.open.FormattingEntry.TheVariants.{Element}
use Rattle.html_types.specs.declared.open.Open.{Open}
use Rattle.standard.specs.Elements.{is_word, is_meant}
use Rattle.standard.specs.Foreign.{adjusted, tag_in, foreign_tag}
use Rattle.standard.specs.Stack.{on_stack, first_open, second_open}
use Rattle.standard.specs.Formatting.{kept, lost, entry_named}
use Rattle.standard.specs.WhiteSpace.{is_space}
use Rattle.standard.specs.Instructions.{Config, config, on, room, made, pushed, insert_at, here, insert, insert_root, space_or_html, insert_foreign, insert_in, foreign_end, end_foreign_with, end_foreign, void, tag_of, named, void_as, for_tag, enlist, reopen, reopen_all, reconstruct, insert_text, insert_comment, append_doctype, end_of, add_attributes, detach_second, append_pending, all_space, texts, body_text, body_character, body_characters, none_pending, insert_pending, push_head, form_closed, form_closed_in_template, end_form, stop_at_script, adopt_name, adopt_own, adopt_anchor, step, turn, run}
use Rattle.standard.specs.Adoption.{Adopted, adopt}
use Rattle.standard.specs.Rules.{Answer, answer, answer_of, row, by_mode, adopting, with_adoption, by_rules, rules_for, Round, once, stop, round_after, go_round, process, rounds, is_line_feed, settled_answer, construct}
use Rattle.standard.specs.RulesBody.{after_adopt}
use Rattle.rule_laws.specs.Naming.{config_behind, answer_behind}
use Rattle.rule_laws.specs.NamingLaws.{FosteringEnds}
use Rattle.rule_laws.proofs.AdoptionFraming.{adopt-framed}

by_test : (p : List Op) (v : Bool) (x y x' y' : Config) → x' ≡ config_behind p x → y' ≡ config_behind p y → (if v then x' else y') ≡ config_behind p (if v then x else y)
by_test p true x y x' y' e g = e
by_test p false x y x' y' e g = g

made-framed : (p : List Op) (at : Place) (tag : Tag) (b : Open) (o : List Op) → made at tag b (p ++ o) ≡ p ++ made at tag b o
made-framed p at tag b o = simp append_assoc

insert-framed : (p : List Op) (at : Place) (tag : Tag) (b : Open) (o : List Op) → insert_at at tag b (p ++ o) ≡ config_behind p (insert_at at tag b o)
insert-framed p at tag b o =
    by_test p (room b) (on (pushed tag b) (made at tag b o)) (config b o (Leave next.Deep)) _ _ (ap (on (pushed tag b)) (made-framed p at tag b o)) refl

void-framed : (p : List Op) (tag : Tag) (b : Open) (o : List Op) → void tag b (p ++ o) ≡ config_behind p (void tag b o)
void-framed p tag b o =
    by_test p (room b) (on (record b { next = later 1 b.next }) (made (here b) tag b o)) (config b o (Leave next.Deep)) _ _
    (ap (on (record b { next = later 1 b.next })) (made-framed p (here b) tag b o)) refl

reopen-framed : (p : List Op) (tag : Tag) (b : Open) (o : List Op) → reopen tag b (p ++ o) ≡ config_behind p (reopen tag b o)
reopen-framed p tag b o =
    by_test p (room b) (on (record (pushed tag b) { formats = Element b.next tag ∷ b.formats }) (made (here b) tag b o)) (config b o (Leave next.Deep)) _ _
    (ap (on (record (pushed tag b) { formats = Element b.next tag ∷ b.formats })) (made-framed p (here b) tag b o)) refl

reopen_all-framed : (p : List Op) (tags : List Tag) (b : Open) (o : List Op) (n : Flow) → reopen_all tags (config b (p ++ o) n) ≡ config_behind p (reopen_all tags (config b o n))
reopen_all-framed p [] b o n = refl
reopen_all-framed p (tag ∷ tags) b o On =
    ap (reopen_all tags) (reopen-framed p tag b o)
    ∙ reopen_all-framed p tags (reopen tag b o).open_state (reopen tag b o).ops (reopen tag b o).flow
reopen_all-framed p (tag ∷ tags) b o Skip = refl
reopen_all-framed p (tag ∷ tags) b o (Leave n) = refl

reconstruct-framed : (p : List Op) (b : Open) (o : List Op) → reconstruct b (p ++ o) ≡ config_behind p (reconstruct b o)
reconstruct-framed p b o = reopen_all-framed p (reverse (lost b.stack b.formats)) (record b { formats = kept b.stack b.formats }) o On

-- ---- instructions

by_tag : (p : List Op) (g : Tag → Open → List Op → Config) (t : Token) (b : Open) (o : List Op)
    → ((tag : Tag) → g tag b (p ++ o) ≡ config_behind p (g tag b o)) → for_tag g t b (p ++ o) ≡ config_behind p (for_tag g t b o)
by_tag p g (StartTag tag) b o h = h tag
by_tag p g (EndTag tag) b o h = h tag
by_tag p g (Character c) b o h = refl
by_tag p g (Comment text) b o h = refl
by_tag p g (Doctype name force) b o h = refl
by_tag p g EndOfFile b o h = refl

one_more : (p : List Op) (b : Open) (o more : List Op) → on b ((p ++ o) ++ more) ≡ config_behind p (on b (o ++ more))
one_more p b o more = ap (on b) (append_assoc p o more)

text-framed : (p : List Op) (t : Token) (b : Open) (o : List Op) → insert_text t b (p ++ o) ≡ config_behind p (insert_text t b o)
text-framed p (Character c) b o = one_more p b o _
text-framed p (StartTag tag) b o = refl
text-framed p (EndTag tag) b o = refl
text-framed p (Comment text) b o = refl
text-framed p (Doctype name force) b o = refl
text-framed p EndOfFile b o = refl

comment-framed : (p : List Op) (at : Place) (t : Token) (b : Open) (o : List Op) → insert_comment at t b (p ++ o) ≡ config_behind p (insert_comment at t b o)
comment-framed p at (Comment text) b o = one_more p b o _
comment-framed p at (StartTag tag) b o = refl
comment-framed p at (EndTag tag) b o = refl
comment-framed p at (Character c) b o = refl
comment-framed p at (Doctype name force) b o = refl
comment-framed p at EndOfFile b o = refl

doctype-framed : (p : List Op) (t : Token) (b : Open) (o : List Op) → append_doctype t b (p ++ o) ≡ config_behind p (append_doctype t b o)
doctype-framed p (Doctype name force) b o = one_more p b o _
doctype-framed p (StartTag tag) b o = refl
doctype-framed p (EndTag tag) b o = refl
doctype-framed p (Character c) b o = refl
doctype-framed p (Comment text) b o = refl
doctype-framed p EndOfFile b o = refl

attributes-framed : (p : List Op) (e : Option OpenElement) (tag : Tag) (b : Open) (o : List Op) → add_attributes e tag b (p ++ o) ≡ config_behind p (add_attributes e tag b o)
attributes-framed p None tag b o = refl
attributes-framed p (Some e) tag b o = one_more p b o _

detach-framed : (p : List Op) (e : Option OpenElement) (b : Open) (o : List Op) → detach_second e b (p ++ o) ≡ config_behind p (detach_second e b o)
detach-framed p None b o = refl
detach-framed p (Some e) b o = one_more p b o _

pending-framed : (p : List Op) (t : Token) (b : Open) (o : List Op) → append_pending t b (p ++ o) ≡ config_behind p (append_pending t b o)
pending-framed p (Character c) b o = refl
pending-framed p (StartTag tag) b o = refl
pending-framed p (EndTag tag) b o = refl
pending-framed p (Comment text) b o = refl
pending-framed p (Doctype name force) b o = refl
pending-framed p EndOfFile b o = refl

body_text-framed : (p : List Op) (c : ℕ) (b : Open) (o : List Op) (n : Flow) → body_text c (config b (p ++ o) n) ≡ config_behind p (body_text c (config b o n))
body_text-framed p c b o On = one_more p (record b { frameset_ok = is_space c && b.frameset_ok }) o _
body_text-framed p c b o Skip = refl
body_text-framed p c b o (Leave n) = refl

body_character-framed : (p : List Op) (c : ℕ) (b : Open) (o : List Op) → body_character c b (p ++ o) ≡ config_behind p (body_character c b o)
body_character-framed p c b o =
    let r : Config = reconstruct b o in
    ap (body_text c) (reconstruct-framed p b o) ∙ body_text-framed p c r.open_state r.ops r.flow

body_characters-framed : (p : List Op) (cs : List ℕ) (b : Open) (o : List Op) (n : Flow) → body_characters cs (config b (p ++ o) n) ≡ config_behind p (body_characters cs (config b o n))
body_characters-framed p [] b o n = refl
body_characters-framed p (c ∷ cs) b o On =
    let r : Config = body_character c b o in
    ap (body_characters cs) (body_character-framed p c b o) ∙ body_characters-framed p cs r.open_state r.ops r.flow
body_characters-framed p (c ∷ cs) b o Skip = refl
body_characters-framed p (c ∷ cs) b o (Leave n) = refl

insert_pending-framed : (p : List Op) (b : Open) (o : List Op) → insert_pending b (p ++ o) ≡ config_behind p (insert_pending b o)
insert_pending-framed p b o =
    by_test p (all_space b.pending_text) (on (record b { pending_text = [] }) (o ++ texts (here b) b.pending_text)) (none_pending (body_characters b.pending_text (on (record b { foster = true }) o))) _ _
    (one_more p (record b { pending_text = [] }) o _) (ap none_pending (body_characters-framed p b.pending_text (record b { foster = true }) o On))

head-framed : (p : List Op) (h : Option NodeId) (b : Open) (o : List Op) → push_head h b (p ++ o) ≡ config_behind p (push_head h b o)
head-framed p None b o = refl
head-framed p (Some i) b o = by_test p (room b) (on _ o) (config b o (Leave next.Deep)) _ _ refl refl

form-framed : (p : List Op) (nobody : Name → Bool) (b : Open) (o : List Op) → end_form nobody b (p ++ o) ≡ config_behind p (end_form nobody b o)
form-framed p nobody b o =
    by_test p (on_stack (is_word word.Template) b.stack) (on (record b { stack = form_closed_in_template nobody b.stack }) o)
    (on (record b { stack = form_closed nobody b.form b.stack; form = None }) o) _ _ refl refl

adopt_name-framed : (p : List Op) (name : Name) (b : Open) (o : List Op) → adopt_name name b (p ++ o) ≡ config_behind p (adopt_name name b o)
adopt_name-framed p (Known w) b o = refl
adopt_name-framed p (Other s text) b o = refl

anchor-framed : (p : List Op) (i : Option NodeId) (b : Open) (o : List Op) → adopt_anchor i b (p ++ o) ≡ config_behind p (adopt_anchor i b o)
anchor-framed p None b o = refl
anchor-framed p (Some i) b o = refl

foreign-framed : (p : List Op) (es : Option (List OpenElement)) (b : Open) (o : List Op) → end_foreign_with es b (p ++ o) ≡ config_behind p (end_foreign_with es b o)
foreign-framed p None b o = refl
foreign-framed p (Some es) b o = refl

script-framed : (p : List Op) (es : List OpenElement) (b : Open) (o : List Op) → stop_at_script es b (p ++ o) ≡ config_behind p (stop_at_script es b o)
script-framed p [] b o = refl
script-framed p (e ∷ es) b o = refl

step-framed : (p : List Op) (i : Instr) (t : Token) (b : Open) (o : List Op) → step i t b (p ++ o) ≡ config_behind p (step i t b o)
step-framed p ins.Insert t b o = by_tag p insert t b o (λ tag. insert-framed p (here b) tag b o)
step-framed p (ins.InsertA w) t b o = insert-framed p (here b) (tag_of w) b o
step-framed p ins.InsertRoot t b o = by_tag p insert_root t b o (λ tag. insert-framed p Page tag b o)
step-framed p ins.InsertRootA t b o = insert-framed p Page (tag_of word.Html) b o
step-framed p ins.InsertAndPop t b o = by_tag p void t b o (λ tag. void-framed p tag b o)
step-framed p (ins.InsertAndPopA w) t b o = void-framed p (tag_of w) b o
step-framed p (ins.InsertAndPopAs w) t b o = by_tag p (void_as w) t b o (λ tag. void-framed p (named w tag) b o)
step-framed p ins.InsertForeign t b o = by_tag p insert_foreign t b o (λ tag. insert-framed p (here b) (foreign_tag (space_or_html (adjusted b)) tag) b o)
step-framed p (ins.InsertIn s) t b o = by_tag p (insert_in s) t b o (λ tag. insert-framed p (here b) (tag_in s tag) b o)
step-framed p ins.InsertReplacement t b o = one_more p b o _
step-framed p ins.ForeignEnd t b o = by_tag p end_foreign t b o (λ tag. foreign-framed p (foreign_end (name_text tag.name) b.stack b.stack) b o)
step-framed p ins.InsertText t b o = text-framed p t b o
step-framed p ins.InsertComment t b o = comment-framed p (here b) t b o
step-framed p ins.CommentToPage t b o = comment-framed p Page t b o
step-framed p ins.CommentToRoot t b o = comment-framed p (end_of (first_open b.stack)) t b o
step-framed p ins.AppendDoctype t b o = doctype-framed p t b o
step-framed p ins.Reconstruct t b o = reconstruct-framed p b o
step-framed p ins.PushFormatting t b o = by_tag p enlist t b o (λ tag. refl)
step-framed p ins.PushHead t b o = head-framed p b.head b o
step-framed p ins.EndForm t b o = form-framed p (is_meant who.Nobody t) b o
step-framed p ins.AddToFirst t b o = by_tag p (add_attributes (first_open b.stack)) t b o (λ tag. attributes-framed p (first_open b.stack) tag b o)
step-framed p ins.AddToSecond t b o = by_tag p (add_attributes (second_open b.stack)) t b o (λ tag. attributes-framed p (second_open b.stack) tag b o)
step-framed p ins.DetachSecond t b o = detach-framed p (second_open b.stack) b o
step-framed p ins.AppendPending t b o = pending-framed p t b o
step-framed p ins.InsertPending t b o = insert_pending-framed p b o
step-framed p ins.Adopt t b o = by_tag p adopt_own t b o (λ tag. adopt_name-framed p tag.name b o)
step-framed p ins.AdoptAnchor t b o = anchor-framed p (entry_named (is_word word.A) b.formats) b o
step-framed p ins.StopAtScript t b o = script-framed p b.stack b o
step-framed p _ t b o = refl

turn-framed : (p : List Op) (t : Token) (b : Open) (o : List Op) (n : Flow) (i : Instr) → turn t (config b (p ++ o) n) i ≡ config_behind p (turn t (config b o n) i)
turn-framed p t b o On i = step-framed p i t b o
turn-framed p t b o Skip i = refl
turn-framed p t b o (Leave n) i = refl

-- ---- rows, and the rules that a token goes by

pub run-behind : (p : List Op) (t : Token) (c : Config) (row : List Instr) → run t (config_behind p c) row ≡ config_behind p (run t c row)
unfolding run
run-behind p t c [] = refl
run-behind p t c (i ∷ is) = ap (λ x. run t x is) (turn-framed p t c.open_state c.ops c.flow i) ∙ run-behind p t (turn t c i) is

pub by_mode-behind : (p : List Op) (m : Mode) (t : Token) (b : Open) (o : List Op) → by_mode m t b (p ++ o) ≡ answer_behind p (by_mode m t b o)
unfolding by_mode
by_mode-behind p m t b o = ap answer_of (run-behind p t (on b o) (row m t))

adopting-behind : (p : List Op) (w : Word) (h : Then) (t : Token) (b : Open) (o : List Op) → adopting w h t b (p ++ o) ≡ answer_behind p (adopting w h t b o)
unfolding adopting
adopting-behind p w h t b o =
    let a : Adopted = adopt w b o in
    ap (λ (x : Adopted). answer_of (run t (on x.open_state x.ops) (after_adopt h x.other))) (adopt-framed p w b o)
    ∙ ap answer_of (run-behind p t (on a.open_state a.ops) (after_adopt h a.other))

adoption-behind : (p : List Op) (t : Token) (b : Open) (o : List Op) (n : Next) → with_adoption t b (p ++ o) n ≡ answer_behind p (with_adoption t b o n)
adoption-behind p t b o (next.Adopt w h) = adopting-behind p w h t b o
adoption-behind p t b o next.Done = refl
adoption-behind p t b o next.Reprocess = refl
adoption-behind p t b o (next.UsingRules m) = refl
adoption-behind p t b o next.InBodyFostering = refl
adoption-behind p t b o (next.SwitchTokenizer r) = refl
adoption-behind p t b o (next.Script i) = refl
adoption-behind p t b o next.Deep = refl
adoption-behind p t b o next.Finished = refl

by_rules-behind : (p : List Op) (m : Mode) (t : Token) (b : Open) (o : List Op) → by_rules m t b (p ++ o) ≡ answer_behind p (by_rules m t b o)
by_rules-behind p m t b o =
    let a : Answer = by_mode m t b o in
    ap (λ (x : Answer). with_adoption t x.open_state x.ops x.next) (by_mode-behind p m t b o) ∙ adoption-behind p t a.open_state a.ops a.next

go_round-behind : (p : List Op) (more : List Op → Mode → Answer) (b : Open) (o : List Op) (r : Round)
    → ((m : Mode) → more (p ++ o) m ≡ answer_behind p (more o m)) → go_round (more (p ++ o)) b (p ++ o) r ≡ answer_behind p (go_round (more o) b o r)
go_round-behind p more b o (once m) h = h m
go_round-behind p more b o (stop x) h = refl

pub process-behind : (p : List Op) (n : ℕ) (m : Mode) (t : Token) (b : Open) (o : List Op) → process n m t b (p ++ o) ≡ answer_behind p (process n m t b o)
unfolding process
process-behind p zero m t b o = refl
process-behind p (suc n) m t b o =
    let a : Answer = by_rules m t b o in
    ap (λ (x : Answer). go_round (λ m'. process n m' t x.open_state x.ops) x.open_state x.ops (round_after t x.open_state x.next)) (by_rules-behind p m t b o)
    ∙ go_round-behind p (λ o' m'. process n m' t a.open_state o') a.open_state a.ops (round_after t a.open_state a.next) (λ m'. process-behind p n m' t a.open_state a.ops)

pub construct-behind : (p : List Op) (t : Token) (b : Open) (o : List Op) → construct t b (p ++ o) ≡ answer_behind p (construct t b o)
unfolding construct
construct-behind p t b o = ap settled_answer (either (b.skip_line_feed && is_line_feed t))
  where
    b' : Open
    b' = record b { skip_line_feed = false }

    either : (v : Bool) → (if v then answer b' (p ++ o) next.Done else process rounds (rules_for t b) t b' (p ++ o)) ≡ answer_behind p (if v then answer b' o next.Done else process rounds (rules_for t b) t b' o)
    either true = refl
    either false = process-behind p rounds (rules_for t b) t b' o

pub fostering-ends : FosteringEnds
unfolding construct
fostering-ends t b o = refl

-- ---- from no operations

pub run-framed : (t : Token) (b : Open) (o : List Op) (row : List Instr) → run t (on b o) row ≡ config_behind o (run t (on b []) row)
run-framed t b o row = ap (λ x. run t (on b x) row) (sym (append-nil o)) ∙ run-behind o t (on b []) row

pub by_mode-framed : (m : Mode) (t : Token) (b : Open) (o : List Op) → by_mode m t b o ≡ answer_behind o (by_mode m t b [])
by_mode-framed m t b o = ap (by_mode m t b) (sym (append-nil o)) ∙ by_mode-behind o m t b []

pub process-framed : (n : ℕ) (m : Mode) (t : Token) (b : Open) (o : List Op) → process n m t b o ≡ answer_behind o (process n m t b [])
process-framed n m t b o = ap (process n m t b) (sym (append-nil o)) ∙ process-behind o n m t b []

pub construct-framed : (t : Token) (b : Open) (o : List Op) → construct t b o ≡ answer_behind o (construct t b [])
construct-framed t b o = ap (construct t b) (sym (append-nil o)) ∙ construct-behind o t b []
