-- The adoption agency algorithm asks for the same operations behind any others.
use Rattle.std.proofs.Common.{◌≡◌, refl, ap, ◌∙◌, ℕ, zero, suc, ◌-◌, Bool, true, false, not, List, [], ◌∷◌, ◌++◌, Option, Some, None, append_assoc}
use Rattle.std.specs.Prelude.{if◌then◌else◌}
use Rattle.html_types.specs.Operations.{later}
use Rattle.html_types.specs.declared.word.Word.{Word}
use Rattle.html_types.specs.declared.name.Name.{Name}
use Rattle.html_types.specs.declared.instruction.Scope.TheVariants as scope
use Rattle.html_types.specs.declared.instruction.Turn.{Turn}
use Rattle.html_types.specs.declared.instruction.Turn.TheVariants.{More, Over, Other}
use Rattle.html_types.specs.declared.token.Tag.{Tag}
use Rattle.html_types.specs.declared.operation.NodeId.{NodeId}
use Rattle.html_types.specs.declared.operation.Op.{Op}
use Rattle.html_types.specs.declared.open.OpenElement.{OpenElement}
use Rattle.html_types.specs.declared.open.Open.{Open}
use Rattle.standard.specs.Elements.{is_word}
use Rattle.standard.specs.Foreign.{opened}
use Rattle.standard.specs.Stack.{is_open, current_id, pop, open_in_scope, below, above, block_below}
use Rattle.standard.specs.Formatting.{entry_named, tag_of_entry, without_entry, with_id}
use Rattle.standard.specs.Adoption.{Climb, climb_at, bookmark_or, climb_clone, climb_drop, climb_one, climb, Turned, turned, joined, rebuilt, turn_with, turn_at, turn, turns, Adopted, adopted, adopted_by, is_plain, adopt}

abbrev climb_behind : List Op → Climb → Climb
climb_behind p c = climb_at c.formats c.next (p ++ c.ops) c.kept c.last c.bookmark

abbrev turned_behind : List Op → Turned → Turned
turned_behind p c = turned c.open_state (p ++ c.ops) c.turn

abbrev pub adopted_behind : List Op → Adopted → Adopted
adopted_behind p a = adopted a.open_state (p ++ a.ops) a.other

by_test : {A : Type 0} (g : A → A) (v : Bool) (x y x' y' : A) → x' ≡ g x → y' ≡ g y → (if v then x' else y') ≡ g (if v then x else y)
by_test g true x y x' y' e h = e
by_test g false x y x' y' e h = h

climb_clone-framed : (p : List Op) (id : NodeId) (tag : Option Tag) (c : Climb) → climb_clone id tag (climb_behind p c) ≡ climb_behind p (climb_clone id tag c)
climb_clone-framed p id None c = refl
climb_clone-framed p id (Some tag) c =
    ap (λ o. climb_at (with_id id c.next c.formats) (later 1 c.next) o (c.kept ++ opened c.next tag ∷ []) c.next (bookmark_or c.bookmark c.next)) (simp append_assoc)

climb-framed : (p : List Op) (left : ℕ) (es : List OpenElement) (c : Climb) → climb left es (climb_behind p c) ≡ climb_behind p (climb left es c)
climb-framed p left [] c = refl
climb-framed p left (e ∷ es) c =
    let fs = climb_drop left e.id c.formats in
    ap (climb (left - 1) es) (climb_clone-framed p e.id (tag_of_entry e.id fs) (climb_at fs c.next c.ops c.kept c.last c.bookmark))
    ∙ climb-framed p (left - 1) es (climb_one left e.id c)

rebuilt-framed : (p : List Op) (f : NodeId) (tag : Tag) (block : NodeId) (b : Open) (c : Climb) (st : List OpenElement)
    → rebuilt f tag block b (climb_behind p c) st ≡ turned_behind p (rebuilt f tag block b c st)
rebuilt-framed p f tag block b c st = ap (λ o. turned (rebuilt f tag block b c st).open_state o More) (simp append_assoc)

turn_with-framed : (p : List Op) (f : NodeId) (tag : Option Tag) (block : Option NodeId) (b : Open) (o : List Op) → turn_with f tag block b (p ++ o) ≡ turned_behind p (turn_with f tag block b o)
turn_with-framed p f None block b o = refl
turn_with-framed p f (Some tag) None b o = refl
turn_with-framed p f (Some tag) (Some block) b o =
    let start : Climb = climb_at b.formats b.next o [] block None in
    let es : List OpenElement = below f (above block b.stack) in
    let c : Climb = climb 3 es start in
    ap (λ (x : Climb). rebuilt f tag block b x (joined f block b.stack x.kept)) (climb-framed p 3 es start) ∙ rebuilt-framed p f tag block b c (joined f block b.stack c.kept)

turn_at-framed : (p : List Op) (f : Option NodeId) (b : Open) (o : List Op) → turn_at f b (p ++ o) ≡ turned_behind p (turn_at f b o)
turn_at-framed p None b o = refl
turn_at-framed p (Some f) b o =
    by_test (turned_behind p) (not (is_open f b.stack)) (turned (record b { formats = without_entry f b.formats }) o Over) _ _ _ refl
    (by_test (turned_behind p) (not (open_in_scope scope.Default f b.stack)) (turned b o Over) (turn_with f (tag_of_entry f b.formats) (block_below f None b.stack) b o) _ _ refl
    (turn_with-framed p f (tag_of_entry f b.formats) (block_below f None b.stack) b o))

turns-framed : (p : List Op) (n : ℕ) (is : Name → Bool) (b : Open) (o : List Op) (t : Turn) → turns n is (turned b (p ++ o) t) ≡ turned_behind p (turns n is (turned b o t))
turns-framed p zero is b o t = refl
turns-framed p (suc n) is b o More =
    let c : Turned = turn is b o in
    ap (turns n is) (turn_at-framed p (entry_named is b.formats) b o) ∙ turns-framed p n is c.open_state c.ops c.turn
turns-framed p (suc n) is b o Over = refl
turns-framed p (suc n) is b o Other = refl

pub adopt-framed : (p : List Op) (w : Word) (b : Open) (o : List Op) → adopt w b (p ++ o) ≡ adopted_behind p (adopt w b o)
unfolding adopt
adopt-framed p w b o =
    by_test (adopted_behind p) (is_plain (is_word w) (current_id b.stack) b) (adopted (record b { stack = pop b.stack }) o false) (adopted_by (turns 8 (is_word w) (turned b o More))) _ _ refl
    (ap adopted_by (turns-framed p 8 (is_word w) b o More))
