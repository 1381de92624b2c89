-- The adoption agency algorithm leaves no more elements open than there were: each clone stands for an element that is taken
-- off. So it needs no room on the stack.
use Rattle.std.proofs.Common.{◌≡◌, refl, ap, ◌∙◌, sym, true≢false, ℕ, zero, suc, ◌+◌, ◌-◌, ◌≤◌, Bool, true, false, not, ◌||◌, List, [], ◌∷◌, ◌++◌, length, Option, Some, None, arith}
use Rattle.std.proofs.lemmas.List.{length-append}
use Rattle.std.proofs.lemmas.Option.{none-some, same_Some}
use Rattle.std.specs.Prelude.{if◌then◌else◌}
use Rattle.html_types.specs.Operations.{same_id}
use Rattle.html_types.specs.declared.word.Word.{Word}
use Rattle.html_types.specs.declared.name.Name.{Name}
use Rattle.html_types.specs.declared.instruction.Group.TheVariants as group
use Rattle.html_types.specs.declared.instruction.Scope.TheVariants as scope
use Rattle.html_types.specs.declared.instruction.Turn.{Turn}
use Rattle.html_types.specs.declared.instruction.Turn.TheVariants.{More, Over, Other}
use Rattle.html_types.specs.declared.token.Tag.{Tag}
use Rattle.html_types.specs.declared.operation.NodeId.{NodeId}
use Rattle.html_types.specs.declared.operation.Op.{Op}
use Rattle.html_types.specs.declared.open.OpenElement.{OpenElement}
use Rattle.html_types.specs.declared.open.Open.{Open}
use Rattle.standard.specs.Elements.{is_word, is_one_of}
use Rattle.standard.specs.Foreign.{opened}
use Rattle.standard.specs.Stack.{is_open, current_id, pop, without_open, open_in_scope, below, from_on, through, above, with_below, block_below}
use Rattle.standard.specs.Formatting.{entry_named, tag_of_entry, without_entry}
use Rattle.standard.specs.Adoption.{Climb, climb_at, climb_clone, climb_drop, climb_one, climb, Turned, turned, joined, turn_with, turn_at, turn, turns, adopted, adopted_by, is_plain, adopt}
use Rattle.rule_laws.proofs.FreshnessOps.{same-itself}

-- ---- the stack taken apart

below-rest : (id : NodeId) (es : List OpenElement) → length (below id es) + length (from_on id es) ≡ length es
below-rest id [] = refl
below-rest id (e ∷ es) = by (same_id e.id id) (below-rest id es)
  where
    by : (v : Bool) → length (below id es) + length (from_on id es) ≡ length es → length (if v then [] else e ∷ below id es) + length (if v then e ∷ es else from_on id es) ≡ suc (length es)
    by true h = omega arith
    by false h = omega (arith, h)

through-rest : (id : NodeId) (es : List OpenElement) → length (through id es) + length (above id es) ≡ length es
through-rest id [] = refl
through-rest id (e ∷ es) = by (same_id e.id id) (through-rest id es)
  where
    by : (v : Bool) → length (through id es) + length (above id es) ≡ length es → length (if v then e ∷ [] else e ∷ through id es) + length (if v then es else above id es) ≡ suc (length es)
    by true h = omega arith
    by false h = omega (arith, h)

above-fewer : (id : NodeId) (es : List OpenElement) → length (above id es) ≤ length es
above-fewer id es = let h = through-rest id es in omega (arith, h)

pop-fewer : (es : List OpenElement) → length (pop es) ≤ length es
pop-fewer [] = omega arith
pop-fewer (e ∷ es) = omega arith

one-more : (id : NodeId) (e : OpenElement) (es : List OpenElement) → length (with_below id e es) ≡ suc (length es)
one-more id e es =
    let h = below-rest id es in
    let g : length (below id es ++ e ∷ from_on id es) ≡ length (below id es) + suc (length (from_on id es)) = length-append (below id es) (e ∷ from_on id es) in
    omega (arith, h, g)

one-fewer : (id : NodeId) (es : List OpenElement) → is_open id es ≡ true → suc (length (without_open (Some id) es)) ≡ length es
one-fewer id [] h = absurd (true≢false (sym h))
one-fewer id (e ∷ es) h = by (same_id e.id id) h (one-fewer id es)
  where
    by : (v : Bool) → (v || is_open id es) ≡ true → (is_open id es ≡ true → suc (length (without_open (Some id) es)) ≡ length es)
        → suc (length (if v then es else e ∷ without_open (Some id) es)) ≡ suc (length es)
    by true g rest = refl
    by false g rest = ap suc (rest g)

-- ---- the formatting element stays on the stack above the furthest block

open-from_on : (id : NodeId) (es : List OpenElement) → is_open id es ≡ true → is_open id (from_on id es) ≡ true
open-from_on id [] h = h
open-from_on id (e ∷ es) h = by (same_id e.id id) refl h (open-from_on id es)
  where
    by : (v : Bool) → same_id e.id id ≡ v → (v || is_open id es) ≡ true → (is_open id es ≡ true → is_open id (from_on id es) ≡ true)
        → is_open id (if v then e ∷ es else from_on id es) ≡ true
    by true p g rest = ap (λ v. v || is_open id es) p
    by false p g rest = rest g

open-behind : (id : NodeId) (es ds : List OpenElement) → is_open id ds ≡ true → is_open id (es ++ ds) ≡ true
open-behind id [] ds h = h
open-behind id (e ∷ es) ds h = ap (λ v. same_id e.id id || v) (open-behind id es ds h) ∙ or-true (same_id e.id id)
  where
    or-true : (v : Bool) → (v || true) ≡ true
    or-true true = refl
    or-true false = refl

-- the furthest block is what was found before, or the formatting element is above it
block-cases : (C : Type 0) (f block : NodeId) (found : Option NodeId) (es : List OpenElement) → block_below f found es ≡ Some block → is_open f es ≡ true
    → (found ≡ Some block → C) → (is_open f (above block es) ≡ true → C) → C
block-cases C f block found [] h o before there = absurd (true≢false (sym o))
block-cases C f block found (e ∷ es) h o before there = by (same_id e.id f) h o (block-cases C f block (if is_one_of group.Special e.name then Some e.id else found) es)
  where
    under : (v : Bool) → is_open f es ≡ true → is_open f (above block es) ≡ true → is_open f (if v then es else above block es) ≡ true
    under true p q = p
    under false p q = q

    at-block : is_open f es ≡ true → e.id ≡ block → is_open f (above block (e ∷ es)) ≡ true
    at-block p q = ap (λ v. is_open f (if v then es else above block es)) (ap (λ i. same_id e.id i) (sym q) ∙ same-itself e.id) ∙ p

    special : (s : Bool) → is_open f es ≡ true → (if s then Some e.id else found) ≡ Some block → C
    special true p q = there (at-block p (same_Some e.id block q))
    special false p q = before q

    by : (v : Bool) → (if v then found else block_below f (if is_one_of group.Special e.name then Some e.id else found) es) ≡ Some block → (v || is_open f es) ≡ true
        → (block_below f (if is_one_of group.Special e.name then Some e.id else found) es ≡ Some block → is_open f es ≡ true
        → ((if is_one_of group.Special e.name then Some e.id else found) ≡ Some block → C) → (is_open f (above block es) ≡ true → C) → C) → C
    by true p q rest = before p
    by false p q rest = rest p q (special (is_one_of group.Special e.name) q) (λ g. there (under (same_id e.id block) q g))

block-above : (f block : NodeId) (es : List OpenElement) → block_below f None es ≡ Some block → is_open f es ≡ true → is_open f (above block es) ≡ true
block-above f block es h o = block-cases (is_open f (above block es) ≡ true) f block None es h o (λ p. absurd (none-some block p)) (λ p. p)

-- ---- the algorithm

clone-kept : (id : NodeId) (tag : Option Tag) (c : Climb) → length (climb_clone id tag c).kept ≤ suc (length c.kept)
clone-kept id None c = omega arith
clone-kept id (Some tag) c =
    let g : length (c.kept ++ opened c.next tag ∷ []) ≡ length c.kept + 1 = length-append c.kept (opened c.next tag ∷ []) in
    omega (arith, g)

climb-kept : (left : ℕ) (es : List OpenElement) (c : Climb) → length (climb left es c).kept ≤ length c.kept + length es
climb-kept left [] c = omega arith
climb-kept left (e ∷ es) c =
    let fs = climb_drop left e.id c.formats in
    let h : length (climb_one left e.id c).kept ≤ suc (length c.kept) = clone-kept e.id (tag_of_entry e.id fs) (climb_at fs c.next c.ops c.kept c.last c.bookmark) in
    let g : length (climb (left - 1) es (climb_one left e.id c)).kept ≤ length (climb_one left e.id c).kept + length es = climb-kept (left - 1) es (climb_one left e.id c) in
    omega (arith, h, g)

joined-depth : (f block : NodeId) (st kept : List OpenElement) → length kept ≤ length (below f (above block st)) → length (joined f block st kept) ≤ length st
joined-depth f block st kept h =
    let a : length ((through block st ++ kept) ++ from_on f (above block st)) ≡ length (through block st ++ kept) + length (from_on f (above block st)) = length-append (through block st ++ kept) (from_on f (above block st)) in
    let b : length (through block st ++ kept) ≡ length (through block st) + length kept = length-append (through block st) kept in
    let c = through-rest block st in
    let d = below-rest f (above block st) in
    omega (arith, h, a, b, c, d)

pub turn_with_depth : (f : NodeId) (tag : Option Tag) (block : Option NodeId) (b : Open) (o : List Op) → block_below f None b.stack ≡ block → is_open f b.stack ≡ true
    → length (turn_with f tag block b o).open_state.stack ≤ length b.stack
turn_with_depth f None block b o h p = omega arith
turn_with_depth f (Some tag) None b o h p = above-fewer f b.stack
turn_with_depth f (Some tag) (Some block) b o h p =
    let es : List OpenElement = below f (above block b.stack) in
    let c : Climb = climb 3 es (climb_at b.formats b.next o [] block None) in
    let st : List OpenElement = joined f block b.stack c.kept in
    let clone : OpenElement = opened c.next tag in
    let from_none : length c.kept ≤ 0 + length es = climb-kept 3 es (climb_at b.formats b.next o [] block None) in
    let kept : length c.kept ≤ length es = omega (arith, from_none) in
    let fewer : length st ≤ length b.stack = joined-depth f block b.stack c.kept kept in
    let there : is_open f st ≡ true = open-behind f (through block b.stack ++ c.kept) (from_on f (above block b.stack)) (open-from_on f (above block b.stack) (block-above f block b.stack h p)) in
    let off : suc (length (without_open (Some f) st)) ≡ length st = one-fewer f st there in
    let more : length (with_below block clone (without_open (Some f) st)) ≡ suc (length (without_open (Some f) st)) = one-more block clone (without_open (Some f) st) in
    omega (arith, fewer, off, more)

turn_at-depth : (f : Option NodeId) (b : Open) (o : List Op) → length (turn_at f b o).open_state.stack ≤ length b.stack
turn_at-depth None b o = omega arith
turn_at-depth (Some f) b o = by (is_open f b.stack) refl (open_in_scope scope.Default f b.stack)
  where
    by : (v : Bool) → is_open f b.stack ≡ v → (w : Bool)
        → length (if not v then turned (record b { formats = without_entry f b.formats }) o Over
        else (if not w then turned b o Over else turn_with f (tag_of_entry f b.formats) (block_below f None b.stack) b o)).open_state.stack ≤ length b.stack
    by false p w = omega arith
    by true p false = omega arith
    by true p true = turn_with_depth f (tag_of_entry f b.formats) (block_below f None b.stack) b o refl p

pub turn_depth : (is : Name → Bool) (b : Open) (o : List Op) → length (turn is b o).open_state.stack ≤ length b.stack
turn_depth is b o = turn_at-depth (entry_named is b.formats) b o

turns-depth : (n : ℕ) (is : Name → Bool) (b : Open) (o : List Op) (t : Turn) → length (turns n is (turned b o t)).open_state.stack ≤ length b.stack
turns-depth zero is b o t = omega arith
turns-depth (suc n) is b o More =
    let c : Turned = turn is b o in
    let h : length c.open_state.stack ≤ length b.stack = turn_depth is b o in
    let g : length (turns n is c).open_state.stack ≤ length c.open_state.stack = turns-depth n is c.open_state c.ops c.turn in
    omega (arith, h, g)
turns-depth (suc n) is b o Over = omega arith
turns-depth (suc n) is b o Other = omega arith

pub adopt_depth : (w : Word) (b : Open) (o : List Op) → length (adopt w b o).open_state.stack ≤ length b.stack
unfolding adopt
adopt_depth w b o = by (is_plain (is_word w) (current_id b.stack) b)
  where
    by : (v : Bool) → length (if v then adopted (record b { stack = pop b.stack }) o false else adopted_by (turns 8 (is_word w) (turned b o More))).open_state.stack ≤ length b.stack
    by true = pop-fewer b.stack
    by false = turns-depth 8 (is_word w) b o More
