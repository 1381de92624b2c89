-- The adoption agency algorithm does the same whatever the ids are.
use Rattle.std.proofs.Common.{◌≡◌, refl, ap, ◌∙◌, sym, ℕ, zero, suc, ◌-◌, ◌==◌, Bool, false, not, ◌&&◌, List, [], ◌∷◌, ◌++◌, map, Option, Some, None}
use Rattle.std.proofs.lemmas.List.{map-append}
use Rattle.std.specs.Prelude.{option_map}
use Rattle.html_types.specs.Operations.{same_id, later}
use Rattle.html_types.specs.declared.word.Word.{Word}
use Rattle.html_types.specs.declared.name.Name.{Name}
use Rattle.html_types.specs.declared.instruction.Scope.TheVariants as scope
use Rattle.html_types.specs.declared.instruction.Turn.{Turn}
use Rattle.html_types.specs.declared.instruction.Turn.TheVariants.{More, Over, Other}
use Rattle.html_types.specs.declared.token.Tag.{Tag}
use Rattle.html_types.specs.declared.operation.NodeId.{NodeId}
use Rattle.html_types.specs.declared.operation.Place.TheVariants.{Inside}
use Rattle.html_types.specs.declared.operation.Op.{Op}
use Rattle.html_types.specs.declared.operation.Op.TheVariants as op
use Rattle.html_types.specs.declared.open.OpenElement.{OpenElement}
use Rattle.html_types.specs.declared.open.FormattingEntry.{FormattingEntry}
use Rattle.html_types.specs.declared.open.FormattingEntry.TheVariants.{Element}
use Rattle.html_types.specs.declared.open.Open.{Open}
use Rattle.standard.specs.Elements.{is_word}
use Rattle.standard.specs.Foreign.{opened}
use Rattle.standard.specs.Stack.{is_open, current_is, current_id, pop, without_open, open_in_scope, below, from_on, through, above, with_below, block_below, place_for}
use Rattle.standard.specs.Formatting.{entry_named, has_entry, tag_of_entry, without_entry, with_behind}
use Rattle.standard.specs.Adoption.{Climb, climb_at, bookmark_or, climb_clone, climb_drop, climb_one, climb, Turned, turned, put_at_bookmark, joined, rebuilt, turn_with, turn_at, turn, turns, Adopted, adopted, adopted_by, is_plain, adopt}
use Rattle.rule_laws.specs.Naming.{Renames, rename_ops, rename_element, rename_format, rename_open}
use Rattle.rule_laws.proofs.RenamingWalks.{of_two, current_is-renamed, current_id-renamed, pop-renamed, without_open-renamed, is_open-renamed, open_in_scope-renamed, below-renamed, from_on-renamed, through-renamed, above-renamed, with_below-renamed, block_below-renamed, place_for-renamed, entry_named-renamed, has_entry-renamed, tag_of_entry-renamed, without_entry-renamed, with_id-renamed, with_behind-renamed}
use Rattle.rule_laws.proofs.AdoptionGrowth.{climb_one-grows, climb-grows, turn-grows}

module _ (r : NodeId → NodeId) where
  abbrev stack_of : List OpenElement → List OpenElement
  stack_of es = map (rename_element r) es

  abbrev list_of : List FormattingEntry → List FormattingEntry
  list_of fs = map (rename_format r) fs

  abbrev rename_climb : Climb → Climb
  rename_climb c = climb_at (list_of c.formats) (r c.next) (rename_ops r c.ops) (stack_of c.kept) (r c.last) (option_map r c.bookmark)

  abbrev rename_turned : Turned → Turned
  rename_turned c = turned (rename_open r c.open_state) (rename_ops r c.ops) c.turn

  abbrev pub rename_adopted : Adopted → Adopted
  rename_adopted a = adopted (rename_open r a.open_state) (rename_ops r a.ops) a.other

  bookmark_or-renamed : (m : Option NodeId) (id : NodeId) → bookmark_or (option_map r m) (r id) ≡ option_map r (bookmark_or m id)
  bookmark_or-renamed None id = refl
  bookmark_or-renamed (Some m) id = refl

  same_climb : {x x' : List FormattingEntry} {n n' : NodeId} {o o' : List Op} {k k' : List OpenElement} {l l' : NodeId} {m m' : Option NodeId}
      → x ≡ x' → n ≡ n' → o ≡ o' → k ≡ k' → l ≡ l' → m ≡ m' → climb_at x n o k l m ≡ climb_at x' n' o' k' l' m'
  same_climb a b c d e g = cc

  same_turned : (b : Open) {es es' : List OpenElement} {fs fs' : List FormattingEntry} {n n' : NodeId} {o o' : List Op}
      → es ≡ es' → fs ≡ fs' → n ≡ n' → o ≡ o' → turned (record b { stack = es; formats = fs; next = n }) o More ≡ turned (record b { stack = es'; formats = fs'; next = n' }) o' More
  same_turned b p q s t = cc

  module _ (one : (id : NodeId) → Renames r id → Renames r (later 1 id)) where
    climb_clone-renamed : (id : NodeId) (tag : Option Tag) (c : Climb) → Renames r c.next → climb_clone (r id) tag (rename_climb c) ≡ rename_climb (climb_clone id tag c)
    climb_clone-renamed id None c n = refl
    climb_clone-renamed id (Some tag) c n =
        same_climb (with_id-renamed r n.apart id c.next c.formats) (sym (n.in_order 1)) (simp map-append) (sym (map-append (rename_element r) c.kept _)) refl (bookmark_or-renamed c.bookmark c.next)

    climb_drop-renamed : ((a b : NodeId) → same_id (r a) (r b) ≡ same_id a b) → (left : ℕ) (id : NodeId) (fs : List FormattingEntry) → climb_drop left (r id) (list_of fs) ≡ list_of (climb_drop left id fs)
    climb_drop-renamed apart left id fs = of_two list_of (left == 0) (left == 0) (without_entry id fs) fs _ _ refl (without_entry-renamed r apart id fs) refl

    climb_one-renamed : (left : ℕ) (id : NodeId) (c : Climb) → Renames r c.next → climb_one left (r id) (rename_climb c) ≡ rename_climb (climb_one left id c)
    climb_one-renamed left id c n =
        let fs : List FormattingEntry = climb_drop left id c.formats in
        ap (λ l. climb_clone (r id) (tag_of_entry (r id) l) (climb_at l (r c.next) (rename_ops r c.ops) (stack_of c.kept) (r c.last) (option_map r c.bookmark))) (climb_drop-renamed n.apart left id c.formats)
        ∙ (ap (λ t. climb_clone (r id) t (climb_at (list_of fs) (r c.next) (rename_ops r c.ops) (stack_of c.kept) (r c.last) (option_map r c.bookmark))) (tag_of_entry-renamed r n.apart id fs)
        ∙ climb_clone-renamed id (tag_of_entry id fs) (climb_at fs c.next c.ops c.kept c.last c.bookmark) n)

    climb-renamed : (left : ℕ) (es : List OpenElement) (c : Climb) → Renames r c.next → climb left (stack_of es) (rename_climb c) ≡ rename_climb (climb left es c)
    climb-renamed left [] c n = refl
    climb-renamed left (e ∷ es) c n =
        ap (climb (left - 1) (stack_of es)) (climb_one-renamed left e.id c n)
        ∙ climb-renamed (left - 1) es (climb_one left e.id c) (climb_one-grows (Renames r) one left e.id c n)

    put_at_bookmark-renamed : ((a b : NodeId) → same_id (r a) (r b) ≡ same_id a b) → (f clone : NodeId) (tag : Tag) (m : Option NodeId) (fs : List FormattingEntry)
        → put_at_bookmark (r f) (r clone) tag (option_map r m) (list_of fs) ≡ list_of (put_at_bookmark f clone tag m fs)
    put_at_bookmark-renamed apart f clone tag None fs = with_id-renamed r apart f clone fs
    put_at_bookmark-renamed apart f clone tag (Some m) fs =
        ap (without_entry (r f)) (with_behind-renamed r apart m (Element clone tag) fs) ∙ without_entry-renamed r apart f (with_behind m (Element clone tag) fs)

    joined-renamed : ((a b : NodeId) → same_id (r a) (r b) ≡ same_id a b) → (f block : NodeId) (st kept : List OpenElement)
        → joined (r f) (r block) (stack_of st) (stack_of kept) ≡ stack_of (joined f block st kept)
    joined-renamed apart f block st kept =
        ap (λ l. l ++ stack_of kept ++ from_on (r f) (above (r block) (stack_of st))) (through-renamed r apart block st)
        ∙ (ap (λ l. stack_of (through block st) ++ stack_of kept ++ l) (ap (from_on (r f)) (above-renamed r apart block st) ∙ from_on-renamed r apart f (above block st))
        ∙ sym (map-append (rename_element r) (through block st ++ kept) (from_on f (above block st)) ∙ ap (λ l. l ++ stack_of (from_on f (above block st))) (map-append (rename_element r) (through block st) kept)))

    rebuilt-renamed : (f : NodeId) (tag : Tag) (block : NodeId) (b : Open) (c : Climb) (st : List OpenElement) → Renames r c.next
        → rebuilt (r f) tag (r block) (rename_open r b) (rename_climb c) (stack_of st) ≡ rename_turned (rebuilt f tag block b c st)
    rebuilt-renamed f tag block b c st n =
        let clone : OpenElement = opened c.next tag in
        same_turned (rename_open r b)
        (ap (with_below (r block) (rename_element r clone)) (without_open-renamed r n.apart (Some f) st) ∙ with_below-renamed r n.apart block clone (without_open (Some f) st))
        (put_at_bookmark-renamed n.apart f c.next tag c.bookmark c.formats)
        (sym (n.in_order 1))
        (ap (λ at. rename_ops r c.ops ++ op.Put (r c.last) at ∷ [] ++ op.Make (r c.next) tag.name tag.attributes ∷ [] ++ op.MoveChildren (r block) (r c.next) ∷ [] ++ op.Put (r c.next) (Inside (r block)) ∷ [])
        (ap (λ l. place_for b.foster l (stack_of st)) (above-renamed r n.apart f st) ∙ place_for-renamed r b.foster (above f st) st)
        ∙ simp map-append)

    turn_with-renamed : (f : NodeId) (tag : Option Tag) (block : Option NodeId) (b : Open) (o : List Op) → Renames r b.next
        → turn_with (r f) tag (option_map r block) (rename_open r b) (rename_ops r o) ≡ rename_turned (turn_with f tag block b o)
    turn_with-renamed f None block b o n = refl
    turn_with-renamed f (Some tag) None b o n =
        ap (λ l. turned (record (rename_open r b) { stack = l; formats = without_entry (r f) (list_of b.formats) }) (rename_ops r o) Over) (above-renamed r n.apart f b.stack)
        ∙ ap (λ l. turned (record (rename_open r b) { stack = stack_of (above f b.stack); formats = l }) (rename_ops r o) Over) (without_entry-renamed r n.apart f b.formats)
    turn_with-renamed f (Some tag) (Some block) b o n =
        let start : Climb = climb_at b.formats b.next o [] block None in
        let es : List OpenElement = below f (above block b.stack) in
        let c : Climb = climb 3 es start in
        ap (λ l. let c' = climb 3 l (rename_climb start) in rebuilt (r f) tag (r block) (rename_open r b) c' (joined (r f) (r block) (stack_of b.stack) c'.kept))
        (ap (below (r f)) (above-renamed r n.apart block b.stack) ∙ below-renamed r n.apart f (above block b.stack))
        ∙ (ap (λ (c' : Climb). rebuilt (r f) tag (r block) (rename_open r b) c' (joined (r f) (r block) (stack_of b.stack) c'.kept)) (climb-renamed 3 es start n)
        ∙ (ap (rebuilt (r f) tag (r block) (rename_open r b) (rename_climb c)) (joined-renamed n.apart f block b.stack c.kept)
        ∙ rebuilt-renamed f tag block b c (joined f block b.stack c.kept) (climb-grows (Renames r) one 3 es start n)))

    turn_at-renamed : (f : Option NodeId) (b : Open) (o : List Op) → Renames r b.next → turn_at (option_map r f) (rename_open r b) (rename_ops r o) ≡ rename_turned (turn_at f b o)
    turn_at-renamed None b o n = refl
    turn_at-renamed (Some f) b o n =
        let tag : Option Tag = tag_of_entry f b.formats in
        let block : Option NodeId = block_below f None b.stack in
        of_two rename_turned (not (is_open f b.stack)) (not (is_open (r f) (stack_of b.stack))) (turned (record b { formats = without_entry f b.formats }) o Over) _ _ _
        (ap not (is_open-renamed r n.apart f b.stack))
        (ap (λ l. turned (record (rename_open r b) { formats = l }) (rename_ops r o) Over) (without_entry-renamed r n.apart f b.formats))
        (of_two rename_turned (not (open_in_scope scope.Default f b.stack)) (not (open_in_scope scope.Default (r f) (stack_of b.stack))) (turned b o Over) (turn_with f tag block b o) _ _
        (ap not (open_in_scope-renamed r n.apart scope.Default f b.stack)) refl
        (ap (λ t. turn_with (r f) t (block_below (r f) None (stack_of b.stack)) (rename_open r b) (rename_ops r o)) (tag_of_entry-renamed r n.apart f b.formats)
        ∙ (ap (λ k. turn_with (r f) tag k (rename_open r b) (rename_ops r o)) (block_below-renamed r n.apart f None b.stack) ∙ turn_with-renamed f tag block b o n)))

    turns-renamed : (k : ℕ) (is : Name → Bool) (b : Open) (o : List Op) (t : Turn) → Renames r b.next → turns k is (rename_turned (turned b o t)) ≡ rename_turned (turns k is (turned b o t))
    turns-renamed zero is b o t n = refl
    turns-renamed (suc k) is b o More n =
        let c : Turned = turn is b o in
        ap (λ f. turns k is (turn_at f (rename_open r b) (rename_ops r o))) (entry_named-renamed r is b.formats)
        ∙ (ap (turns k is) (turn_at-renamed (entry_named is b.formats) b o n) ∙ turns-renamed k is c.open_state c.ops c.turn (turn-grows (Renames r) one is b o n))
    turns-renamed (suc k) is b o Over n = refl
    turns-renamed (suc k) is b o Other n = refl

    is_plain-renamed : ((a b : NodeId) → same_id (r a) (r b) ≡ same_id a b) → (is : Name → Bool) (id : Option NodeId) (b : Open) → is_plain is (option_map r id) (rename_open r b) ≡ is_plain is id b
    is_plain-renamed apart is None b = refl
    is_plain-renamed apart is (Some id) b =
        ap (λ v. v && not (has_entry (r id) (list_of b.formats))) (current_is-renamed r is b.stack) ∙ ap (λ v. current_is is b.stack && not v) (has_entry-renamed r apart id b.formats)

    pub adopt-renamed : (w : Word) (b : Open) (o : List Op) → Renames r b.next → adopt w (rename_open r b) (rename_ops r o) ≡ rename_adopted (adopt w b o)
    unfolding adopt
    adopt-renamed w b o n =
        of_two rename_adopted (is_plain (is_word w) (current_id b.stack) b) (is_plain (is_word w) (current_id (stack_of b.stack)) (rename_open r b))
        (adopted (record b { stack = pop b.stack }) o false) (adopted_by (turns 8 (is_word w) (turned b o More))) _ _
        (ap (λ i. is_plain (is_word w) i (rename_open r b)) (current_id-renamed r b.stack) ∙ is_plain-renamed n.apart (is_word w) (current_id b.stack) b)
        (ap (λ l. adopted (record (rename_open r b) { stack = l }) (rename_ops r o) false) (pop-renamed r b.stack))
        (ap adopted_by (turns-renamed 8 (is_word w) b o More n))
