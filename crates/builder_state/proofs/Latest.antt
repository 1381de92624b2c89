-- Where the current node is the element of the latest entry, the adoption agency algorithm pops it and takes its entry off.
use Rattle.std.proofs.Common.{◌≡◌, Bool, true, false, ◌&&◌, ◌||◌, List, [], ◌∷◌, ◌++◌, refl, sym, ap, ◌∙◌, arith}
use Rattle.std.specs.Prelude.{not, if◌then◌else◌, Option, Some, None, drop}
use Rattle.html_types.specs.Operations.{same_id}
use Rattle.html_types.specs.declared.word.Word.{Word}
use Rattle.html_types.specs.declared.name.Name.{Name}
use Rattle.html_types.specs.declared.token.Tag.{Tag}
use Rattle.html_types.specs.declared.operation.NodeId.{NodeId}
use Rattle.html_types.specs.declared.operation.Op.{Op}
use Rattle.html_types.specs.declared.open.OpenElement.{OpenElement}
use Rattle.html_types.specs.declared.open.FormattingEntry.{FormattingEntry}
use Rattle.html_types.specs.declared.open.FormattingEntry.TheVariants.{Marker, Element}
use Rattle.html_types.specs.declared.open.Open.{Open}
use Rattle.html_types.specs.declared.instruction.Turn.TheVariants.{More, Over}
use Rattle.html_types.specs.declared.instruction.Scope.TheVariants as scope
use Rattle.html_types.specs.declared.instruction.Group.TheVariants as group
use Rattle.standard.specs.Elements.{is_word, is_one_of, ends_scope}
use Rattle.standard.specs.Formatting.{has_entry, entry_named, tag_of_entry, without_entry, later_than, entry_on, before_first}
use Rattle.standard.specs.Stack.{is_open, open_in_scope, block_below, above}
use Rattle.standard.specs.Adoption.{Turned, turned, turn_with, turn_at, turn, turns, adopted, adopted_by, is_plain, adopt_with, adopt}
use Rattle.builder_state.specs.Latest.{is_latest, current_is_latest}

and-false : (x : Bool) → (x && false) ≡ false
and-false true = refl
and-false false = refl

and-left : (x y : Bool) → (x && y) ≡ true → x ≡ true
and-left true y e = refl
and-left false y e = absurd (cc)

and-right : (x y : Bool) → (x && y) ≡ true → y ≡ true
and-right true y e = e
and-right false y e = absurd (cc)

at_turn : (is : Name → Bool) (b : Open) (o : List Op) (e : OpenElement) (es : List OpenElement) (tag : Tag) (fs : List FormattingEntry) → same_id e.id e.id ≡ true → is tag.name ≡ true
    → turn is (record b { stack = e ∷ es; formats = Element e.id tag ∷ fs }) o ≡ turned (record b { stack = es; formats = fs }) o Over
at_turn is b o e es tag fs own named =
    let c : Open = record b { stack = e ∷ es; formats = Element e.id tag ∷ fs } in
    let entry : entry_named is c.formats ≡ Some e.id = ap (λ (v : Bool). if v then Some e.id else entry_named is fs) named in
    let stands : is_open e.id c.stack ≡ true = ap (λ (v : Bool). v || is_open e.id es) own in
    let in_scope : open_in_scope scope.Default e.id c.stack ≡ true =
    ap (λ (v : Bool). if v then true else (if ends_scope scope.Default e.name then false else open_in_scope scope.Default e.id es)) own in
    let tagged : tag_of_entry e.id c.formats ≡ Some tag = ap (λ (v : Bool). if v then Some tag else tag_of_entry e.id fs) own in
    let no_block : block_below e.id None c.stack ≡ None =
    ap (λ (v : Bool). if v then None else block_below e.id (if is_one_of group.Special e.name then Some e.id else None) es) own in
    let popped : above e.id c.stack ≡ es = ap (λ (v : Bool). if v then es else above e.id es) own in
    let taken : without_entry e.id c.formats ≡ fs =
    ap (λ (v : Bool). (if v then [] else Element e.id tag ∷ later_than e.id fs) ++ before_first (if v then Element e.id tag ∷ fs else entry_on e.id fs)) own in
    let closing : Open → Turned = λ d. turned d o Over in
    ap (λ (f : Option NodeId). turn_at f c o) entry
    ∙ ap (λ (v : Bool). if not v then turned (record c { formats = without_entry e.id c.formats }) o Over
    else (if not (open_in_scope scope.Default e.id c.stack) then turned c o Over else turn_with e.id (tag_of_entry e.id c.formats) (block_below e.id None c.stack) c o)) stands
    ∙ ap (λ (v : Bool). if not v then turned c o Over else turn_with e.id (tag_of_entry e.id c.formats) (block_below e.id None c.stack) c o) in_scope
    ∙ ap (λ (t : Option Tag). turn_with e.id t (block_below e.id None c.stack) c o) tagged
    ∙ ap (λ (k : Option NodeId). turn_with e.id (Some tag) k c o) no_block
    ∙ ap (λ (st : List OpenElement). closing (record c { stack = st; formats = without_entry e.id c.formats })) popped
    ∙ ap (λ (l : List FormattingEntry). closing (record c { stack = es; formats = l })) taken

not_plain : (is : Name → Bool) (b : Open) (e : OpenElement) (es : List OpenElement) (tag : Tag) (fs : List FormattingEntry) → same_id e.id e.id ≡ true
    → is_plain is (Some e.id) (record b { stack = e ∷ es; formats = Element e.id tag ∷ fs }) ≡ false
not_plain is b e es tag fs own = ap (λ (v : Bool). is e.name && not (v || has_entry e.id fs)) own ∙ and-false (is e.name)

by_is : (is : Name → Bool) (b : Open) (o : List Op) (e : OpenElement) (es : List OpenElement) (tag : Tag) (fs : List FormattingEntry) → same_id e.id e.id ≡ true → is tag.name ≡ true
    → adopt_with is (record b { stack = e ∷ es; formats = Element e.id tag ∷ fs }) o ≡ adopted (record b { stack = es; formats = fs }) o false
by_is is b o e es tag fs own named =
    let c : Open = record b { stack = e ∷ es; formats = Element e.id tag ∷ fs } in
    ap (λ (v : Bool). if v then adopted (record c { stack = es }) o false else adopted_by (turns 8 is (turned c o More))) (not_plain is b e es tag fs own)
    ∙ ap (λ (t : Turned). adopted_by (turns 7 is t)) (at_turn is b o e es tag fs own named)

same_parts : (a b : NodeId) → a.realm ≡ b.realm → a.n ≡ b.n → a ≡ b
same_parts a b r n = ap (λ k. record { realm = k; n = a.n }) r ∙ ap (λ k. record { realm = b.realm; n = k }) n

same : (a b : NodeId) → same_id a b ≡ true → a ≡ b
same a b h = same_parts a b (grind (arith, h)) (grind (arith, h))

itself : (a : NodeId) → same_id a a ≡ true
itself a = grind arith

of_entry : (w : Word) (b : Open) (o : List Op) (e : OpenElement) (es : List OpenElement) (id : NodeId) (tag : Tag) (fs : List FormattingEntry) → e.id ≡ id → is_word w tag.name ≡ true
    → adopt w (record b { stack = e ∷ es; formats = Element id tag ∷ fs }) o ≡ adopted (record b { stack = es; formats = fs }) o false
unfolding adopt
of_entry w b o e es id tag fs is named =
    ap (λ (i : NodeId). adopt_with (is_word w) (record b { stack = e ∷ es; formats = Element i tag ∷ fs }) o) (sym is)
    ∙ by_is (is_word w) b o e es tag fs (itself e.id) named

of_lists : (w : Word) (b : Open) (o : List Op) (e : OpenElement) (es : List OpenElement) (f : FormattingEntry) (fs : List FormattingEntry) → is_latest w e (f ∷ fs) ≡ true
    → adopt w (record b { stack = e ∷ es; formats = f ∷ fs }) o ≡ adopted (record b { stack = es; formats = fs }) o false
of_lists w b o e es Marker fs h = absurd (cc)
of_lists w b o e es (Element id tag) fs h =
    of_entry w b o e es id tag fs (same e.id id (and-left (same_id e.id id) (is_word w tag.name) h)) (and-right (same_id e.id id) (is_word w tag.name) h)

closed : (w : Word) (b : Open) (o : List Op) (e : OpenElement) (es : List OpenElement) (f : FormattingEntry) (fs : List FormattingEntry) → b.stack ≡ e ∷ es → b.formats ≡ f ∷ fs
    → current_is_latest w b.stack b.formats ≡ true → adopted (record b { stack = es; formats = fs }) o false ≡ adopt w b o
closed w b o e es f fs s t h =
    let h' : is_latest w e (f ∷ fs) ≡ true = sym (ap (λ st. current_is_latest w st b.formats) s ∙ ap (λ l. is_latest w e l) t) ∙ h in
    sym (ap (λ (st : List OpenElement). adopt w (record b { stack = st }) o) s ∙ ap (λ (l : List FormattingEntry). adopt w (record b { stack = e ∷ es; formats = l }) o) t ∙ of_lists w b o e es f fs h')

of_both : (w : Word) (b : Open) (o : List Op) (es : List OpenElement) (fs : List FormattingEntry) → b.stack ≡ es → b.formats ≡ fs
    → current_is_latest w es fs ≡ true → adopted (record b { stack = drop 1 es; formats = drop 1 fs }) o false ≡ adopt w b o
of_both w b o [] fs s t h = absurd (cc)
of_both w b o (e ∷ es) [] s t h = absurd (cc)
of_both w b o (e ∷ es) (f ∷ fs) s t h = closed w b o e es f fs s t (ap (λ st. current_is_latest w st b.formats) s ∙ ap (λ l. is_latest w e l) t ∙ h)

-- the same of what is left of both
pub closed_by : (w : Word) (b : Open) (o : List Op) → current_is_latest w b.stack b.formats ≡ true
    → adopted (record b { stack = drop 1 b.stack; formats = drop 1 b.formats }) o false ≡ adopt w b o
closed_by w b o h = of_both w b o b.stack b.formats refl refl h
