-- What taking elements off the stack, and putting others on it, does to the names that count, and to what is said of ids.
use Rattle.std.proofs.Common.{◌≡◌, ◌⊎◌, inl, inr, refl, sym, ap, subst, ◌∙◌, true≢false, suc, Bool, true, false, not, ◌&&◌, ◌||◌, List, [], ◌∷◌, ◌++◌, Option, Some, None}
use Rattle.std.specs.Prelude.{if◌then◌else◌}
use Rattle.html_types.proofs.WordLemmas.{word_decides}
use Rattle.html_types.specs.Operations.{same_id}
use Rattle.html_types.specs.Words.{same_word}
use Rattle.html_types.specs.declared.word.Word.{Word}
use Rattle.html_types.specs.declared.word.Word.TheVariants as word
use Rattle.html_types.specs.declared.name.Name.{Name}
use Rattle.html_types.specs.declared.name.Name.TheVariants.{Known, Other}
use Rattle.html_types.specs.declared.operation.NodeId.{NodeId}
use Rattle.html_types.specs.declared.open.OpenElement.{OpenElement}
use Rattle.html_types.specs.declared.open.FormattingEntry.{FormattingEntry}
use Rattle.html_types.specs.declared.open.FormattingEntry.TheVariants.{Marker, Element}
use Rattle.standard.specs.Elements.{is_word}
use Rattle.standard.specs.Stack.{is_open}
use Rattle.stack_laws.specs.Grounded.{is_vital, is_guard, is_formatting, is_known, is_special, with_name, templates_among, has_no, is_placed, is_orderly, reaches, is_rooted, is_loose, is_loose_if_any, is_apart, are_apart, are_listed}
use Rattle.rule_laws.proofs.Calm.{split}
use Rattle.rule_laws.proofs.Takes.{both}
use Rattle.rule_laws.proofs.FreshnessDocs.{same-true}
use Rattle.rule_laws.proofs.FreshnessOps.{same-itself}
use Rattle.rule_laws.proofs.Thinned.{Thinned}

-- ---- tests

pub not-true : (v : Bool) → not v ≡ true → v ≡ false
not-true true e = sym e
not-true false e = refl

pub not-false : (v : Bool) → v ≡ false → not v ≡ true
not-false true e = sym e
not-false false e = refl

pub either-false : (v w : Bool) → v || w ≡ false → (v ≡ false) × (w ≡ false)
either-false true w e = absurd (true≢false e)
either-false false w e = (refl, e)

pub neither : (v w : Bool) → v ≡ false → w ≡ false → v || w ≡ false
neither true w e f = absurd (true≢false e)
neither false w e f = f

pub and-false : (v w : Bool) → v ≡ true → v && w ≡ false → w ≡ false
and-false true w e f = f
and-false false w e f = absurd (true≢false (sym e))

pub not-both : (v w : Bool) → w ≡ false → v && w ≡ false
not-both true w e = e
not-both false w e = refl

pub to-true : (v : Bool) → (v ≡ false → ⊥) → v ≡ true
to-true true h = refl
to-true false h = absurd (h refl)

pub to-false : (v : Bool) → (v ≡ true → ⊥) → v ≡ false
to-false true h = absurd (h refl)
to-false false h = refl

-- a word of which a test says yes is none of which it says no
pub differs : (f : Word → Bool) (w u : Word) → f w ≡ true → f u ≡ false → same_word w u ≡ false
differs f w u e g = to-false (same_word w u) (λ s. true≢false (sym e ∙ (ap f ((word_decides w u).0 s) ∙ g)))

pub turned-ids : (a b : NodeId) → same_id a b ≡ false → same_id b a ≡ false
turned-ids a b e = to-false (same_id b a) (λ s. true≢false (sym (subst (λ c. same_id a c ≡ true) (sym (same-true b a s)) (same-itself a)) ∙ e))

-- ---- elements popped

-- those that are left, where of each that is popped the test says yes
abbrev pub Drops : (Name → Bool) → List OpenElement → List OpenElement → Type 0
Drops q [] ds = ds ≡ []
Drops q (e ∷ es) ds = (ds ≡ e ∷ es) ⊎ ((q e.name ≡ true) × Drops q es ds)

pub drops-none : (q : Name → Bool) (es : List OpenElement) → Drops q es es
drops-none q [] = refl
drops-none q (e ∷ es) = inl refl

pub drops-more : (q r : Name → Bool) → ((n : Name) → q n ≡ true → r n ≡ true) → (es ds : List OpenElement) → Drops q es ds → Drops r es ds
drops-more q r h [] ds d = d
drops-more q r h (e ∷ es) ds (inl d) = inl d
drops-more q r h (e ∷ es) ds (inr d) = inr (h e.name d.0, drops-more q r h es ds d.1)

pub drops-trans : (q : Name → Bool) (es ds cs : List OpenElement) → Drops q es ds → Drops q ds cs → Drops q es cs
drops-trans q [] ds cs d k = subst (λ x. Drops q x cs) d k
drops-trans q (e ∷ es) ds cs (inl d) k = subst (λ x. Drops q x cs) d k
drops-trans q (e ∷ es) ds cs (inr d) k = inr (d.0, drops-trans q es ds cs d.1 k)

-- what goes from each stack to the one that is left when its current node is popped goes on
pub through-drops : (P : List OpenElement → Type 0) (q : Name → Bool) → ((e : OpenElement) (es : List OpenElement) → q e.name ≡ true → P (e ∷ es) → P es)
    → (es ds : List OpenElement) → Drops q es ds → P es → P ds
through-drops P q one [] ds d p = subst P (sym d) p
through-drops P q one (e ∷ es) ds (inl d) p = subst P (sym d) p
through-drops P q one (e ∷ es) ds (inr d) p = through-drops P q one es ds d.1 (one e es d.0 p)

-- names: not these words
abbrev pub is_not : (Word → Bool) → Name → Bool
is_not p (Known w) = not (p w)
is_not p (Other s t) = true

if-true : {A : Type 0} (v : Bool) (x y : A) → v ≡ true → (if v then x else y) ≡ x
if-true true x y e = refl
if-true false x y e = absurd (true≢false (sym e))

if-false : {A : Type 0} (v : Bool) (x y : A) → v ≡ false → (if v then x else y) ≡ y
if-false true x y e = absurd (true≢false e)
if-false false x y e = refl

-- a name that isn't a word's leaves the words as they are, or adds another one
pub by-name : (P : List Word → Type 0) (n : Name) (ws : List Word) → (n' : Name → Type 0) → n' n → ((w : Word) → n' (Known w) → is_guard w ≡ true → P (w ∷ ws)) → P ws → P (with_name n ws)
by-name P (Other s t) ws n' h k p = p
by-name P (Known w) ws n' h k p = by (is_guard w) refl
  where
    by : (v : Bool) → is_guard w ≡ v → P (if v then w ∷ ws else ws)
    by true e = k w h e
    by false e = p

pub orderly-left : (n : Name) (ws : List Word) → is_orderly (with_name n ws) ≡ true → is_orderly ws ≡ true
orderly-left (Other s t) ws h = h
orderly-left (Known w) ws h = by (is_guard w) h
  where
    by : (v : Bool) → is_orderly (if v then w ∷ ws else ws) ≡ true → is_orderly ws ≡ true
    by true g = (split (is_placed w ws) (is_orderly ws) g).1
    by false g = g

pub has_no-left : (u : Word) (n : Name) (ws : List Word) → has_no u (with_name n ws) ≡ true → has_no u ws ≡ true
has_no-left u (Other s t) ws h = h
has_no-left u (Known w) ws h = by (is_guard w) h
  where
    by : (v : Bool) → has_no u (if v then w ∷ ws else ws) ≡ true → has_no u ws ≡ true
    by true g = (split (not (same_word w u)) (has_no u ws) g).1
    by false g = g

pub has_no-kept : (u : Word) (n : Name) (ws : List Word) → is_word u n ≡ false → has_no u (with_name n ws) ≡ has_no u ws
has_no-kept u (Other s t) ws h = refl
has_no-kept u (Known w) ws h = by (is_guard w)
  where
    by : (v : Bool) → has_no u (if v then w ∷ ws else ws) ≡ has_no u ws
    by true = ap (λ x. not x && has_no u ws) h
    by false = refl

pub templates-kept : (n : Name) (ws : List Word) → is_word word.Template n ≡ false → templates_among (with_name n ws) ≡ templates_among ws
templates-kept (Other s t) ws h = refl
templates-kept (Known w) ws h = by (is_guard w)
  where
    by : (v : Bool) → templates_among (if v then w ∷ ws else ws) ≡ templates_among ws
    by true = if-false (same_word w word.Template) (suc (templates_among ws)) (templates_among ws) h
    by false = refl

-- one that is neither sought nor vital
pub reaches-left : (p : Word → Bool) (n : Name) (ws : List Word) → is_known p n ≡ false → is_known is_vital n ≡ false → reaches p (with_name n ws) ≡ reaches p ws
reaches-left p (Other s t) ws h k = refl
reaches-left p (Known w) ws h k = by (is_guard w)
  where
    by : (v : Bool) → reaches p (if v then w ∷ ws else ws) ≡ reaches p ws
    by true = if-false (p w) true _ h ∙ if-false (is_vital w) false (reaches p ws) k
    by false = refl

-- one more that isn't vital
pub reaches-more : (p : Word → Bool) (n : Name) (ws : List Word) → is_known is_vital n ≡ false → reaches p ws ≡ true → reaches p (with_name n ws) ≡ true
reaches-more p (Other s t) ws k r = r
reaches-more p (Known w) ws k r = by (is_guard w)
  where
    beyond : (v : Bool) → (if v then true else (if is_vital w then false else reaches p ws)) ≡ true
    beyond true = refl
    beyond false = if-false (is_vital w) false (reaches p ws) k ∙ r

    by : (v : Bool) → reaches p (if v then w ∷ ws else ws) ≡ true
    by true = beyond (p w)
    by false = r

pub rooted-left : (e : OpenElement) (es : List OpenElement) → is_word word.Html e.name ≡ false → is_rooted (e ∷ es) ≡ true → is_rooted es ≡ true
rooted-left e [] h r = refl
rooted-left e (d ∷ es) h r = r

-- ---- ids in a part of the stack

module _ (q : Name → Bool) (id : NodeId) where
  pub loose-thinned : (es ds : List OpenElement) → Thinned es ds → is_loose q es id ≡ true → is_loose q ds id ≡ true
  loose-thinned [] ds t h = subst (λ x. is_loose q x id ≡ true) (sym t) refl
  loose-thinned (e ∷ es) ds (inl t) h = loose-thinned es ds t (split (not (q e.name && same_id e.id id)) (is_loose q es id) h).1
  loose-thinned (e ∷ es) ds (inr (rest, is, t)) h =
      let p = split (not (q e.name && same_id e.id id)) (is_loose q es id) h in
      subst (λ x. is_loose q x id ≡ true) (sym is) (both (not (q e.name && same_id e.id id)) (is_loose q rest id) p.0 (loose-thinned es rest t p.1))

  pub loose-append : (es ds : List OpenElement) → is_loose q es id ≡ true → is_loose q ds id ≡ true → is_loose q (es ++ ds) id ≡ true
  loose-append [] ds h k = k
  loose-append (e ∷ es) ds h k =
      let p = split (not (q e.name && same_id e.id id)) (is_loose q es id) h in
      both (not (q e.name && same_id e.id id)) (is_loose q (es ++ ds) id) p.0 (loose-append es ds p.1 k)

  pub loose-parts : (es ds : List OpenElement) → is_loose q (es ++ ds) id ≡ true → (is_loose q es id ≡ true) × (is_loose q ds id ≡ true)
  loose-parts [] ds h = (refl, h)
  loose-parts (e ∷ es) ds h =
      let p = split (not (q e.name && same_id e.id id)) (is_loose q (es ++ ds) id) h in
      let r = loose-parts es ds p.1 in
      (both (not (q e.name && same_id e.id id)) (is_loose q es id) p.0 r.0, r.1)

  -- an id that no open element has
  pub loose-closed : (es : List OpenElement) → is_open id es ≡ false → is_loose q es id ≡ true
  loose-closed [] h = refl
  loose-closed (e ∷ es) h =
      let p = either-false (same_id e.id id) (is_open id es) h in
      both (not (q e.name && same_id e.id id)) (is_loose q es id) (not-false (q e.name && same_id e.id id) (not-both (q e.name) (same_id e.id id) p.0)) (loose-closed es p.1)

  pub loose-push : (e : OpenElement) (es : List OpenElement) → q e.name ≡ false → is_loose q es id ≡ true → is_loose q (e ∷ es) id ≡ true
  loose-push e es h k = both (not (q e.name && same_id e.id id)) (is_loose q es id) (ap (λ v. not (v && same_id e.id id)) h) k

pub closed-thinned : (id : NodeId) (es ds : List OpenElement) → Thinned es ds → is_open id es ≡ false → is_open id ds ≡ false
closed-thinned id [] ds t h = subst (λ x. is_open id x ≡ false) (sym t) refl
closed-thinned id (e ∷ es) ds (inl t) h = closed-thinned id es ds t (either-false (same_id e.id id) (is_open id es) h).1
closed-thinned id (e ∷ es) ds (inr (rest, is, t)) h =
    let p = either-false (same_id e.id id) (is_open id es) h in
    subst (λ x. is_open id x ≡ false) (sym is) (neither (same_id e.id id) (is_open id rest) p.0 (closed-thinned id es rest t p.1))

apart-thinned : (e : OpenElement) (es ds : List OpenElement) → Thinned es ds → is_apart e es ≡ true → is_apart e ds ≡ true
apart-thinned e es ds t = by (is_special e.name)
  where
    by : (v : Bool) → (if v then not (is_open e.id es) else is_loose is_special es e.id) ≡ true → (if v then not (is_open e.id ds) else is_loose is_special ds e.id) ≡ true
    by true h = not-false (is_open e.id ds) (closed-thinned e.id es ds t (not-true (is_open e.id es) h))
    by false h = loose-thinned is_special e.id es ds t h

pub apart-all-thinned : (es ds : List OpenElement) → Thinned es ds → are_apart es ≡ true → are_apart ds ≡ true
apart-all-thinned [] ds t h = subst (λ x. are_apart x ≡ true) (sym t) refl
apart-all-thinned (e ∷ es) ds (inl t) h = apart-all-thinned es ds t (split (is_apart e es) (are_apart es) h).1
apart-all-thinned (e ∷ es) ds (inr (rest, is, t)) h =
    let p = split (is_apart e es) (are_apart es) h in
    subst (λ x. are_apart x ≡ true) (sym is) (both (is_apart e rest) (are_apart rest) (apart-thinned e es rest t p.0) (apart-all-thinned es rest t p.1))

-- entries stay listed where each id that is loose stays so
pub listed-by : (es ds : List OpenElement) → ((id : NodeId) → is_loose is_special es id ≡ true → is_loose is_special ds id ≡ true) → (fs : List FormattingEntry) → are_listed es fs ≡ true → are_listed ds fs ≡ true
listed-by es ds h [] l = refl
listed-by es ds h (Marker ∷ fs) l = listed-by es ds h fs l
listed-by es ds h (Element id tag ∷ fs) l =
    let p = split (is_known is_formatting tag.name && is_loose is_special es id) (are_listed es fs) l in
    let r = split (is_known is_formatting tag.name) (is_loose is_special es id) p.0 in
    both (is_known is_formatting tag.name && is_loose is_special ds id) (are_listed ds fs) (both (is_known is_formatting tag.name) (is_loose is_special ds id) r.0 (h id r.1)) (listed-by es ds h fs p.1)

pub owner-by : (q : Name → Bool) (es ds : List OpenElement) → ((id : NodeId) → is_loose q es id ≡ true → is_loose q ds id ≡ true) → (form : Option NodeId) → is_loose_if_any q es form ≡ true → is_loose_if_any q ds form ≡ true
owner-by q es ds h None l = refl
owner-by q es ds h (Some id) l = h id l
