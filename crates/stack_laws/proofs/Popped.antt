-- What each way of popping pops.
use Rattle.std.proofs.Common.{◌≡◌, inl, inr, refl, sym, ap, subst, ◌∙◌, true≢false, ℕ, Bool, true, false, not, ◌&&◌, ◌||◌, List, [], ◌∷◌, Option, Some, None}
use Rattle.std.specs.Prelude.{if◌then◌else◌}
use Rattle.html_types.proofs.WordLemmas.{word_decides}
use Rattle.html_types.specs.Names.{name_text}
use Rattle.html_types.specs.Words.{same_word}
use Rattle.html_types.specs.declared.word.Word.{Word}
use Rattle.html_types.specs.declared.word.Word.TheVariants as word
use Rattle.html_types.specs.declared.name.Name.{Name}
use Rattle.html_types.specs.declared.name.Name.TheVariants.{Known, Other}
use Rattle.html_types.specs.declared.instruction.Group.TheVariants as group
use Rattle.html_types.specs.declared.instruction.Scope.{Scope}
use Rattle.html_types.specs.declared.open.OpenElement.{OpenElement}
use Rattle.html_types.specs.declared.open.FormattingEntry.{FormattingEntry}
use Rattle.html_types.specs.declared.operation.NodeId.{NodeId}
use Rattle.standard.specs.Elements.{is_word, is_one_of, ends_scope}
use Rattle.standard.specs.ForeignNames.{is_lower_of}
use Rattle.standard.specs.Foreign.{is_html, is_html_or_point, is_text_point, is_html_point}
use Rattle.standard.specs.Stack.{in_scope, until, pop_to, pop_to_root, implied, implied_thoroughly, close, item_found, close_item, end_found, other_end}
use Rattle.standard.specs.Instructions.{pop_foreign, foreign_end}
use Rattle.stack_laws.specs.Grounded.{is_vital, is_guard, is_known, is_special, with_name, core, no_words, has_no, is_orderly, reaches, is_rooted, Firm}
use Rattle.rule_laws.proofs.Calm.{split}
use Rattle.rule_laws.proofs.Thinned.{Thinned, thin-same}
use Rattle.stack_laws.proofs.Cores.{not-true, either-false, neither, to-false, Drops, drops-none, drops-more, drops-trans, through-drops, orderly-left, has_no-left, rooted-left, loose-thinned, apart-all-thinned, listed-by, owner-by}

-- ---- what is popped is left out, and the rest stays firm

pub drops-thinned : (q : Name → Bool) (es ds : List OpenElement) → Drops q es ds → Thinned es ds
drops-thinned q [] ds d = d
drops-thinned q (e ∷ es) ds (inl d) = subst (λ x. Thinned (e ∷ es) x) (sym d) (thin-same (e ∷ es))
drops-thinned q (e ∷ es) ds (inr d) = inl (drops-thinned q es ds d.1)

-- the test says yes of no vital name
abbrev pub Spares : (Word → Bool) → (Name → Bool) → Type 0
Spares p q = (n : Name) → q n ≡ true → is_known p n ≡ false

html-vital : (n : Name) → is_known is_vital n ≡ false → is_word word.Html n ≡ false
html-vital (Known w) h = to-false (same_word w word.Html) (λ e. true≢false (sym (subst (λ v. is_vital v ≡ true) (sym ((word_decides w word.Html).0 e)) refl) ∙ h))
html-vital (Other s t) h = refl

pub template-vital : (n : Name) → is_known is_vital n ≡ false → is_word word.Template n ≡ false
template-vital (Known w) h = to-false (same_word w word.Template) (λ e. true≢false (sym (subst (λ v. is_vital v ≡ true) (sym ((word_decides w word.Template).0 e)) refl) ∙ h))
template-vital (Other s t) h = refl

pub firm-dropped : (q : Name → Bool) → Spares is_vital q → (es ds : List OpenElement) (fs : List FormattingEntry) (form : Option NodeId) → Drops q es ds → Firm es fs form → Firm ds fs form
firm-dropped q spares es ds fs form d f =
    let t = drops-thinned q es ds d in
    record {
      order = through-drops (λ x. is_orderly (core x) ≡ true) q (λ e x h. orderly-left e.name (core x)) es ds d f.order;
      root = through-drops (λ x. is_rooted x ≡ true) q (λ e x h. rooted-left e x (html-vital e.name (spares e.name h))) es ds d f.root;
      apart = apart-all-thinned es ds t f.apart;
      entries = listed-by es ds (λ id. loose-thinned is_special id es ds t) fs f.entries;
      owner = owner-by (is_known is_guard) es ds (λ id. loose-thinned (is_known is_guard) id es ds t) form f.owner;
    }

-- ---- up to one that is sought

sought : (Name → Bool) → (Name → Bool) → List OpenElement → Bool
sought stop is [] = false
sought stop is (e ∷ es) = if is e.name then true else (if stop e.name then false else sought stop is es)

scope-sought : (s : Scope) (is : Name → Bool) (es : List OpenElement) → in_scope s is es ≡ sought (ends_scope s) is es
unfolding sought
scope-sought s is [] = refl
scope-sought s is (e ∷ es) = ap (λ x. if is e.name then true else (if ends_scope s e.name then false else x)) (scope-sought s is es)

abbrev pub item_stop : Name → Bool
item_stop n = is_one_of group.Special n && not (is_one_of group.PassedItems n)

item-sought : (is : Name → Bool) (es : List OpenElement) → item_found is es ≡ sought item_stop is es
unfolding sought
item-sought is [] = refl
item-sought is (e ∷ es) = ap (λ x. if is e.name then true else (if is_one_of group.Special e.name && not (is_one_of group.PassedItems e.name) then false else x)) (item-sought is es)

end-sought : (is : Name → Bool) (es : List OpenElement) → end_found is es ≡ sought is_special is es
unfolding sought
end-sought is [] = refl
end-sought is (e ∷ es) = ap (λ x. if is e.name then true else (if is_one_of group.Special e.name then false else x)) (end-sought is es)

abbrev pub passes : (Name → Bool) → (Name → Bool) → Name → Bool
passes stop is n = is n || not (stop n)

until-sought : (stop is : Name → Bool) (es : List OpenElement) → sought stop is es ≡ true → Drops (passes stop is) es (until is es)
unfolding sought
until-sought stop is [] h = refl
until-sought stop is (e ∷ es) h = by (is e.name) (stop e.name) refl refl h (until-sought stop is es)
  where
    by : (v w : Bool) → is e.name ≡ v → stop e.name ≡ w → (if v then true else (if w then false else sought stop is es)) ≡ true → (sought stop is es ≡ true → Drops (passes stop is) es (until is es))
        → Drops (passes stop is) (e ∷ es) (if v then es else until is es)
    by true w p r g rest = inr (ap (λ x. x || not (stop e.name)) p, drops-none (passes stop is) es)
    by false true p r g rest = absurd (true≢false (sym g))
    by false false p r g rest = inr (ap (λ x. x || not (stop e.name)) p ∙ ap not r, rest g)

-- behind implied end tags that leave what is sought
implied-sought : (stop is but : Name → Bool) → ((n : Name) → is_one_of group.ClosedImplicitly n && not (but n) ≡ true → is n ≡ false) → (es : List OpenElement) → sought stop is es ≡ true → sought stop is (implied but es) ≡ true
unfolding sought
implied-sought stop is but other [] h = h
implied-sought stop is but other (e ∷ es) h = by (is_one_of group.ClosedImplicitly e.name && not (but e.name)) refl (implied-sought stop is but other es)
  where
    further : (v w : Bool) → v ≡ false → (if v then true else (if w then false else sought stop is es)) ≡ true → sought stop is es ≡ true
    further true w e g = absurd (true≢false e)
    further false true e g = absurd (true≢false (sym g))
    further false false e g = g

    by : (v : Bool) → is_one_of group.ClosedImplicitly e.name && not (but e.name) ≡ v → (sought stop is es ≡ true → sought stop is (implied but es) ≡ true) → sought stop is (if v then implied but es else e ∷ es) ≡ true
    by true p rest = rest (further (is e.name) (stop e.name) (other e.name p) h)
    by false p rest = h

pub implied-drops : (but : Name → Bool) (es : List OpenElement) → Drops (is_one_of group.ClosedImplicitly) es (implied but es)
implied-drops but [] = refl
implied-drops but (e ∷ es) = by (is_one_of group.ClosedImplicitly e.name) (not (but e.name)) refl (implied-drops but es)
  where
    by : (v w : Bool) → is_one_of group.ClosedImplicitly e.name ≡ v → Drops (is_one_of group.ClosedImplicitly) es (implied but es) → Drops (is_one_of group.ClosedImplicitly) (e ∷ es) (if v && w then implied but es else e ∷ es)
    by true true p rest = inr (p, rest)
    by true false p rest = inl refl
    by false w p rest = inl refl

pub thoroughly-drops : (es : List OpenElement) → Drops (is_one_of group.ClosedThoroughly) es (implied_thoroughly es)
thoroughly-drops [] = refl
thoroughly-drops (e ∷ es) = by (is_one_of group.ClosedThoroughly e.name) refl (thoroughly-drops es)
  where
    by : (v : Bool) → is_one_of group.ClosedThoroughly e.name ≡ v → Drops (is_one_of group.ClosedThoroughly) es (implied_thoroughly es) → Drops (is_one_of group.ClosedThoroughly) (e ∷ es) (if v then implied_thoroughly es else e ∷ es)
    by true p rest = inr (p, rest)
    by false p rest = inl refl

-- implied end tags, and up to one that is sought
abbrev pub closes : (Name → Bool) → (Name → Bool) → Name → Bool
closes stop is n = is_one_of group.ClosedImplicitly n || passes stop is n

closed-drops : (stop is but : Name → Bool) (es : List OpenElement) → ((n : Name) → is_one_of group.ClosedImplicitly n && not (but n) ≡ true → is n ≡ false) → (v : Bool) → sought stop is es ≡ v
    → Drops (closes stop is) es (if v then until is (implied but es) else es)
closed-drops stop is but es other true h =
    drops-trans (closes stop is) es (implied but es) (until is (implied but es))
    (drops-more (is_one_of group.ClosedImplicitly) (closes stop is) (λ n p. ap (λ x. x || passes stop is n) p) es (implied but es) (implied-drops but es))
    (drops-more (passes stop is) (closes stop is) (λ n p. second (is_one_of group.ClosedImplicitly n) (passes stop is n) p) (implied but es) (until is (implied but es)) (until-sought stop is (implied but es) (implied-sought stop is but other es h)))
  where
    second : (v w : Bool) → w ≡ true → v || w ≡ true
    second true w e = refl
    second false w e = e
closed-drops stop is but es other false h = drops-none (closes stop is) es

but-itself : (is : Name → Bool) (n : Name) → is_one_of group.ClosedImplicitly n && not (is n) ≡ true → is n ≡ false
but-itself is n h = not-true (is n) (split (is_one_of group.ClosedImplicitly n) (not (is n)) h).1

pub close-drops : (s : Scope) (is : Name → Bool) (es : List OpenElement) → Drops (closes (ends_scope s) is) es (close s is es)
close-drops s is es = closed-drops (ends_scope s) is is es (but-itself is) (in_scope s is es) (sym (scope-sought s is es))

pub item-drops : (is : Name → Bool) (es : List OpenElement) → Drops (closes item_stop is) es (close_item is es)
item-drops is es = closed-drops item_stop is is es (but-itself is) (item_found is es) (sym (item-sought is es))

pub other-drops : (is : Name → Bool) (es : List OpenElement) → Drops (closes is_special is) es (other_end is es)
other-drops is es = closed-drops is_special is is es (but-itself is) (end_found is es) (sym (end-sought is es))

pub form-drops : (nobody : Name → Bool) (es : List OpenElement) (s : Scope)
    → Drops (closes (ends_scope s) (is_word word.Form)) es (if in_scope s (is_word word.Form) es then until (is_word word.Form) (implied nobody es) else es)
form-drops nobody es s = closed-drops (ends_scope s) (is_word word.Form) nobody es no_form (in_scope s (is_word word.Form) es) (sym (scope-sought s (is_word word.Form) es))
  where
    no_form : (n : Name) → is_one_of group.ClosedImplicitly n && not (nobody n) ≡ true → is_word word.Form n ≡ false
    no_form (Other a t) h = refl
    no_form (Known w) h =
        to-false (same_word w word.Form)
        (λ e. true≢false (sym (split (is_one_of group.ClosedImplicitly (Known w)) (not (nobody (Known w))) h).0 ∙ subst (λ v. is_one_of group.ClosedImplicitly (Known v) ≡ false) (sym ((word_decides w word.Form).0 e)) refl))

pub until-drops : (s : Scope) (is : Name → Bool) (es : List OpenElement) → in_scope s is es ≡ true → Drops (passes (ends_scope s) is) es (until is es)
until-drops s is es h = until-sought (ends_scope s) is es (sym (scope-sought s is es) ∙ h)

pub scope-implied : (s : Scope) (is but : Name → Bool) → ((n : Name) → is_one_of group.ClosedImplicitly n && not (but n) ≡ true → is n ≡ false) → (es : List OpenElement) → in_scope s is es ≡ true → in_scope s is (implied but es) ≡ true
scope-implied s is but other es h = scope-sought s is (implied but es) ∙ implied-sought (ends_scope s) is but other es (sym (scope-sought s is es) ∙ h)

pub pop_to-drops : (is : Name → Bool) (es : List OpenElement) → Drops (λ n. not (is n)) es (pop_to is es)
pop_to-drops is [] = refl
pop_to-drops is (e ∷ es) = by (is e.name) refl (pop_to-drops is es)
  where
    by : (v : Bool) → is e.name ≡ v → Drops (λ n. not (is n)) es (pop_to is es) → Drops (λ n. not (is n)) (e ∷ es) (if v then e ∷ es else pop_to is es)
    by true p rest = inl refl
    by false p rest = inr (ap not p, rest)

not-html : (e : OpenElement) → is_html_or_point e ≡ false → not (is_html e.name) ≡ true
unfolding is_html_or_point
not-html e h = ap not (either-false (is_html e.name) (is_text_point e) (either-false (is_html e.name || is_text_point e) (is_html_point e) h).0).0

pub pop_foreign-drops : (es : List OpenElement) → Drops (λ n. not (is_html n)) es (pop_foreign es)
pop_foreign-drops [] = refl
pop_foreign-drops (e ∷ es) = by (is_html_or_point e) refl (pop_foreign-drops es)
  where
    by : (v : Bool) → is_html_or_point e ≡ v → Drops (λ n. not (is_html n)) es (pop_foreign es) → Drops (λ n. not (is_html n)) (e ∷ es) (if v then e ∷ es else pop_foreign es)
    by true p rest = inl refl
    by false p rest = inr (not-html e p, rest)

abbrev pub DropsIfAny : (Name → Bool) → List OpenElement → Option (List OpenElement) → Type 0
DropsIfAny q all None = Unit {0}
DropsIfAny q all (Some ds) = Drops q all ds

abbrev pub is_foreign_top : List OpenElement → Bool
is_foreign_top [] = false
is_foreign_top (e ∷ es) = not (is_html e.name)

foreign-drops-by : (name : List ℕ) (all es : List OpenElement) → is_foreign_top es ≡ true → Drops (λ n. not (is_html n)) all es → DropsIfAny (λ n. not (is_html n)) all (foreign_end name all es)
foreign-drops-by name all [] top d = absurd (true≢false (sym top))
foreign-drops-by name all (e ∷ []) top d = drops-none (λ n. not (is_html n)) all
foreign-drops-by name all (e ∷ d ∷ es) top g =
    let left : Drops (λ n. not (is_html n)) all (d ∷ es) = drops-trans (λ n. not (is_html n)) all (e ∷ d ∷ es) (d ∷ es) g (inr (top, drops-none (λ n. not (is_html n)) (d ∷ es))) in
    by (is_lower_of (name_text e.name) name) (is_html d.name) refl left (λ t. foreign-drops-by name all (d ∷ es) t left)
  where
    by : (v w : Bool) → is_html d.name ≡ w → Drops (λ n. not (is_html n)) all (d ∷ es) → (not (is_html d.name) ≡ true → DropsIfAny (λ n. not (is_html n)) all (foreign_end name all (d ∷ es)))
        → DropsIfAny (λ n. not (is_html n)) all (if v then Some (d ∷ es) else (if w then None else foreign_end name all (d ∷ es)))
    by true w p left rest = left
    by false true p left rest = tt
    by false false p left rest = rest (ap not p)

pub foreign-drops : (name : List ℕ) (es : List OpenElement) → is_foreign_top es ≡ true → DropsIfAny (λ n. not (is_html n)) es (foreign_end name es es)
foreign-drops name es top = foreign-drops-by name es es top (drops-none (λ n. not (is_html n)) es)

pub foreign-spares : (p : Word → Bool) → Spares p (λ n. not (is_html n))
foreign-spares p (Known w) h = absurd (true≢false (sym h))
foreign-spares p (Other s t) h = refl

-- ---- what modes tell

or-front : (a b c : Bool) → a || (b || c) ≡ false → a || (b || false) ≡ false
or-front true b c h = h
or-front false true c h = h
or-front false false c h = refl

pub vital-guard : (w : Word) → is_guard w ≡ false → is_vital w ≡ false
vital-guard w h = or-front _ _ _ h

-- one of those that are reached is popped, and no vital one
reach-on : (p : Word → Bool) (n : Name) (ws : List Word) → is_known p n ≡ false → reaches p (with_name n ws) ≡ true → (is_known is_vital n ≡ false) × (reaches p ws ≡ true)
reach-on p (Other s t) ws h r = (refl, r)
reach-on p (Known w) ws h r = by (is_guard w) refl r
  where
    inner : (v x : Bool) → v ≡ false → (if v then true else (if x then false else reaches p ws)) ≡ true → (x ≡ false) × (reaches p ws ≡ true)
    inner true x e g = absurd (true≢false e)
    inner false true e g = absurd (true≢false (sym g))
    inner false false e g = (refl, g)

    by : (v : Bool) → is_guard w ≡ v → reaches p (if v then w ∷ ws else ws) ≡ true → (is_vital w ≡ false) × (reaches p ws ≡ true)
    by true e g = inner (p w) (is_vital w) h g
    by false e g = (vital-guard w e, g)

pub reach-drops : (p : Word → Bool) (is : Name → Bool) → ((n : Name) → is n ≡ is_known p n) → ((w : Word) → p w ≡ true → is_vital w ≡ false) → (es : List OpenElement) → reaches p (core es) ≡ true
    → Drops (λ n. not (is_known is_vital n)) es (until is es)
reach-drops p is same apart [] h = refl
reach-drops p is same apart (e ∷ es) h = by (is e.name) refl (reach-drops p is same apart es)
  where
    named : (n : Name) → is_known p n ≡ true → is_known is_vital n ≡ false
    named (Known w) g = apart w g
    named (Other s t) g = refl

    by : (v : Bool) → is e.name ≡ v → (reaches p (core es) ≡ true → Drops (λ n. not (is_known is_vital n)) es (until is es)) → Drops (λ n. not (is_known is_vital n)) (e ∷ es) (if v then es else until is es)
    by true g rest = inr (ap not (named e.name (sym (same e.name) ∙ g)), drops-none (λ n. not (is_known is_vital n)) es)
    by false g rest = let r = reach-on p e.name (core es) (sym (same e.name) ∙ g) h in inr (ap not r.0, rest r.1)

-- the current node isn't vital where one is reached that isn't
pub reach-top : (p : Word → Bool) → ((w : Word) → p w ≡ true → is_vital w ≡ false) → (n : Name) (ws : List Word) → reaches p (with_name n ws) ≡ true → is_known is_vital n ≡ false
reach-top p apart n ws h = by (is_known p n) refl
  where
    named : (m : Name) → is_known p m ≡ true → is_known is_vital m ≡ false
    named (Known w) g = apart w g
    named (Other s t) g = refl

    by : (v : Bool) → is_known p n ≡ v → is_known is_vital n ≡ false
    by true g = named n g
    by false g = (reach-on p n ws g h).0

pub vital-spares : Spares is_vital (λ n. not (is_known is_vital n))
vital-spares n h = not-true (is_known is_vital n) h

-- ---- popped but for the first element

pub rooted-words : (e : OpenElement) (es : List OpenElement) → is_rooted (e ∷ es) ≡ true → no_words (core (e ∷ es)) ≡ false
rooted-words e [] h = by e.name h
  where
    by : (n : Name) → is_word word.Html n ≡ true → no_words (with_name n []) ≡ false
    by (Known w) g = subst (λ v. no_words (with_name (Known v) []) ≡ false) (sym ((word_decides w word.Html).0 g)) refl
    by (Other s t) g = absurd (true≢false (sym g))
rooted-words e (d ∷ es) h = by e.name (rooted-words d es h)
  where
    by : (n : Name) → no_words (core (d ∷ es)) ≡ false → no_words (with_name n (core (d ∷ es))) ≡ false
    by (Other s t) g = g
    by (Known w) g = with_guard (is_guard w)
      where
        with_guard : (v : Bool) → no_words (if v then w ∷ core (d ∷ es) else core (d ∷ es)) ≡ false
        with_guard true = refl
        with_guard false = g

no-html-above : (n : Name) (ws : List Word) → no_words ws ≡ false → is_orderly (with_name n ws) ≡ true → is_word word.Html n ≡ false
no-html-above (Other s t) ws e o = refl
no-html-above (Known w) ws e o = to-false (same_word w word.Html) (λ h. true≢false (sym (split (no_words ws) (is_orderly ws) (subst (λ v. is_orderly (with_name (Known v) ws) ≡ true) ((word_decides w word.Html).0 h) o)).0 ∙ e))

no-template-top : (n : Name) (ws : List Word) → has_no word.Template (with_name n ws) ≡ true → is_word word.Template n ≡ false
no-template-top (Other s t) ws h = refl
no-template-top (Known w) ws h =
    to-false (same_word w word.Template)
    (λ g. true≢false (sym (subst (λ v. has_no word.Template (with_name (Known v) ws) ≡ true) ((word_decides w word.Template).0 g) h)))

neither-vital : (n : Name) → is_word word.Html n ≡ false → is_word word.Template n ≡ false → is_known is_vital n ≡ false
neither-vital (Other s t) h k = refl
neither-vital (Known w) h k = neither (same_word w word.Html) (same_word w word.Template || false) h (neither (same_word w word.Template) false k refl)

pub root-drops : (es : List OpenElement) → is_orderly (core es) ≡ true → is_rooted es ≡ true → has_no word.Template (core es) ≡ true → Drops (λ n. not (is_known is_vital n)) es (pop_to_root es)
root-drops [] o r h = refl
root-drops (e ∷ []) o r h = inl refl
root-drops (e ∷ d ∷ es) o r h =
    let html = no-html-above e.name (core (d ∷ es)) (rooted-words d es r) o in
    let template = no-template-top e.name (core (d ∷ es)) h in
    inr (ap not (neither-vital e.name html template), root-drops (d ∷ es) (orderly-left e.name (core (d ∷ es)) o) r (has_no-left word.Template e.name (core (d ∷ es)) h))
