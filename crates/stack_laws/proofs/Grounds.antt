-- How far a row has come, as its instructions tell it: what is known of the stack, and what is owed.
use Rattle.std.proofs.Common.{◌≡◌, refl, sym, ap, subst, ◌∙◌, true≢false, ℕ, suc, Bool, true, false, not, ◌&&◌, ◌||◌, List, [], ◌∷◌, length, Option, None}
use Rattle.std.specs.Prelude.{if◌then◌else◌, is_some}
use Rattle.std.specs.List.{list_all}
use Rattle.html_types.proofs.WordLemmas.{word_decides}
use Rattle.html_types.specs.Words.{same_word}
use Rattle.html_types.specs.Names.{same_name}
use Rattle.html_types.specs.declared.word.Word.{Word}
use Rattle.html_types.specs.declared.word.Word.TheVariants as word
use Rattle.html_types.specs.declared.name.Name.{Name}
use Rattle.html_types.specs.declared.name.Name.TheVariants.{Known, Other}
use Rattle.html_types.specs.declared.instruction.Who.{Who}
use Rattle.html_types.specs.declared.instruction.Who.TheVariants as who
use Rattle.html_types.specs.declared.instruction.Scope.{Scope}
use Rattle.html_types.specs.declared.instruction.Mode.{Mode}
use Rattle.html_types.specs.declared.instruction.Mode.TheVariants as mode
use Rattle.html_types.specs.declared.token.Token.{Token}
use Rattle.html_types.specs.declared.token.Token.TheVariants.{StartTag, EndTag}
use Rattle.html_types.specs.declared.operation.NodeId.{NodeId}
use Rattle.html_types.specs.declared.open.OpenElement.{OpenElement}
use Rattle.html_types.specs.declared.open.FormattingEntry.{FormattingEntry}
use Rattle.html_types.specs.declared.open.Open.{Open}
use Rattle.standard.specs.Groups.{words_of, in_group}
use Rattle.standard.specs.Rows.{has_word}
use Rattle.standard.specs.Elements.{is_word, is_meant}
use Rattle.standard.specs.Stack.{is_empty, in_scope, on_stack, current_is, without_open}
use Rattle.rule_laws.specs.Proper.{is_main_mode}
use Rattle.stack_laws.specs.Grounded.{is_vital, is_guard, is_known, core, templates_among, has_no, reaches, Firm, has_facts, stands, main_mode, is_text_mode, is_text_like, has_text_at_bottom, is_late_if_any, is_template_mode}
use Rattle.rule_laws.proofs.Calm.{split}
use Rattle.rule_laws.proofs.Takes.{both}
use Rattle.stack_laws.proofs.Cores.{not-true, not-false, to-false, Drops, through-drops, has_no-left, has_no-kept, templates-kept, reaches-left}
use Rattle.stack_laws.proofs.Popped.{Spares, firm-dropped, template-vital, is_foreign_top}
use Rattle.stack_laws.proofs.GroundAdoption.{core-dropped}

-- ---- the token's own name, and the words that are meant

pub data Own : Type 0 where
  no_tag : Own
  other_name : Own
  own_word : Word → Own

abbrev pub own_named : Name → Own
own_named (Known w) = own_word w
own_named (Other s t) = other_name

abbrev pub own_of : Token → Own
own_of (StartTag tag) = own_named tag.name
own_of (EndTag tag) = own_named tag.name
own_of _ = no_tag

abbrev pub is_own_word : Own → Word → Bool
is_own_word (own_word w) v = same_word v w
is_own_word _ v = false

abbrev pub meant_word : Who → Own → Word → Bool
meant_word who.Own o v = is_own_word o v
meant_word (who.The w) o v = same_word v w
meant_word (who.Any g) o v = in_group g v
meant_word who.Nobody o v = false

named-same : (n : Name) (v : Word) → same_name (Known v) n ≡ is_own_word (own_named n) v
named-same (Known w) v = refl
named-same (Other s t) v = refl

pub meant-same : (w : Who) (t : Token) (v : Word) → is_meant w t (Known v) ≡ meant_word w (own_of t) v
meant-same who.Own (StartTag tag) v = named-same tag.name v
meant-same who.Own (EndTag tag) v = named-same tag.name v
meant-same who.Own _ v = refl
meant-same (who.The w) t v = refl
meant-same (who.Any g) t v = refl
meant-same who.Nobody t v = refl

-- no word of these is meant
abbrev pub spares_meant : (Word → Bool) → Who → Own → Bool
spares_meant p who.Own (own_word w) = not (p w)
spares_meant p who.Own _ = true
spares_meant p (who.The w) o = not (p w)
spares_meant p (who.Any g) o = list_all (λ v. not (p v)) (words_of g)
spares_meant p who.Nobody o = true

pub has-all : (f : Word → Bool) (us : List Word) (v : Word) → has_word us v ≡ true → list_all f us ≡ true → f v ≡ true
has-all f [] v h l = absurd (true≢false (sym h))
has-all f (u ∷ us) v h l = let p = split (f u) (list_all f us) l in by (same_word v u) refl h p.0 (λ g. has-all f us v g p.1)
  where
    by : (x : Bool) → same_word v u ≡ x → (x || has_word us v) ≡ true → f u ≡ true → (has_word us v ≡ true → f v ≡ true) → f v ≡ true
    by true e g k rest = subst (λ w. f w ≡ true) (sym ((word_decides v u).0 e)) k
    by false e g k rest = rest g

meant-spared : (p : Word → Bool) (w : Who) (o : Own) (v : Word) → spares_meant p w o ≡ true → meant_word w o v ≡ true → p v ≡ false
meant-spared p who.Own (own_word w) v h m = subst (λ u. p u ≡ false) (sym ((word_decides v w).0 m)) (not-true (p w) h)
meant-spared p who.Own no_tag v h m = absurd (true≢false (sym m))
meant-spared p who.Own other_name v h m = absurd (true≢false (sym m))
meant-spared p (who.The w) o v h m = subst (λ u. p u ≡ false) (sym ((word_decides v w).0 m)) (not-true (p w) h)
meant-spared p (who.Any g) o v h m = not-true (p v) (has-all (λ u. not (p u)) (words_of g) v m h)
meant-spared p who.Nobody o v h m = absurd (true≢false (sym m))

pub spares-meant : (p : Word → Bool) (w : Who) (t : Token) → spares_meant p w (own_of t) ≡ true → Spares p (is_meant w t)
spares-meant p w t h (Known v) m = meant-spared p w (own_of t) v h (sym (meant-same w t v) ∙ m)
spares-meant p w t h (Other s x) m = refl

-- no word of these is dropped
abbrev pub spared : (Word → Bool) → List Word → Bool
spared f us = list_all (λ u. not (f u)) us

pub spared-spares : (us : List Word) (f : Word → Bool) (q : Name → Bool) → ((v : Word) → q (Known v) ≡ true → f v ≡ true) → spared f us ≡ true → Spares (has_word us) q
spared-spares us f q h l (Other s t) e = refl
spared-spares us f q h l (Known v) e = to-false (has_word us v) (λ g. true≢false (sym (h v e) ∙ not-true (f v) (has-all (λ u. not (f u)) us v g l)))

-- ---- how far a row has come

-- what is claimed of the mode: that it is this one, and the stack is as it says; the latter alone; or nothing
pub data Claim : Type 0 where
  the : Mode → Claim
  fits : Claim
  lost : Claim

-- what is known of the stack
pub data Know : Type 0 where
  nothing : Know
  scoped : Scope → Who → Know
  topped : Who → Know
  -- the current node isn't vital; isn't html
  open_top : Know
  not_html : Know
  has_template : Know
  text_top : Know
  foreign_top : Know
  -- the head was pushed, and what is claimed is claimed of the stack without it
  headed : Know
  headed_topped : Who → Know

-- a template insertion mode and the frameset-ok flag, the mode alone, or that one is popped
pub data Debt : Type 0 where
  even : Debt
  owes_ok : Debt
  owes_mode : Debt
  owes_pop : Debt

pub record At : Type 0 where
  pub claim : Claim
  pub know : Know
  -- no template is open
  pub bare : Bool
  -- html is open
  pub full : Bool
  pub debt : Debt
  -- there is an original mode
  pub keeps : Bool
  -- and it is the mode still
  pub waits : Bool
  -- the mode is "text"
  pub text : Bool

abbrev pub is_even : Debt → Bool
is_even even = true
is_even _ = false

abbrev pub is_plainly : Know → Bool
is_plainly headed = false
is_plainly (headed_topped w) = false
is_plainly _ = true

abbrev pub is_text_top : Know → Bool
is_text_top text_top = true
is_text_top _ = false

abbrev pub is_claimed : Claim → Bool
is_claimed lost = false
is_claimed _ = true

-- a row may end there
abbrev pub rests : At → Bool
rests a = is_claimed a.claim && (is_even a.debt && (is_plainly a.know && ((if a.text then is_text_top a.know else true) && not a.waits)))

abbrev pub knowing : Know → At → At
knowing k a = record a { know = k }

-- ---- what it means

abbrev pub Claimed : Claim → Mode → List OpenElement → Type 0
Claimed (the m) now es = (now ≡ m) × (stands m es ≡ true)
Claimed fits now es = stands now es ≡ true
Claimed lost now es = Unit {0}

abbrev pub Owes : Debt → ℕ → ℕ → Bool → Bool → Type 0
Owes even m t ok none = (m ≡ t) × (ok ≡ true → none ≡ true)
Owes owes_ok m t ok none = suc m ≡ t
Owes owes_mode m t ok none = (suc m ≡ t) × (ok ≡ true → none ≡ true)
Owes owes_pop m t ok none = (m ≡ suc t) × (ok ≡ true → none ≡ true)

pub record Sound (a : At) (es : List OpenElement) (fs : List FormattingEntry) (form : Option NodeId) (m : Mode) (m0 : Option Mode) (ms : List Mode) (ok : Bool) : Type 0 where
  pub firm : Firm es fs form
  pub claimed : Claimed a.claim (main_mode m m0) es
  pub is_bare : a.bare ≡ true → has_no word.Template (core es) ≡ true
  pub is_full : a.full ≡ true → has_no word.Html (core es) ≡ false
  pub owed : Owes a.debt (length ms) (templates_among (core es)) ok (has_no word.Template (core es))
  pub none_kept : a.keeps ≡ false → (m0 ≡ None) × (is_main_mode m ≡ true)
  pub one_kept : a.keeps ≡ true → is_some m0 ≡ true
  pub texts : a.keeps ≡ true → a.waits ≡ false → is_text_like m ≡ true
  pub is_text : is_text_mode m ≡ a.text
  pub late : is_late_if_any m0 ≡ true
  pub modes : list_all is_template_mode ms ≡ true

-- the stack of which it is claimed
abbrev pub seen : Know → Option NodeId → List OpenElement → List OpenElement
seen headed head es = without_open head es
seen (headed_topped w) head es = without_open head es
seen _ head es = es

abbrev pub Knows : Know → Token → List OpenElement → Type 0
Knows nothing t es = Unit {0}
Knows (scoped s w) t es = in_scope s (is_meant w t) es ≡ true
Knows (topped w) t es = current_is (is_meant w t) es ≡ true
Knows open_top t es = current_is (λ n. not (is_known is_vital n)) es ≡ true
Knows not_html t es = current_is (is_word word.Html) es ≡ false
Knows has_template t es = on_stack (is_word word.Template) es ≡ true
Knows text_top t es = has_text_at_bottom es ≡ true
Knows foreign_top t es = is_foreign_top es ≡ true
Knows headed t es = Unit {0}
Knows (headed_topped w) t es = current_is (is_meant w t) es ≡ true

abbrev pub SoundOf : At → Open → Type 0
SoundOf a b = Sound a (seen a.know b.head b.stack) b.formats b.form b.mode b.original b.template_modes b.frameset_ok

abbrev pub Stands : At → Token → Open → Type 0
Stands a t b = SoundOf a b × Knows a.know t (seen a.know b.head b.stack)

-- ---- elements dropped

abbrev pub keep_words : Mode → List Word
keep_words mode.InHead = word.Head ∷ []
keep_words mode.InCell = word.Td ∷ word.Th ∷ []
keep_words mode.InSelectInTable = word.Select ∷ []
keep_words _ = []

abbrev pub guard_words : List Word
guard_words = word.Html ∷ word.Template ∷ word.Head ∷ word.Frameset ∷ word.Td ∷ word.Th ∷ word.Select ∷ []

abbrev pub vitals : List Word
vitals = word.Html ∷ word.Template ∷ []

abbrev pub drop_claim : (Word → Bool) → Claim → Claim
drop_claim f (the m) = if spared f (keep_words m) then the m else lost
drop_claim f fits = if spared f guard_words then fits else lost
drop_claim f lost = lost

abbrev pub dropping : (Word → Bool) → At → At
dropping f a = record a { claim = drop_claim f a.claim; know = nothing }

vital-html : (q : Name → Bool) → Spares is_vital q → (n : Name) → q n ≡ true → is_word word.Html n ≡ false
vital-html q h (Other s t) e = refl
vital-html q h (Known w) e =
    to-false (same_word w word.Html) (λ s. true≢false (sym (subst (λ v. is_vital v ≡ true) (sym ((word_decides w word.Html).0 s)) refl) ∙ h (Known w) e))

module _ (q : Name → Bool) (spares : Spares is_vital q) (es ds : List OpenElement) (d : Drops q es ds) where
  none-dropped : (u : Word) → has_no u (core es) ≡ true → has_no u (core ds) ≡ true
  none-dropped u = through-drops (λ x. has_no u (core x) ≡ true) q (λ e x h. has_no-left u e.name (core x)) es ds d

  full-dropped : has_no word.Html (core es) ≡ false → has_no word.Html (core ds) ≡ false
  full-dropped = through-drops (λ x. has_no word.Html (core x) ≡ false) q (λ e x h g. sym (has_no-kept word.Html e.name (core x) (vital-html q spares e.name h)) ∙ g) es ds d

  template-same : has_no word.Template (core ds) ≡ has_no word.Template (core es)
  template-same = through-drops (λ x. has_no word.Template (core x) ≡ has_no word.Template (core es)) q (λ e x h g. sym (has_no-kept word.Template e.name (core x) (template-vital e.name (spares e.name h))) ∙ g) es ds d refl

  count-same : templates_among (core ds) ≡ templates_among (core es)
  count-same = through-drops (λ x. templates_among (core x) ≡ templates_among (core es)) q (λ e x h g. sym (templates-kept e.name (core x) (template-vital e.name (spares e.name h))) ∙ g) es ds d refl

  reach-dropped : (p : Word → Bool) → Spares p q → reaches p (core es) ≡ true → reaches p (core ds) ≡ true
  reach-dropped p sp = through-drops (λ x. reaches p (core x) ≡ true) q (λ e x h g. sym (reaches-left p e.name (core x) (sp e.name h) (spares e.name h)) ∙ g) es ds d

  facts-dropped : (m : Mode) → Spares (has_word (keep_words m)) q → has_facts m (core es) ≡ true → has_facts m (core ds) ≡ true
  facts-dropped mode.BeforeHead sp h = none-dropped word.Template h
  facts-dropped mode.InHead sp h =
      let g = split (has_no word.Template (core es)) (reaches (has_word (word.Head ∷ [])) (core es)) h in
      both (has_no word.Template (core ds)) (reaches (has_word (word.Head ∷ [])) (core ds)) (none-dropped word.Template g.0) (reach-dropped (has_word (word.Head ∷ [])) sp g.1)
  facts-dropped mode.AfterHead sp h = none-dropped word.Template h
  facts-dropped mode.InFrameset sp h = none-dropped word.Template h
  facts-dropped mode.InCell sp h = reach-dropped (has_word (word.Td ∷ word.Th ∷ [])) sp h
  facts-dropped mode.InSelectInTable sp h = reach-dropped (has_word (word.Select ∷ [])) sp h
  facts-dropped mode.InTemplate sp h = ap not template-same ∙ h
  facts-dropped _ sp h = refl

  late-dropped : (m : Mode) → Spares (has_word (keep_words m)) q → not (has_no word.Html (core es)) && has_facts m (core es) ≡ true → not (has_no word.Html (core ds)) && has_facts m (core ds) ≡ true
  late-dropped m sp h =
      let g = split (not (has_no word.Html (core es))) (has_facts m (core es)) h in
      both (not (has_no word.Html (core ds))) (has_facts m (core ds)) (not-false (has_no word.Html (core ds)) (full-dropped (not-true (has_no word.Html (core es)) g.0))) (facts-dropped m sp g.1)

  empty-dropped : is_empty es ≡ true → is_empty ds ≡ true
  empty-dropped = through-drops (λ x. is_empty x ≡ true) q (λ e x h g. absurd (true≢false (sym g))) es ds d

  stands-dropped : (m : Mode) → Spares (has_word (keep_words m)) q → stands m es ≡ true → stands m ds ≡ true
  stands-dropped mode.Initial sp h = empty-dropped h
  stands-dropped mode.BeforeHtml sp h = empty-dropped h
  stands-dropped m sp h = late-dropped m sp h

stands-core : (m : Mode) (es ds : List OpenElement) → core ds ≡ core es → (is_empty es ≡ true → is_empty ds ≡ true) → stands m es ≡ true → stands m ds ≡ true
stands-core mode.Initial es ds c e h = e h
stands-core mode.BeforeHtml es ds c e h = e h
stands-core m es ds c e h = subst (λ ws. not (has_no word.Html ws) && has_facts m ws ≡ true) (sym c) h

claim-dropped : (f : Word → Bool) (q : Name → Bool) → ((v : Word) → q (Known v) ≡ true → f v ≡ true) → Spares is_vital q → (es ds : List OpenElement) → Drops q es ds → (c : Claim) (now : Mode) → Claimed c now es → Claimed (drop_claim f c) now ds
claim-dropped f q same spares es ds d (the m) now h = by (spared f (keep_words m)) refl
  where
    by : (v : Bool) → spared f (keep_words m) ≡ v → Claimed (if v then the m else lost) now ds
    by true e = (h.0, stands-dropped q spares es ds d m (spared-spares (keep_words m) f q same e) h.1)
    by false e = tt
claim-dropped f q same spares es ds d fits now h = by (spared f guard_words) refl
  where
    by : (v : Bool) → spared f guard_words ≡ v → Claimed (if v then fits else lost) now ds
    by true e =
        let sp : Spares is_guard q = spared-spares guard_words f q same e in
        stands-core now es ds (core-dropped q sp es ds d) (through-drops (λ x. is_empty x ≡ true) q (λ y x z k. absurd (true≢false (sym k))) es ds d) h
    by false e = tt
claim-dropped f q same spares es ds d lost now h = tt

owed-same : (x : Debt) (m t t' : ℕ) (ok none none' : Bool) → t' ≡ t → none' ≡ none → Owes x m t ok none → Owes x m t' ok none'
owed-same even m t t' ok none none' e g h = (h.0 ∙ sym e, λ o. g ∙ h.1 o)
owed-same owes_ok m t t' ok none none' e g h = h ∙ sym e
owed-same owes_mode m t t' ok none none' e g h = (h.0 ∙ sym e, λ o. g ∙ h.1 o)
owed-same owes_pop m t t' ok none none' e g h = (h.0 ∙ ap suc (sym e), λ o. g ∙ h.1 o)

pub sound-dropped : (f : Word → Bool) (q : Name → Bool) → ((v : Word) → q (Known v) ≡ true → f v ≡ true) → spared f vitals ≡ true → (a : At) (es ds : List OpenElement) (fs : List FormattingEntry) (form : Option NodeId) (m : Mode) (m0 : Option Mode) (ms : List Mode) (ok : Bool)
    → Drops q es ds → Sound a es fs form m m0 ms ok → Sound (dropping f a) ds fs form m m0 ms ok
sound-dropped f q same sp a es ds fs form m m0 ms ok d s =
    let spares : Spares is_vital q = spared-spares vitals f q same sp in
    record {
      firm = firm-dropped q spares es ds fs form d s.firm;
      claimed = claim-dropped f q same spares es ds d a.claim (main_mode m m0) s.claimed;
      is_bare = λ e. none-dropped q spares es ds d word.Template (s.is_bare e);
      is_full = λ e. full-dropped q spares es ds d (s.is_full e);
      owed = owed-same a.debt (length ms) (templates_among (core es)) (templates_among (core ds)) ok (has_no word.Template (core es)) (has_no word.Template (core ds)) (count-same q spares es ds d) (template-same q spares es ds d) s.owed;
      none_kept = s.none_kept;
      one_kept = s.one_kept;
      texts = s.texts;
      is_text = s.is_text;
      late = s.late;
      modes = s.modes;
    }
