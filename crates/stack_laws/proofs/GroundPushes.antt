-- An element more on the stack: what was claimed of it still holds.
use Rattle.std.proofs.Common.{◌≡◌, refl, sym, ap, subst, ◌∙◌, true≢false, suc, Bool, true, false, not, ◌&&◌, List, [], ◌∷◌, length, Option, Some, None}
use Rattle.std.specs.Prelude.{if◌then◌else◌}
use Rattle.html_types.proofs.WordLemmas.{word_decides}
use Rattle.html_types.specs.Operations.{same_id}
use Rattle.html_types.specs.Words.{same_word}
use Rattle.html_types.specs.declared.word.Word.{Word}
use Rattle.html_types.specs.declared.word.Word.TheVariants as word
use Rattle.html_types.specs.declared.name.Name.{Name}
use Rattle.html_types.specs.declared.name.Name.TheVariants.{Known, Other}
use Rattle.html_types.specs.declared.instruction.Mode.{Mode}
use Rattle.html_types.specs.declared.instruction.Mode.TheVariants as mode
use Rattle.html_types.specs.declared.operation.NodeId.{NodeId}
use Rattle.html_types.specs.declared.open.OpenElement.{OpenElement}
use Rattle.html_types.specs.declared.open.FormattingEntry.{FormattingEntry}
use Rattle.html_types.specs.declared.open.FormattingEntry.TheVariants.{Marker, Element}
use Rattle.standard.specs.Rows.{has_word}
use Rattle.standard.specs.Elements.{is_word}
use Rattle.standard.specs.Stack.{is_open, is_empty}
use Rattle.rule_laws.specs.Naming.{AreOpenBound, AreFormatsBound, IsBoundIfAny}
use Rattle.stack_laws.specs.Grounded.{is_vital, is_guard, is_formatting, is_known, is_special, with_name, core, templates_among, no_words, has_no, is_placed, is_orderly, reaches, is_rooted, is_loose, is_loose_if_any, is_apart, are_apart, are_listed, Firm, has_facts, stands, main_mode}
use Rattle.rule_laws.proofs.Calm.{split}
use Rattle.rule_laws.proofs.Takes.{both}
use Rattle.rule_laws.proofs.FreshnessDocs.{same-true}
use Rattle.stack_laws.proofs.Cores.{not-false, neither, to-false, has_no-kept, templates-kept, reaches-more, loose-closed}
use Rattle.stack_laws.proofs.Popped.{template-vital}
use Rattle.stack_laws.proofs.GroundAdoption.{entry-listed}
use Rattle.stack_laws.proofs.Grounds.{At, Claim, the, fits, lost, even, owes_ok, Claimed, Owes, Sound}

-- the id is none of those that the open state holds
pub record Unseen (known : NodeId → Bool) (id : NodeId) (es : List OpenElement) (fs : List FormattingEntry) (form : Option NodeId) : Type 0 where
  pub open_bound : AreOpenBound known es
  pub listed_bound : AreFormatsBound known fs
  pub form_bound : IsBoundIfAny known form
  pub unknown : known id ≡ false

known-apart : (known : NodeId → Bool) (id i : NodeId) → known id ≡ false → known i ≡ true → same_id id i ≡ false
known-apart known id i h k = to-false (same_id id i) (λ s. true≢false (sym k ∙ subst (λ j. known j ≡ false) (same-true id i s) h))

pub closed-unseen : (known : NodeId → Bool) (id : NodeId) (es : List OpenElement) → known id ≡ false → AreOpenBound known es → is_open id es ≡ false
closed-unseen known id [] h a = refl
closed-unseen known id (e ∷ es) h a =
    neither (same_id e.id id) (is_open id es) (to-false (same_id e.id id) (λ s. true≢false (sym (subst (λ i. known i ≡ true) (same-true e.id id s) a.0) ∙ h))) (closed-unseen known id es h a.1)

module _ (known : NodeId → Bool) (e : OpenElement) (es : List OpenElement) (unknown : known e.id ≡ false) where
  loose-pushed : (q : Name → Bool) (i : NodeId) → known i ≡ true → is_loose q es i ≡ true → is_loose q (e ∷ es) i ≡ true
  loose-pushed q i k l = both (not (q e.name && same_id e.id i)) (is_loose q es i) (not-false (q e.name && same_id e.id i) (none (q e.name) (same_id e.id i) (known-apart known e.id i unknown k))) l
    where
      none : (v w : Bool) → w ≡ false → v && w ≡ false
      none true w h = h
      none false w h = refl

  listed-pushed : (fs : List FormattingEntry) → AreFormatsBound known fs → are_listed es fs ≡ true → are_listed (e ∷ es) fs ≡ true
  listed-pushed [] a l = refl
  listed-pushed (Marker ∷ fs) a l = listed-pushed fs a l
  listed-pushed (Element id tag ∷ fs) a l =
      let p = split (is_known is_formatting tag.name && is_loose is_special es id) (are_listed es fs) l in
      let r = split (is_known is_formatting tag.name) (is_loose is_special es id) p.0 in
      entry-listed (e ∷ es) id tag fs r.0 (loose-pushed is_special id a.0 r.1) (listed-pushed fs a.1 p.1)

  owner-pushed : (q : Name → Bool) (form : Option NodeId) → IsBoundIfAny known form → is_loose_if_any q es form ≡ true → is_loose_if_any q (e ∷ es) form ≡ true
  owner-pushed q None a l = refl
  owner-pushed q (Some i) a l = loose-pushed q i a l

  apart-pushed : AreOpenBound known es → are_apart es ≡ true → are_apart (e ∷ es) ≡ true
  apart-pushed a l = both (is_apart e es) (are_apart es) (by (is_special e.name)) l
    where
      shut : is_open e.id es ≡ false
      shut = closed-unseen known e.id es unknown a

      by : (v : Bool) → (if v then not (is_open e.id es) else is_loose is_special es e.id) ≡ true
      by true = not-false (is_open e.id es) shut
      by false = loose-closed is_special e.id es shut

pub firm-pushed : (known : NodeId → Bool) (e : OpenElement) (es : List OpenElement) (fs : List FormattingEntry) (form : Option NodeId) → Unseen known e.id es fs form
    → is_orderly (with_name e.name (core es)) ≡ true → is_rooted (e ∷ es) ≡ true → Firm es fs form → Firm (e ∷ es) fs form
firm-pushed known e es fs form u o r f = record {
  order = o;
  root = r;
  apart = apart-pushed known e es u.unknown u.open_bound f.apart;
  entries = listed-pushed known e es u.unknown fs u.listed_bound f.entries;
  owner = owner-pushed known e es u.unknown (is_known is_guard) form u.form_bound f.owner;
}

-- ---- names that may be pushed

abbrev pub is_low : Word → Bool
is_low w = has_word (word.Head ∷ word.Frameset ∷ []) w

full-open : (es : List OpenElement) → has_no word.Html (core es) ≡ false → is_empty es ≡ false
full-open [] h = absurd (true≢false h)
full-open (e ∷ es) h = refl

rooted-pushed : (e : OpenElement) (es : List OpenElement) → is_empty es ≡ false → is_rooted es ≡ true → is_rooted (e ∷ es) ≡ true
rooted-pushed e [] h r = absurd (true≢false h)
rooted-pushed e (d ∷ es) h r = r

orderly-pushed : (n : Name) (ws : List Word) → is_known is_vital n ≡ false → (is_known is_low n ≡ true → has_no word.Template ws ≡ true) → is_orderly ws ≡ true → is_orderly (with_name n ws) ≡ true
orderly-pushed (Other s t) ws h k o = o
orderly-pushed (Known w) ws h k o = by (is_guard w)
  where
    no_html : same_word w word.Html ≡ false
    no_html = to-false (same_word w word.Html) (λ s. true≢false (sym (subst (λ v. is_vital v ≡ true) (sym ((word_decides w word.Html).0 s)) refl) ∙ h))

    low : (v : Bool) → is_low w ≡ v → (if v then has_no word.Template ws else true) ≡ true
    low true e = k e
    low false e = refl

    placed : (v : Bool) → v ≡ false → (if v then no_words ws else (if is_low w then has_no word.Template ws else true)) ≡ true
    placed true e = absurd (true≢false e)
    placed false e = low (is_low w) refl

    by : (v : Bool) → is_orderly (if v then w ∷ ws else ws) ≡ true
    by true = both (is_placed w ws) (is_orderly ws) (placed (same_word w word.Html) no_html) o
    by false = o

facts-pushed : (m : Mode) (n : Name) (ws : List Word) → is_known is_vital n ≡ false → has_facts m ws ≡ true → has_facts m (with_name n ws) ≡ true
facts-pushed mode.BeforeHead n ws h f = has_no-kept word.Template n ws (template-vital n h) ∙ f
facts-pushed mode.InHead n ws h f =
    let g = split (has_no word.Template ws) (reaches (has_word (word.Head ∷ [])) ws) f in
    both (has_no word.Template (with_name n ws)) (reaches (has_word (word.Head ∷ [])) (with_name n ws)) (has_no-kept word.Template n ws (template-vital n h) ∙ g.0) (reaches-more (has_word (word.Head ∷ [])) n ws h g.1)
facts-pushed mode.AfterHead n ws h f = has_no-kept word.Template n ws (template-vital n h) ∙ f
facts-pushed mode.InFrameset n ws h f = has_no-kept word.Template n ws (template-vital n h) ∙ f
facts-pushed mode.InCell n ws h f = reaches-more (has_word (word.Td ∷ word.Th ∷ [])) n ws h f
facts-pushed mode.InSelectInTable n ws h f = reaches-more (has_word (word.Select ∷ [])) n ws h f
facts-pushed mode.InTemplate n ws h f = ap not (has_no-kept word.Template n ws (template-vital n h)) ∙ f
facts-pushed _ n ws h f = refl

html-vital-name : (n : Name) → is_known is_vital n ≡ false → is_word word.Html n ≡ false
html-vital-name (Other s t) h = refl
html-vital-name (Known w) h = to-false (same_word w word.Html) (λ s. true≢false (sym (subst (λ v. is_vital v ≡ true) (sym ((word_decides w word.Html).0 s)) refl) ∙ h))

module _ (e : OpenElement) (es : List OpenElement) (plain : is_known is_vital e.name ≡ false) (full : has_no word.Html (core es) ≡ false) where
  still_full : has_no word.Html (core (e ∷ es)) ≡ false
  still_full = has_no-kept word.Html e.name (core es) (html-vital-name e.name plain) ∙ full

  late-pushed : (m : Mode) → not (has_no word.Html (core es)) && has_facts m (core es) ≡ true → not (has_no word.Html (core (e ∷ es))) && has_facts m (core (e ∷ es)) ≡ true
  late-pushed m h =
      let g = split (not (has_no word.Html (core es))) (has_facts m (core es)) h in
      both (not (has_no word.Html (core (e ∷ es)))) (has_facts m (core (e ∷ es))) (not-false (has_no word.Html (core (e ∷ es))) still_full) (facts-pushed m e.name (core es) plain g.1)

  pub stands-pushed : (m : Mode) → stands m es ≡ true → stands m (e ∷ es) ≡ true
  stands-pushed mode.Initial h = absurd (true≢false (sym h ∙ full-open es full))
  stands-pushed mode.BeforeHtml h = absurd (true≢false (sym h ∙ full-open es full))
  stands-pushed m h = late-pushed m h

claim-pushed : (e : OpenElement) (es : List OpenElement) → is_known is_vital e.name ≡ false → has_no word.Html (core es) ≡ false → (c : Claim) (now : Mode) → Claimed c now es → Claimed c now (e ∷ es)
claim-pushed e es h f (the m) now c = (c.0, stands-pushed e es h f m c.1)
claim-pushed e es h f fits now c = stands-pushed e es h f now c
claim-pushed e es h f lost now c = tt

-- one that isn't vital
pub sound-pushed : (known : NodeId → Bool) (e : OpenElement) (a : At) (es : List OpenElement) (fs : List FormattingEntry) (form : Option NodeId) (m : Mode) (m0 : Option Mode) (ms : List Mode) (ok : Bool)
    → Unseen known e.id es fs form → is_known is_vital e.name ≡ false → (is_known is_low e.name ≡ true → a.bare ≡ true) → a.full ≡ true
    → Sound a es fs form m m0 ms ok → Sound a (e ∷ es) fs form m m0 ms ok
sound-pushed known e a es fs form m m0 ms ok u plain low full s = record {
  firm =
      firm-pushed known e es fs form u (orderly-pushed e.name (core es) plain (λ g. s.is_bare (low g)) s.firm.order)
      (rooted-pushed e es (full-open es (s.is_full full)) s.firm.root) s.firm;
  claimed = claim-pushed e es plain (s.is_full full) a.claim (main_mode m m0) s.claimed;
  is_bare = λ g. has_no-kept word.Template e.name (core es) (template-vital e.name plain) ∙ s.is_bare g;
  is_full = λ g. still_full e es plain (s.is_full g);
  owed = owed-pushed;
  none_kept = s.none_kept;
  one_kept = s.one_kept;
  texts = s.texts;
  is_text = s.is_text;
  late = s.late;
  modes = s.modes;
}
  where
    owed-pushed : Owes a.debt (length ms) (templates_among (core (e ∷ es))) ok (has_no word.Template (core (e ∷ es)))
    owed-pushed =
        subst (λ x. Owes a.debt (length ms) x ok (has_no word.Template (core (e ∷ es)))) (sym (templates-kept e.name (core es) (template-vital e.name plain)))
        (subst (λ x. Owes a.debt (length ms) (templates_among (core es)) ok x) (sym (has_no-kept word.Template e.name (core es) (template-vital e.name plain))) s.owed)

-- a template
template-named : (P : Name → Type 0) (n : Name) → is_word word.Template n ≡ true → P (Known word.Template) → P n
template-named P (Known w) h p = subst (λ v. P (Known v)) (sym ((word_decides w word.Template).0 h)) p
template-named P (Other s t) h p = absurd (true≢false (sym h))

abbrev pub templated : At → At
templated a = record a { claim = lost; bare = false; debt = owes_ok }

pub sound-templated : (known : NodeId → Bool) (e : OpenElement) (a : At) (es : List OpenElement) (fs : List FormattingEntry) (form : Option NodeId) (m : Mode) (m0 : Option Mode) (ms : List Mode) (ok : Bool)
    → Unseen known e.id es fs form → is_word word.Template e.name ≡ true → a.full ≡ true → Owes even (length ms) (templates_among (core es)) ok (has_no word.Template (core es))
    → Sound a es fs form m m0 ms ok → Sound (templated a) (e ∷ es) fs form m m0 ms ok
sound-templated known e a es fs form m m0 ms ok u is full owed s = record {
  firm =
      firm-pushed known e es fs form u (template-named (λ n. is_orderly (with_name n (core es)) ≡ true) e.name is s.firm.order)
      (rooted-pushed e es (full-open es (s.is_full full)) s.firm.root) s.firm;
  claimed = tt;
  is_bare = λ g. absurd (true≢false (sym g));
  is_full = λ g. template-named (λ n. has_no word.Html (with_name n (core es)) ≡ false) e.name is (s.is_full g);
  owed = ap suc owed.0 ∙ template-named (λ n. suc (templates_among (core es)) ≡ templates_among (with_name n (core es))) e.name is refl;
  none_kept = s.none_kept;
  one_kept = s.one_kept;
  texts = s.texts;
  is_text = s.is_text;
  late = s.late;
  modes = s.modes;
}

-- the html element
html-named : (P : Name → Type 0) (n : Name) → is_word word.Html n ≡ true → P (Known word.Html) → P n
html-named P (Known w) h p = subst (λ v. P (Known v)) (sym ((word_decides w word.Html).0 h)) p
html-named P (Other s t) h p = absurd (true≢false (sym h))

abbrev pub rooted : At → At
rooted a = record a { claim = lost; bare = true; full = true }

pub sound-rooted : (known : NodeId → Bool) (e : OpenElement) (a : At) (fs : List FormattingEntry) (form : Option NodeId) (m : Mode) (m0 : Option Mode) (ms : List Mode) (ok : Bool)
    → Unseen known e.id [] fs form → is_word word.Html e.name ≡ true → Sound a [] fs form m m0 ms ok → Sound (rooted a) (e ∷ []) fs form m m0 ms ok
sound-rooted known e a fs form m m0 ms ok u is s = record {
  firm = firm-pushed known e [] fs form u (html-named (λ n. is_orderly (with_name n []) ≡ true) e.name is refl) is s.firm;
  claimed = tt;
  is_bare = λ g. html-named (λ n. has_no word.Template (with_name n []) ≡ true) e.name is refl;
  is_full = λ g. html-named (λ n. has_no word.Html (with_name n []) ≡ false) e.name is refl;
  owed = html-named (λ n. Owes a.debt (length ms) (templates_among (with_name n [])) ok (has_no word.Template (with_name n []))) e.name is s.owed;
  none_kept = s.none_kept;
  one_kept = s.one_kept;
  texts = s.texts;
  is_text = s.is_text;
  late = s.late;
  modes = s.modes;
}
