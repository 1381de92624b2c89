-- A window's pages: read one behind another, and written so.
use Rattle.std.proofs.Common.{◌≡◌, ◌≤◌, ◌<◌, ◌+◌, ℕ, suc, zero, List, [], ◌∷◌, ◌++◌, length, take, drop, get_or, take-append-drop, Option, Some, refl, sym, ap, subst, ◌∙◌, append_assoc, append-nil, arith}
use Rattle.std.specs.List.{AllByRecursion}
use Rattle.std.proofs.lemmas.List.{length_push, length-map, length-take-le, map-append, take_more, take_all}
use Rattle.std.proofs.Math.Seq.{split_at}
use Rattle.standard.specs.Entities.{Entities}
use Rattle.outside.specs.Outside.{Begun, Seen, KeepsOthers}
use Rattle.outside.specs.declared.traits.Port.TheVariants.{Page, Script}
use Rattle.outside.proofs.KeepsLemmas.{keeps-same, keeps-then}
use Rattle.page_turns.specs.declared.page.TheConstants.{PAGE_LIMIT}
use Rattle.page_turns.specs.Calls.{EachWithin}
use Rattle.page_turns.specs.Given.{Given, unmet}
use Rattle.page_turns.specs.Pages.{PageRead}
use Rattle.page_turns.specs.Taken.{Took, TookFront}
use Rattle.page_turns.proofs.CallLemmas.{each_none, each_then}
use Rattle.page_turns.proofs.KeepsLemmas.{begun_none, begun_then}
use Rattle.page_turns.proofs.PageTakenLemmas.{took_nothing, took_then, front_then, front_longer, front_of_all}
use Rattle.page_batch.specs.declared.going.Part.{Part}
use Rattle.page_batch.specs.Reading.{MayRead, ReadsPages}
use Rattle.page_batch.specs.Slots.{Slotted, HasPart}
use Rattle.page_batch.specs.Windows.{files_in, written_of, texts_of, HaveParts, ReadsFront, ReadsInPart, WritesAll, WritesInPart}
use Rattle.page_batch.proofs.PagesLemmas.{reads-then, reads-one}
use Rattle.page_batch.proofs.WindowLemmas.{texts-then, texts-front}

-- ---- one item more of a list

pub take-one : {A : Type 0} (n : ℕ) (xs : List A) (x : A) (rest : List A) → drop n xs ≡ x ∷ rest → take (suc n) xs ≡ take n xs ++ x ∷ []
take-one zero [] x rest is = absurd (cc is)
take-one zero (y ∷ ys) x rest is = ap (λ l. take 1 l) is
take-one (suc n) [] x rest is = absurd (cc is)
take-one (suc n) (y ∷ ys) x rest is = ap (λ l. y ∷ l) (take-one n ys x rest is)

pub drop-one : {A : Type 0} (n : ℕ) (xs : List A) (x : A) (rest : List A) → drop n xs ≡ x ∷ rest → drop (suc n) xs ≡ rest
drop-one zero [] x rest is = absurd (cc is)
drop-one zero (y ∷ ys) x rest is = ap (λ l. drop 1 l) is
drop-one (suc n) [] x rest is = absurd (cc is)
drop-one (suc n) (y ∷ ys) x rest is = drop-one n ys x rest is

pub drop-there : {A : Type 0} (n : ℕ) (xs : List A) (x : A) (rest : List A) → drop n xs ≡ x ∷ rest → n < length xs
drop-there zero [] x rest is = absurd (cc is)
drop-there zero (y ∷ ys) x rest is = omega arith
drop-there (suc n) [] x rest is = absurd (cc is)
drop-there (suc n) (y ∷ ys) x rest is = let there = drop-there n ys x rest is in omega (arith, there)

pub all-more : {A : Type 0} (P : A → Type 0) (xs : List A) (x : A) → AllByRecursion P xs → P x → AllByRecursion P (xs ++ x ∷ [])
all-more P [] x all here = (here, tt)
all-more P (y ∷ ys) x all here = (all.0, all-more P ys x all.1 here)

-- ---- reading

pub front-none : (paths : List (List ℕ)) (before : Seen) → ReadsFront paths [] before before
front-none paths before = record {
  front = omega arith;
  reads = keeps-same Script before;
  begun = begun_none (before.begun Page) (before.begun Page) refl;
  within = each_none PAGE_LIMIT Page before before refl;
  others = keeps-same Page before;
}

module _ (paths : List (List ℕ)) (pages : List (Given PageRead)) (path : List ℕ) (rest : List (List ℕ)) (page : Given PageRead) (before now after : Seen) where
  pub front-more : drop (length pages) paths ≡ path ∷ rest → ReadsFront paths pages before now → MayRead path now after page → Begun (now.begun Page) (after.begun Page) (path ∷ []) → EachWithin PAGE_LIMIT Page now after → KeepsOthers Page now after
      → ReadsFront paths (pages ++ page ∷ []) before after
  front-more is h may begun within others =
      let more : length (pages ++ page ∷ []) ≡ suc (length pages) = let len = length_push pages page in omega (arith, len) in
      let one : take (length (pages ++ page ∷ [])) paths ≡ take (length pages) paths ++ path ∷ [] = ap (λ n. take n paths) more ∙ take-one (length pages) paths path rest is in
      let there = drop-there (length pages) paths path rest is in
      record {
        front = omega (arith, more, there);
        reads = subst (λ l. ReadsPages l (pages ++ page ∷ []) before after) (sym one) (reads-then (take (length pages) paths) (path ∷ []) pages (page ∷ []) before now after h.reads (reads-one path page now after may others));
        begun = subst (λ l. Begun (before.begun Page) (after.begun Page) l) (sym one) (begun_then (before.begun Page) (now.begun Page) (after.begun Page) (take (length pages) paths) (path ∷ []) h.begun begun);
        within = each_then PAGE_LIMIT Page before now after h.within within;
        others = keeps-then Page before now after h.others others;
      }

-- memory ran out while a page was read
pub front-cut : (paths : List (List ℕ)) (pages : List (Given PageRead)) (path : List ℕ) (rest : List (List ℕ)) (before now after : Seen) → drop (length pages) paths ≡ path ∷ rest → ReadsFront paths pages before now
    → Begun (now.begun Page) (after.begun Page) (path ∷ []) → EachWithin PAGE_LIMIT Page now after → KeepsOthers Page now after → ReadsInPart paths before after
front-cut paths pages path rest before now after is h begun within others = (pages ++ unmet ∷ [], front-more paths pages path rest unmet before now after is h tt begun within others)

-- ---- by the slots of the pages that were read

pub files-count : (slots : List Slotted) → length (files_in slots) ≡ length slots
files-count slots = length-map slots (λ (slot : Slotted). slot.page)

files-more : (slots : List Slotted) (slot : Slotted) → files_in (slots ++ slot ∷ []) ≡ files_in slots ++ slot.page ∷ []
files-more slots slot = map-append (λ (s : Slotted). s.page) slots (slot ∷ [])

module _ (paths : List (List ℕ)) (slots : List Slotted) (path : List ℕ) (behind all : List (List ℕ)) (is : all ≡ path ∷ behind) (at : all ≡ drop (length slots) paths) (before now after : Seen) (h : ReadsFront paths (files_in slots) before now) where
  stands : drop (length (files_in slots)) paths ≡ path ∷ behind
  stands = ap (λ n. drop n paths) (files-count slots) ∙ (sym at ∙ is)

  pub slots-rest : (slot : Slotted) (news : List Slotted) → news ≡ slots ++ slot ∷ [] → behind ≡ drop (length news) paths
  slots-rest slot news new =
      let len = ap length new in
      let more = length_push slots slot in
      let count : length news ≡ suc (length slots) = omega (arith, len, more) in
      sym (ap (λ n. drop n paths) count ∙ drop-one (length slots) paths path behind (sym at ∙ is))

  module _ (path' : List ℕ) (here : path' ≡ path) (page : Given PageRead) (may : MayRead path' now after page) (begun : Begun (now.begun Page) (after.begun Page) (path' ∷ [])) (within : EachWithin PAGE_LIMIT Page now after) (others : KeepsOthers Page now after) where
    one-more : ReadsFront paths (files_in slots ++ page ∷ []) before after
    one-more =
        front-more paths (files_in slots) path behind page before now after stands h (subst (λ x. MayRead x now after page) here may) (subst (λ x. Begun (now.begun Page) (after.begun Page) (x ∷ [])) here begun) within others

    -- one page more was read
    pub slots-more : (slot : Slotted) (news : List Slotted) → news ≡ slots ++ slot ∷ [] → slot.page ≡ page → ReadsFront paths (files_in news) before after
    slots-more slot news new same =
        subst (λ l. ReadsFront paths (files_in l) before after) (sym new) (subst (λ l. ReadsFront paths l before after) (sym (files-more slots slot ∙ ap (λ (x : Given PageRead). files_in slots ++ x ∷ []) same)) one-more)

    -- memory ran out while it was read, or behind that
    pub slots-cut : ReadsInPart paths before after
    slots-cut = (files_in slots ++ page ∷ [], one-more)

pub some-there : (n : ℕ) → (n ≡ 0 → ⊥) → 0 < n
some-there zero none = absurd (none refl)
some-there (suc n) none = omega arith

-- all were read
pub all-read : (paths : List (List ℕ)) (slots : List Slotted) → 0 ≡ length (drop (length slots) paths) → 0 < length paths → 0 < length slots
all-read paths [] none some = absurd (omega (arith, none, some))
all-read paths (slot ∷ slots) none some = omega arith

-- ---- writing

have-more : (es : Entities) (slots : List Slotted) (parts : List Part) (slot : Slotted) (part : Part) → HaveParts es slots parts → HasPart es slot part → HaveParts es (slots ++ slot ∷ []) (parts ++ part ∷ [])
have-more es [] [] slot part have has = (has, tt)
have-more es (s ∷ slots) (p ∷ parts) slot part (one, have) has = (one, have-more es slots parts slot part have has)
have-more es [] (p ∷ parts) slot part have has = absurd have
have-more es (s ∷ slots) [] slot part have has = absurd have

have-count : (es : Entities) (slots : List Slotted) (parts : List Part) → HaveParts es slots parts → length parts ≡ length slots
have-count es [] [] have = refl
have-count es (s ∷ slots) (p ∷ parts) (one, have) = ap suc (have-count es slots parts have)
have-count es [] (p ∷ parts) have = absurd have
have-count es (s ∷ slots) [] have = absurd have

pub writes-none : (es : Entities) (t : Option (List ℕ)) → WritesAll es [] [] t t
writes-none es t = record { parts = []; have = tt; took = took_nothing t }

module _ (es : Entities) (paths : List (List ℕ)) (slots : List Slotted) (len : length paths ≡ length slots) (t u : Option (List ℕ)) (h : WritesAll es paths slots t u) where
  counted : length h.parts ≡ length paths
  counted = have-count es slots h.parts h.have ∙ sym len

  -- one part more
  pub writes-more : (path : List ℕ) (slot : Slotted) (part : Part) (v : Option (List ℕ)) → HasPart es slot part → Took u v (written_of path part) → WritesAll es (paths ++ path ∷ []) (slots ++ slot ∷ []) t v
  writes-more path slot part v has took = record {
    parts = h.parts ++ part ∷ [];
    have = have-more es slots h.parts slot part h.have has;
    took = subst (λ x. Took t v x) (sym (texts-then paths (path ∷ []) h.parts (part ∷ []) counted))
        (took_then t u v (texts_of paths h.parts) (written_of path part ++ []) h.took (subst (λ x. Took u v x) (sym (append-nil (written_of path part))) took));
  }

  -- a part in part
  pub writes-cut : (path : List ℕ) (more : List (List ℕ)) (slot : Slotted) (rest : List Slotted) (part : Part) (v : Option (List ℕ)) → HasPart es slot part → TookFront u v (written_of path part)
      → WritesInPart es (paths ++ path ∷ more) (slots ++ slot ∷ rest) t v
  writes-cut path more slot rest part v has front = record {
    front = slots ++ slot ∷ [];
    rest = rest;
    is = sym (append_assoc slots (slot ∷ []) rest);
    parts = h.parts ++ part ∷ [];
    have = have-more es slots h.parts slot part h.have has;
    took = subst (λ x. TookFront t v x) (sym (texts-then paths (path ∷ more) h.parts (part ∷ []) counted))
        (front_then t u v (texts_of paths h.parts) (written_of path part ++ texts_of more []) h.took (front_longer u v (written_of path part) (texts_of more []) front));
  }

  -- none further
  pub writes-stop : (more : List (List ℕ)) (rest : List Slotted) → WritesInPart es (paths ++ more) (slots ++ rest) t u
  writes-stop more rest = record {
    front = slots;
    rest = rest;
    is = refl;
    parts = h.parts;
    have = h.have;
    took = subst (λ x. TookFront t u x) (sym (texts-front paths more h.parts (omega (arith, counted)))) (front_of_all t u (texts_of paths h.parts) h.took);
  }

-- ---- by the place

module _ (es : Entities) (paths : List (List ℕ)) (slots : List Slotted) (i : ℕ) (len : length paths ≡ length slots) (t u : Option (List ℕ)) (h : WritesAll es (take i paths) (take i slots) t u) where
  fronts : i ≤ length slots → length (take i paths) ≡ length (take i slots)
  fronts within = length-take-le i paths (omega (arith, within, len)) ∙ sym (length-take-le i slots within)

  -- the page at the place isn't over
  pub stops-at : i < length slots → WritesInPart es paths slots t u
  stops-at there =
      subst (λ l. WritesInPart es l slots t u) (take-append-drop i paths) (subst (λ l. WritesInPart es (take i paths ++ drop i paths) l t u) (take-append-drop i slots)
      (writes-stop es (take i paths) (take i slots) (fronts (omega (arith, there))) t u h (drop i paths) (drop i slots)))

  module _ (path : List ℕ) (slot : Slotted) (part : Part) (there : i < length slots) (path-is : path ≡ get_or paths i path) (slot-is : slot ≡ get_or slots i slot) (has : HasPart es slot part) (v : Option (List ℕ)) where
    paths-one : take (i + 1) paths ≡ take i paths ++ path ∷ []
    paths-one = take_more paths i path (omega (arith, there, len)) ∙ ap (λ (x : List ℕ). take i paths ++ x ∷ []) (sym path-is)

    slots-one : take (i + 1) slots ≡ take i slots ++ slot ∷ []
    slots-one = take_more slots i slot there ∙ ap (λ (x : Slotted). take i slots ++ x ∷ []) (sym slot-is)

    pub writes-at : Took u v (written_of path part) → WritesAll es (take (i + 1) paths) (take (i + 1) slots) t v
    writes-at took =
        subst (λ l. WritesAll es l (take (i + 1) slots) t v) (sym paths-one) (subst (λ l. WritesAll es (take i paths ++ path ∷ []) l t v) (sym slots-one)
        (writes-more es (take i paths) (take i slots) (fronts (omega (arith, there))) t u h path slot part v has took))

    whole-paths : take i paths ++ path ∷ drop (suc i) paths ≡ paths
    whole-paths = sym (split_at paths i path (omega (arith, there, len)) ∙ ap (λ (x : List ℕ). take i paths ++ x ∷ drop (suc i) paths) (sym path-is))

    whole-slots : take i slots ++ slot ∷ drop (suc i) slots ≡ slots
    whole-slots = sym (split_at slots i slot there ∙ ap (λ (x : Slotted). take i slots ++ x ∷ drop (suc i) slots) (sym slot-is))

    pub cuts-at : TookFront u v (written_of path part) → WritesInPart es paths slots t v
    cuts-at front =
        subst (λ l. WritesInPart es l slots t v) whole-paths (subst (λ l. WritesInPart es (take i paths ++ path ∷ drop (suc i) paths) l t v) whole-slots
        (writes-cut es (take i paths) (take i slots) (fronts (omega (arith, there))) t u h path (drop (suc i) paths) slot (drop (suc i) slots) part v has front))

-- all of them
pub writes-whole : (es : Entities) (paths : List (List ℕ)) (slots : List Slotted) (i : ℕ) (t u : Option (List ℕ)) → length paths ≡ length slots → length slots ≤ i → WritesAll es (take i paths) (take i slots) t u → WritesAll es paths slots t u
writes-whole es paths slots i t u len all h =
    subst (λ l. WritesAll es l slots t u) (take_all i paths (omega (arith, len, all))) (subst (λ l. WritesAll es (take i paths) l t u) (take_all i slots all) h)
