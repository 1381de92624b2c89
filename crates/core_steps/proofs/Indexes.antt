-- The journal's map has what is found in the list of fetches.
use Rattle.std.proofs.Common.{◌≡◌, ℕ, Bool, true, false, cond, List, [], ◌∷◌, ◌++◌, reverse, Option, Some, None, String, BTreeMap, refl, sym, ◌∙◌, ap, subst}
use Rattle.std.specs.Prelude.{IfSome, IfNone, is_some, option_map, if◌then◌else◌}
use Rattle.std.specs.declared.snapshot.Snapshot.{Snapshot}
use denote.Bor.{Bor}
use Rattle.std.specs.BTreeMap.{is_at, get_by_text}
use Rattle.std.specs.Map.{lookup, update}
use Rattle.std.specs.Ordering.{nat_cmp}
use Rattle.std.specs.Cmp.Lexicographic.{slice_cmp}
use Rattle.std.specs.String.{string_bytes}
use Rattle.std.specs.Str.{chars, bytes_eq, IsUtf8}
use Rattle.std.proofs.lemmas.List.{reverse-append}
use Rattle.html_types.specs.Text.{same_text}
use Rattle.html_types.proofs.TextLemmas.{same_text-chars}
use Rattle.serial.specs.Scripts.{Fetched}
use Rattle.core_steps.specs.declared.fetch.Fetch.{Fetch}
use Rattle.core_steps.specs.declared.fetch.FetchedFile.{FetchedFile}
use Rattle.core_steps.specs.Fetches.{fetched_of, fetches_of}
use Rattle.core_steps.specs.Journals.{found, AreIndexed}

-- the latest fetch comes first
pub fetches-then : (fs : List (Snapshot FetchedFile)) (f : Snapshot FetchedFile) → fetches_of (reverse (fs ++ f ∷ [])) ≡ (f.value.name, fetched_of f.value.fetch) ∷ fetches_of (reverse fs)
fetches-then fs f = ap fetches_of (reverse-append fs (f ∷ []))

module _ {Y : Type 0} where
  -- nothing is fetched
  pub none-indexed : (m : BTreeMap (String Y) Fetch) (fs : List (Snapshot FetchedFile)) → m.entries ≡ [] → fs ≡ [] → AreIndexed m (fetches_of (reverse fs))
  none-indexed m fs none first = subst (λ (l : List (Snapshot FetchedFile)). AreIndexed m (fetches_of (reverse l))) (sym first) (record {
    each = λ bytes utf8. ap (λ es. option_map fetched_of (lookup (is_at (λ k. slice_cmp nat_cmp bytes (string_bytes k))) es)) (sym none);
  })

  -- one more is fetched
  pub more-indexed : (m n : BTreeMap (String Y) Fetch) (fs : List (List ℕ × Fetched)) (key name : List ℕ) (fetch : Fetch) → IsUtf8 key → chars key ≡ name →
      ((bytes : List ℕ) → get_by_text n bytes ≡ update bytes_eq (get_by_text m) key (Some fetch) bytes) → AreIndexed m fs → AreIndexed n ((name, fetched_of fetch) ∷ fs)
  more-indexed m n fs key name fetch utf8 is updates h = record {
    each = λ bytes u.
        ap (λ t. if same_text t (chars bytes) then Some (fetched_of fetch) else found (chars bytes) fs) (sym is)
        ∙ (by bytes u (same_text (chars key) (chars bytes)) ∙ (ap (λ b. option_map fetched_of (cond b (Some fetch) (get_by_text m bytes))) (sym (same_text-chars key bytes utf8 u)) ∙ ap (option_map fetched_of) (sym (updates bytes))));
  }
    where
      by : (bytes : List ℕ) → IsUtf8 bytes → (b : Bool) → (if b then Some (fetched_of fetch) else found (chars bytes) fs) ≡ option_map fetched_of (cond b (Some fetch) (get_by_text m bytes))
      by bytes u true = refl
      by bytes u false = h.each bytes u

  -- the list has it last
  pub fetch-indexed : (m n : BTreeMap (String Y) Fetch) (fs gs hs : List (Snapshot FetchedFile)) (f : Snapshot FetchedFile) (file : FetchedFile) (key : List ℕ) → IsUtf8 key → chars key ≡ file.name → gs ≡ fs → hs ≡ gs ++ f ∷ [] → f.value ≡ file →
      ((bytes : List ℕ) → get_by_text n bytes ≡ update bytes_eq (get_by_text m) key (Some file.fetch) bytes) → AreIndexed m (fetches_of (reverse fs)) → AreIndexed n (fetches_of (reverse hs))
  fetch-indexed m n fs gs hs f file key utf8 is same more value updates h =
      let all : fetches_of (reverse hs) ≡ (file.name, fetched_of file.fetch) ∷ fetches_of (reverse fs) =
      ap (λ (l : List (Snapshot FetchedFile)). fetches_of (reverse l)) (more ∙ ap (λ (l : List (Snapshot FetchedFile)). l ++ f ∷ []) same)
      ∙ (fetches-then fs f ∙ ap (λ (g : FetchedFile). (g.name, fetched_of g.fetch) ∷ fetches_of (reverse fs)) value) in
      subst (AreIndexed n) (sym all) (more-indexed m n (fetches_of (reverse fs)) key file.name file.fetch utf8 is updates h)

  -- what is looked up is what is found
  pub found-some : (m : BTreeMap (String Y) Fetch) (fs : List (List ℕ × Fetched)) (bytes : List ℕ) (o : Option (Bor Fetch)) → AreIndexed m fs → IsUtf8 bytes → option_map (λ r. r.now) o ≡ get_by_text m bytes →
      IfSome o (λ f. found (chars bytes) fs ≡ Some (fetched_of f.now))
  found-some m fs bytes None h utf8 is = tt
  found-some m fs bytes (Some f) h utf8 is = h.each bytes utf8 ∙ ap (option_map fetched_of) (sym is)

  pub found-none : (m : BTreeMap (String Y) Fetch) (fs : List (List ℕ × Fetched)) (bytes : List ℕ) (o : Option (Bor Fetch)) → AreIndexed m fs → IsUtf8 bytes → option_map (λ r. r.now) o ≡ get_by_text m bytes →
      IfNone o (found (chars bytes) fs ≡ None)
  found-none m fs bytes None h utf8 is = h.each bytes utf8 ∙ ap (option_map fetched_of) (sym is)
  found-none m fs bytes (Some f) h utf8 is = tt

-- the same as a test
pub is-found : (o : Option (Bor Fetch)) (f : Option Fetched) → IfSome o (λ r. f ≡ Some (fetched_of r.now)) → IfNone o (f ≡ None) → is_some o ≡ is_some f
is-found None f some none = ap is_some (sym none)
is-found (Some r) f some none = ap is_some (sym some)
