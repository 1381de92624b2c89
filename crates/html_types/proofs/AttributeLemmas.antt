-- The names of attributes, and the set of them.
use Rattle.std.proofs.Common.{◌≡◌, ℕ, List, [], ◌∷◌, ◌++◌, Bool, true, false, cond, Option, Some, None, subst, take, drop, length, append_assoc, ◌||◌, if◌then◌else◌, String, string_bytes, refl, sym, ap, ◌∙◌}
use Rattle.std.specs.List.{list_any}
use Rattle.std.specs.Global.{Global, Box}
use Rattle.std.specs.Str.{chars, bytes_eq}
use Rattle.std.specs.String.{string_cmp}
use Rattle.std.specs.Ordering.{nat_cmp}
use Rattle.std.specs.Cmp.Lexicographic.{slice_cmp}
use Rattle.std.specs.BTreeMap.{is_at}
use Rattle.std.specs.BTreeSet.{BTreeSet, UpdatesBy, contains_text}
use Rattle.std.proofs.lemmas.List.{take-append-drop, take_at}
use Rattle.std.proofs.lemmas.Str.{IsUtf8-string_bytes}
use Rattle.std.proofs.lemmas.Map.Text.{btree_set_updates_text}
use Rattle.html_types.specs.Text.{same_text}
use Rattle.html_types.specs.declared.attributes.Attribute.{Attribute}
use Rattle.html_types.specs.declared.name_index.NameIndex.{NameIndex}
use Rattle.html_types.specs.Attributes.{has_name, with_missing, Finds, Indexes}
use Rattle.html_types.proofs.TextLemmas.{same_text-chars}

-- a set of no names
pub finds_none : (s : BTreeSet (String Global)) → s.keys ≡ [] → Finds s (λ name. false)
finds_none s none bs u = ap (list_any (is_at (λ (k : String Global). slice_cmp nat_cmp bs (string_bytes k)))) none

-- the same names
pub finds_kept : (s n : BTreeSet (String Global)) → n.keys ≡ s.keys → (f : List ℕ → Bool) → Finds s f → Finds n f
finds_kept s n same f finds bs u = ap (list_any (is_at (λ (k : String Global). slice_cmp nat_cmp bs (string_bytes k)))) same ∙ finds bs u

either : (a b : Bool) → cond a true b ≡ a || b
either true b = refl
either false b = refl

-- one more name
pub finds_more : (name : List ℕ) (key : String Global) → chars (string_bytes key) ≡ name → (s n : BTreeSet (String Global)) → UpdatesBy string_cmp (string_cmp key) s n true
    → (f : List ℕ → Bool) → Finds s f → Finds n (λ m. same_text name m || f m)
finds_more name key spells s n updates f finds bs u =
    btree_set_updates_text (string_bytes key) s n true updates bs
    ∙ either (bytes_eq (string_bytes key) bs) (contains_text s bs)
    ∙ ap (λ (b : Bool). b || contains_text s bs) (same_text-chars (string_bytes key) bs (IsUtf8-string_bytes key) u ∙ ap (λ (l : List ℕ). same_text l (chars bs)) spells)
    ∙ ap (λ (b : Bool). same_text name (chars bs) || b) (finds bs u)

exchanged : (a b c : Bool) → a || (b || c) ≡ b || (a || c)
exchanged true true c = refl
exchanged true false c = refl
exchanged false b c = refl

-- the names with one more attribute
pub has_name_append : (name : List ℕ) (as' : List Attribute) (b : Attribute) → has_name name (as' ++ b ∷ []) ≡ same_text b.name name || has_name name as'
has_name_append name [] b = refl
has_name_append name (a ∷ as') b = ap (λ (x : Bool). same_text a.name name || x) (has_name_append name as' b) ∙ exchanged (same_text a.name name) (same_text b.name name) (has_name name as')

-- the same names, by other words
pub finds_same : (s : BTreeSet (String Global)) (f g : List ℕ → Bool) → ((n : List ℕ) → f n ≡ g n) → Finds s f → Finds s g
finds_same s f g same finds bs u = finds bs u ∙ same (chars bs)

-- the names of one attribute more
pub finds_append : (s : BTreeSet (String Global)) (as' bs' : List Attribute) (b : Attribute) → bs' ≡ as' ++ b ∷ []
    → Finds s (λ n. same_text b.name n || has_name n as') → Finds s (λ n. has_name n bs')
finds_append s as' bs' b is = finds_same s _ _ (λ n. sym (ap (has_name n) is ∙ has_name_append n as' b))

-- what the index that is there finds
pub finds_held : (index : Option (Box NameIndex)) (b : Box NameIndex) (x : NameIndex) (f : List ℕ → Bool) → index ≡ Some b → x ≡ b.value → Indexes index f → Finds x.names f
finds_held index b x f is same has = subst (λ (i : NameIndex). Finds i.names f) (sym same) (subst (λ (o : Option (Box NameIndex)). Indexes o f) is has)

-- the index of the names of one attribute more
pub indexes_append : (index : Option (Box NameIndex)) (as' bs' : List Attribute) (b : Attribute) → bs' ≡ as' ++ b ∷ []
    → Indexes index (λ n. same_text b.name n || has_name n as') → Indexes index (λ n. has_name n bs')
indexes_append None as' bs' b is has = has
indexes_append (Some index) as' bs' b is has = finds_append index.value.names as' bs' b is has

-- ---- adding those that are missing

-- all that was there stays in front
pub missing_behind : (as' bs' : List Attribute) (b : Attribute) → take (length as') bs' ≡ as' → take (length as') (with_missing bs' (b ∷ [])) ≡ as'
missing_behind as' bs' b front = by_name (has_name b.name bs')
  where
    by_name : (has : Bool) → take (length as') (if has then bs' else bs' ++ b ∷ []) ≡ as'
    by_name true = front
    by_name false =
        let n = length as' in
        ap (take n) (ap (λ (l : List Attribute). l ++ b ∷ []) (sym (take-append-drop n bs') ∙ ap (λ (l : List Attribute). l ++ drop n bs') front) ∙ append_assoc as' (drop n bs') (b ∷ []))
        ∙ take_at as' (drop n bs' ++ b ∷ []) n refl
