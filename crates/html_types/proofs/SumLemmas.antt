-- Sums of attributes, from the last of them to the first.
use Rattle.std.proofs.Common.{◌≡◌, ℕ, ◌+◌, ◌*◌, ◌/◌, ◌%◌, ◌^◌, List, [], ◌∷◌, ◌++◌, Bool, true, false, not, Option, Some, None, append_assoc, append-nil, refl, sym, ap, ◌∙◌, arith, ◌||◌, String}
use Rattle.std.specs.Prelude.{IsTrue, sum_by}
use Rattle.std.specs.Global.{Global}
use Rattle.std.specs.BTreeSet.{BTreeSet}
use Rattle.std.specs.List.Sorted.{IsPermutation}
use Rattle.std.proofs.Math.Nat.{mod-add-div, add-mul-mod_self_left}
use Rattle.std.proofs.lemmas.List.Sorted.{sum_by-IsPermutation}
use Rattle.std.proofs.lemmas.List.Sums.{sum_by-cons}
use Rattle.html_types.specs.declared.attributes.Attribute.{Attribute}
use Rattle.html_types.specs.Text.{same_text}
use Rattle.html_types.specs.Attributes.{has_name, Finds}
use Rattle.html_types.specs.Sums.{pair_sum, are_distinct, HasSum, AreApart}

-- one number more
mod_more : (n s t h : ℕ) → s ≡ t % n → (s + h) % n ≡ (h + t) % n
mod_more n s t h e =
    let whole : h + t ≡ (s + h) + n * (t / n) = omega (arith, mod-add-div t n, e) in
    sym (ap (λ k. k % n) whole ∙ add-mul-mod_self_left (s + h) n (t / n))

-- The attributes behind those that are left are summed up, and no two of them have the same name.
pub record IsSummed (all left : List Attribute) (names : BTreeSet (String Global)) (sum : ℕ) : Type 0 where
  pub behind : List Attribute
  pub parts : all ≡ left ++ behind
  pub names_are : Finds names (λ name. has_name name behind)
  pub distinct : IsTrue (are_distinct behind)
  pub sum_is : sum ≡ sum_by pair_sum behind % 2 ^ 64

pub none_summed : (all : List Attribute) (names : BTreeSet (String Global)) → Finds names (λ name. false) → IsSummed all all names 0
none_summed all names finds = record { behind = []; parts = sym (append-nil all); names_are = finds; distinct = refl; sum_is = refl }

distinct-more : (a : Attribute) (as' : List Attribute) → has_name a.name as' ≡ false → IsTrue (are_distinct as') → IsTrue (are_distinct (a ∷ as'))
distinct-more a as' new distinct = rw new distinct

pub one_summed : (all left front : List Attribute) (last : Attribute) (names names' : BTreeSet (String Global)) (sum : ℕ) (was : IsSummed all left names sum) → left ≡ front ++ last ∷ []
    → has_name last.name was.behind ≡ false → Finds names' (λ name. same_text last.name name || has_name name was.behind) → IsSummed all front names' ((sum + pair_sum last) % 2 ^ 64)
one_summed all left front last names names' sum was split new finds = record {
  behind = last ∷ was.behind;
  parts = was.parts ∙ ap (λ l. l ++ was.behind) split ∙ append_assoc front (last ∷ []) was.behind;
  names_are = finds;
  distinct = distinct-more last was.behind new was.distinct;
  sum_is = rw (sum_by-cons pair_sum last was.behind) (mod_more (2 ^ 64) sum (sum_by pair_sum was.behind) (pair_sum last) was.sum_is);
}

pub all_summed : (all left : List Attribute) (names : BTreeSet (String Global)) (sum : ℕ) → left ≡ [] → IsSummed all left names sum → HasSum all (Some sum)
all_summed all left names sum none was =
    let whole : was.behind ≡ all = sym (was.parts ∙ ap (λ l. l ++ was.behind) none) in
    (ap are_distinct (sym whole) ∙ was.distinct, was.sum_is ∙ ap (λ l. sum_by pair_sum l % 2 ^ 64) whole)

-- lists with other sums
pub other_sums : (as' bs : List Attribute) (s t : ℕ) → HasSum as' (Some s) → HasSum bs (Some t) → (s ≡ t → ⊥) → AreApart as' bs
other_sums as' bs s t h k differ = (h.0, k.0, λ same. differ (h.1 ∙ ap (λ n. n % 2 ^ 64) (sym (sum_by-IsPermutation pair_sum as' bs same)) ∙ sym k.1))
