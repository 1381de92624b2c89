-- What a search by `id` finds.
use Rattle.std.proofs.Common.{◌≡◌, ℕ, Bool, true, false, List, [], ◌∷◌, Option, Some, codes, refl, sym, ap, subst, ◌∙◌}
use Rattle.std.specs.Prelude.{find}
use Rattle.std.specs.Option.{ForSome}
use Rattle.html_types.specs.declared.tree.Kind.{Kind}
use Rattle.html_types.specs.declared.tree.Kind.TheVariants as kind
use Rattle.standard.specs.Tree.{Nodes, kind_of, is_element, is_element_at, attributes_of, attribute, order, is_value, has_id, find_id}
use Rattle.standard.specs.Act.{Bound, Doc}
use Rattle.doc_tree.proofs.Walks.{find-hit, find-miss}

same_some : (x y : ℕ) → Some x ≡ Some y → x ≡ y
same_some x y is = cc

passes-by : (b : Bool) (p : ℕ → Bool) (m : ℕ) (ms : List ℕ) (n : ℕ) → p m ≡ b → find p (m ∷ ms) ≡ Some n → (find p ms ≡ Some n → p n ≡ true) → p n ≡ true
passes-by true p m ms n hit found rest = ap p (sym (same_some m n (sym (find-hit p m ms hit) ∙ found))) ∙ hit
passes-by false p m ms n miss found rest = rest (sym (find-miss p m ms miss) ∙ found)

find-passes : (p : ℕ → Bool) (ns : List ℕ) (n : ℕ) → find p ns ≡ Some n → p n ≡ true
find-passes p [] n found = absurd (cc)
find-passes p (m ∷ ms) n found = passes-by (p m) p m ms n refl found (λ later. find-passes p ms n later)

-- what has an `id` is an element
with_id : (text : List ℕ) (k : Kind) → is_value text (attribute (codes "id") (attributes_of k)) ≡ true → is_element k ≡ true
with_id text kind.Document has = absurd (cc)
with_id text kind.Contents has = absurd (cc)
with_id text (kind.Doctype name) has = absurd (cc)
with_id text (kind.Element name attributes) has = refl
with_id text (kind.Text t) has = absurd (cc)
with_id text (kind.Comment t) has = absurd (cc)

pub find_id-element : (t : Nodes) (text : List ℕ) (n : ℕ) → find_id t text ≡ Some n → is_element_at t n ≡ true
unfolding find_id
find_id-element t [] n found = absurd (cc)
find_id-element t (c ∷ cs) n found = with_id (c ∷ cs) (kind_of t n) (find-passes (has_id t (c ∷ cs)) (order t 0) n found)

pub element-found : (d : Doc) (t : Nodes) (bound : Bound) (text : List ℕ) (found : Option ℕ) → record { tree = t; bound = bound } ≡ d → found ≡ find_id t text → ForSome found (λ n. is_element_at d.tree n ≡ true)
element-found d t bound text found view is n some = subst (λ (x : Doc). is_element_at x.tree n ≡ true) view (find_id-element t text n (sym is ∙ some))
