-- Which nodes of a tree are elements, before and behind a change.
use Rattle.std.proofs.Common.{◌≡◌, ◌≢◌, ℕ, zero, suc, Bool, true, false, List, [], ◌∷◌, ◌++◌, length, get_or, set, Option, Some, None, if◌then◌else◌, refl, sym, ap, subst, ◌∙◌}
use Rattle.std.proofs.lemmas.Option.{none-some, same_Some}
use Rattle.std.specs.Prelude.{◌==◌}
use Rattle.std.proofs.Math.ListN.{get_or-map}
use Rattle.std.proofs.Math.Seq.{map-set_same, get_or-append_seam}
use Rattle.html_types.specs.declared.attributes.Attribute.{Attribute}
use Rattle.html_types.specs.declared.name.Name.{Name}
use Rattle.html_types.specs.declared.word.Word.TheVariants.{Template}
use Rattle.html_types.specs.declared.tree.Node.{Node}
use Rattle.html_types.specs.declared.tree.Kind.{Kind}
use Rattle.html_types.specs.declared.tree.Kind.TheVariants as kind
use Rattle.standard.specs.Elements.{is_word}
use Rattle.standard.specs.Tree.{Nodes, no_node, kind_of, parent_of, children_of, is_document, is_element, is_element_at, lone, with_children, relinked, taken_out, detached, moved, lies_in, appended, is_impossible, put_of, put_before_of, all_put, children_moved, with_new, with_more, text_before, text_put, text_added, with_lacking, attributes_added, with_template}
use Rattle.standard.specs.Act.{element_made, put_from, put_at, new_at, text_at, Spot}

abbrev is_one : Node → Bool
is_one x = is_element x.kind

-- the same nodes are elements
abbrev pub Alike : Nodes → Nodes → Type 0
Alike t s = (n : ℕ) → is_element_at s n ≡ is_element_at t n

chain : (t s u : Nodes) → Alike t s → Alike s u → Alike t u
chain t s u first second n = second n ∙ first n

Alike-set : (t : Nodes) (n : ℕ) (x : Node) → is_element x.kind ≡ is_element_at t n → Alike t (set t n x)
Alike-set t n x same m =
    sym (get_or-map is_one (set t n x) m no_node) ∙ (ap (λ (bs : List Bool). get_or bs m false) (map-set_same is_one t n x no_node same) ∙ get_or-map is_one t m no_node)

Alike-relinked : (t : Nodes) (p : ℕ) (cs : List ℕ) (n : ℕ) (u : Option ℕ) → Alike t (relinked t p cs n u)
Alike-relinked t p cs n u = chain t (with_children t p cs) (relinked t p cs n u) (Alike-set t p _ refl) (Alike-set (with_children t p cs) n _ refl)

Alike-taken_out : (t : Nodes) (n : ℕ) (p : Option ℕ) → Alike t (taken_out t n p)
Alike-taken_out t n None = λ m. refl
Alike-taken_out t n (Some p) = Alike-relinked t p _ n None

pub Alike-detached : (t : Nodes) (n : ℕ) → Alike t (detached t n)
Alike-detached t n = Alike-taken_out t n (parent_of t n)

either : (b : Bool) (t s : Nodes) → Alike t s → Alike t (if b then t else s)
either true t s alike = λ m. refl
either false t s alike = alike

Alike-moved : (t : Nodes) (n p : ℕ) (before : Option ℕ) → Alike t (moved t n p before)
Alike-moved t n p before = chain t (detached t n) (moved t n p before) (Alike-detached t n) (Alike-relinked (detached t n) p _ n (Some p))

-- a script's move
pub Alike-appended : (t : Nodes) (p n : Option ℕ) (s : Nodes) → appended t p n ≡ Some s → Alike t s
Alike-appended t None n s is = absurd (none-some s is)
Alike-appended t (Some p) None s is = absurd (none-some s is)
Alike-appended t (Some p) (Some n) s is = by_test (lies_in t p n) is
  where
    by_test : (b : Bool) → (if b then None else Some (moved t n p None)) ≡ Some s → Alike t s
    by_test true is = absurd (none-some s is)
    by_test false is = subst (Alike t) (same_Some (moved t n p None) s is) (Alike-moved t n p None)

Alike-put_of : (t : Nodes) (n p : ℕ) (before : Option ℕ) → Alike t (put_of t n p before)
Alike-put_of t n p before = either (is_impossible t n p) t (moved t n p before) (Alike-moved t n p before)

Alike-put_before_of : (t : Nodes) (n b : ℕ) → Alike t (put_before_of t n b)
Alike-put_before_of t n b = either (n == b) t _ (Alike-put_of t n _ (Some b))

Alike-all_put : (t : Nodes) (cs : List ℕ) (p : ℕ) → Alike t (all_put t cs p)
Alike-all_put t [] p = λ m. refl
Alike-all_put t (c ∷ cs) p = chain t (put_of t c p None) (all_put (put_of t c p None) cs p) (Alike-put_of t c p None) (Alike-all_put (put_of t c p None) cs p)

pub Alike-children_moved : (t : Nodes) (from p : ℕ) → Alike t (children_moved t from p)
Alike-children_moved t from p = Alike-all_put t (children_of t from) p

pub Alike-put_at : (t : Nodes) (n : ℕ) (spot : Spot) → Alike t (put_at t n spot)
Alike-put_at t n spot = by_before spot.before
  where
    by_before : (before : Option ℕ) → Alike t (put_from t n spot.parent before)
    by_before None = Alike-put_of t n spot.parent None
    by_before (Some b) = Alike-put_before_of t n b

-- ---- new nodes

Alike-push : (t : Nodes) (x : Node) → is_element x.kind ≡ false → Alike t (t ++ x ∷ [])
Alike-push [] x none zero = none
Alike-push [] x none (suc m) = refl
Alike-push (y ∷ t) x none zero = refl
Alike-push (y ∷ t) x none (suc m) = Alike-push t x none m

Alike-with_new : (t : Nodes) (p place : ℕ) (k : Kind) → is_element k ≡ false → Alike t (with_new t p place k)
Alike-with_new t p place k none = chain t (t ++ lone k ∷ []) (with_new t p place k) (Alike-push t (lone k) none) (Alike-relinked (t ++ lone k ∷ []) p _ (length t) (Some p))

pub Alike-new_at : (t : Nodes) (k : Kind) (spot : Spot) → is_element k ≡ false → Alike t (new_at t k spot)
Alike-new_at t k spot none = Alike-with_new t spot.parent _ k none

pub more : (k : Kind) (text : List ℕ) → is_element (with_more k text) ≡ is_element k
more kind.Document text = refl
more kind.Contents text = refl
more (kind.Doctype name) text = refl
more (kind.Element name attributes) text = refl
more (kind.Text t) text = refl
more (kind.Comment t) text = refl

Alike-text_put : (t : Nodes) (p place : ℕ) (text : List ℕ) (before : Option ℕ) → Alike t (text_put t p place text before)
Alike-text_put t p place text (Some m) = Alike-set t m _ (more (kind_of t m) text)
Alike-text_put t p place text None = Alike-with_new t p place (kind.Text text) refl

Alike-text_added : (t : Nodes) (p place : ℕ) (text : List ℕ) → Alike t (text_added t p place text)
Alike-text_added t p place [] = λ m. refl
Alike-text_added t p place (c ∷ cs) = either (is_document (kind_of t p)) t _ (Alike-text_put t p place (c ∷ cs) (text_before t p place))

pub Alike-text_at : (t : Nodes) (text : List ℕ) (spot : Spot) → Alike t (text_at t text spot)
Alike-text_at t text spot = Alike-text_added t spot.parent _ text

pub lacking : (k : Kind) (attributes : List Attribute) → is_element (with_lacking k attributes) ≡ is_element k
lacking kind.Document as' = refl
lacking kind.Contents as' = refl
lacking (kind.Doctype name) as' = refl
lacking (kind.Element name attributes) as' = refl
lacking (kind.Text t) as' = refl
lacking (kind.Comment t) as' = refl

pub Alike-attributes_added : (t : Nodes) (n : ℕ) (attributes : List Attribute) → Alike t (attributes_added t n attributes)
Alike-attributes_added t n as' = Alike-set t n _ (lacking (kind_of t n) as')

-- ---- a new element

-- the next node is an element, and else all is as it was
pub record IsMore (t s : Nodes) : Type 0 where
  pub here : is_element_at s (length t) ≡ true
  pub elsewhere : (n : ℕ) → n ≢ length t → is_element_at s n ≡ is_element_at t n

elsewhere-push : (t : Nodes) (x : Node) (n : ℕ) → n ≢ length t → is_element_at (t ++ x ∷ []) n ≡ is_element_at t n
elsewhere-push [] x zero other = absurd (other refl)
elsewhere-push [] x (suc n) other = refl
elsewhere-push (y ∷ t) x zero other = refl
elsewhere-push (y ∷ t) x (suc n) other = elsewhere-push t x n (λ same. other (ap suc same))

IsMore-push : (t : Nodes) (x : Node) → is_element x.kind ≡ true → IsMore t (t ++ x ∷ [])
IsMore-push t x one = record {
  here = ap is_one (get_or-append_seam t x [] no_node) ∙ one;
  elsewhere = elsewhere-push t x;
}

IsMore-chain : (t s u : Nodes) → IsMore t s → Alike s u → IsMore t u
IsMore-chain t s u is alike = record {
  here = alike (length t) ∙ is.here;
  elsewhere = λ n other. alike n ∙ is.elsewhere n other;
}

pub IsMore-element_made : (t : Nodes) (name : Name) (attributes : List Attribute) → IsMore t (element_made t name attributes)
IsMore-element_made t name as' = by_test (is_word Template name)
  where
    by_test : (b : Bool) → IsMore t (if b then with_template t (kind.Element name as') else t ++ lone (kind.Element name as') ∷ [])
    by_test true = IsMore-chain t _ (with_template t (kind.Element name as')) (IsMore-push t _ refl) (Alike-push _ _ refl)
    by_test false = IsMore-push t _ refl

-- no element comes behind the last node
pub none_past : (t : Nodes) → is_element_at t (length t) ≡ false
none_past [] = refl
none_past (x ∷ t) = none_past t
