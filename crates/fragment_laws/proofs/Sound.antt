-- Operations whose ids are bound leave a tree a tree.
use Rattle.std.proofs.Common.{◌≡◌, ◌<◌, ◌≤◌, ◌-◌, ℕ, zero, suc, Bool, true, false, cond, List, [], ◌∷◌, ◌++◌, length, get_or, Option, Some, None, if◌then◌else◌, refl, sym, ap, subst, ◌∙◌, inl, inr, arith}
use Rattle.std.specs.Prelude.{◌==◌, ◌||◌, ◌&&◌, IsTrue, nat_lt, unwrap_or, is_some, option_and_then}
use Rattle.std.proofs.lemmas.Bool.Decides.{nat_tests}
use Rattle.html_types.specs.Numbers.{count_of, place_of, put_in}
use Rattle.html_types.specs.declared.attributes.Attribute.{Attribute}
use Rattle.html_types.specs.declared.name.Name.{Name}
use Rattle.html_types.specs.declared.word.Word.TheVariants.{Template}
use Rattle.html_types.specs.declared.tree.Kind.TheVariants as kind
use Rattle.html_types.specs.declared.operation.NodeId.{NodeId}
use Rattle.html_types.specs.declared.operation.Place.{Place}
use Rattle.html_types.specs.declared.operation.Place.TheVariants.{Page, Inside, Contents, Foster}
use Rattle.html_types.specs.declared.operation.Op.{Op}
use Rattle.html_types.specs.declared.operation.Op.TheVariants.{Make, Put, Text, Comment, Doctype, Detach, MoveChildren, AddAttributes}
use Rattle.standard.specs.Elements.{is_word}
use Rattle.standard.specs.Tree.{Nodes, IsTree, Keeps, new_tree, kind_of, parent_of, children_of, host_of, contents_of, above_of, climb, leads_to, is_document, is_text, lone, with_template, lies_in, is_second_element, detached, moved, put_of, all_put, text_before, text_put, with_more, with_lacking}
use Rattle.standard.specs.Act.{Doc, Spot, bound_to, node_of, is_bound, end_of, before_in, foster_spot, spot_of, element_made, put_from, put_at, text_at, act, IsPlaceBound, IsOpBound}
use Rattle.act_laws.proofs.Bindings.{told}
use Rattle.act_laws.specs.Staying.{Stays}
use Rattle.act_laws.proofs.Staying.{Stays-act}
use Rattle.doc_tree.proofs.Trees.{parent_below, child_below, IsTree-detached, length-detached, host_of-detached, length-relinked, host_of-relinked, IsTree-moved, IsTree-push, IsTree-with_new, IsTree-with_kind}
use Rattle.doc_tree.proofs.Templates.{IsTree-with_template}
use Rattle.doc_tree.proofs.Siblings.{place-within}
use Rattle.doc_tree.proofs.Views.{child_here, node_here}
use Rattle.doc_tree.proofs.MovingAll.{not_document, no_contents}
use Rattle.op_exec.specs.Docs.{IsPlain}
use Rattle.op_exec.proofs.Docs.{IsPlain-kept, IsPlain-element_made}
use Rattle.fragment_laws.proofs.Exchange.{first-of, more-of, target-below}

-- ids stand for nodes that are neither the Document nor a template's contents
pub record Sound (d : Doc) : Type 0 where
  pub document : 0 < length d.tree
  pub tree : IsTree d.tree
  pub plain : (id : NodeId) (n : ℕ) → bound_to d.bound id ≡ Some n → IsPlain d.tree n

pub plain-node : (d : Doc) (id : NodeId) → Sound d → IsTrue (is_bound d.bound id) → IsPlain d.tree (node_of d.bound id)
plain-node d id s bound = by (bound_to d.bound id) refl bound
  where
    by : (b : Option ℕ) → bound_to d.bound id ≡ b → is_some b ≡ true → IsPlain d.tree (unwrap_or b 0)
    by None is none = absurd (cc)
    by (Some n) is some = s.plain id n is

-- ---- nodes put somewhere

Keeps-moved : (t : Nodes) (n p : ℕ) (before : Option ℕ) → IsTree t → n < length t → p < length t → Keeps t (moved t n p before)
Keeps-moved t n p before tree n_below p_below =
    let d : Nodes = detached t n in
    let cs : List ℕ = put_in (children_of d p) n before in
    let len : length d ≡ length t = length-detached t n tree n_below in
    let n_in : n < length d = omega (arith, len, n_below) in
    let p_in : p < length d = omega (arith, len, p_below) in
    let all : length (moved t n p before) ≡ length d = length-relinked d p cs n (Some p) p_in n_in in
    record {
      nodes = omega (arith, all, len);
      hosts = λ m below. host_of-relinked d p cs n (Some p) p_in n_in m ∙ host_of-detached t n tree n_below m;
    }

-- what a put leaves, where the nodes are there
record IsPut (t s : Nodes) : Type 0 where
  pub tree : IsTree s
  pub keeps : Keeps t s

not-put : (t : Nodes) → IsTree t → IsPut t t
not-put t tree = record { tree = tree; keeps = record { nodes = omega arith; hosts = λ n below. refl } }

IsPut-of : (t : Nodes) (n p : ℕ) (before : Option ℕ) → IsTree t → IsPlain t n → p < length t → IsPut t (put_of t n p before)
IsPut-of t n p before tree plain below = by (lies_in t p n) (is_second_element t n p) refl
  where
    by : (l s : Bool) → lies_in t p n ≡ l → IsPut t (if l || s then t else moved t n p before)
    by true s is = not-put t tree
    by false true is = not-put t tree
    by false false is = record {
      tree = IsTree-moved t n p before tree plain.0 below plain.1 plain.2 is;
      keeps = Keeps-moved t n p before tree plain.0 below;
    }

pub IsTree-put_of : (t : Nodes) (n p : ℕ) (before : Option ℕ) → IsTree t → IsPlain t n → p < length t → IsTree (put_of t n p before)
IsTree-put_of t n p before tree plain below = (IsPut-of t n p before tree plain below).tree

pub Keeps-put_of : (t : Nodes) (n p : ℕ) (before : Option ℕ) → IsTree t → IsPlain t n → p < length t → Keeps t (put_of t n p before)
Keeps-put_of t n p before tree plain below = (IsPut-of t n p before tree plain below).keeps

pub IsTree-all_put : (cs : List ℕ) (t : Nodes) (p : ℕ) → IsTree t → ((c : ℕ) → 0 < count_of c cs → IsPlain t c) → p < length t → IsTree (all_put t cs p)
IsTree-all_put [] t p tree plain below = tree
IsTree-all_put (c ∷ cs) t p tree plain below =
    let here : IsPlain t c = plain c (first-of c cs) in
    let keeps : Keeps t (put_of t c p None) = Keeps-put_of t c p None tree here below in
    IsTree-all_put cs (put_of t c p None) p (IsTree-put_of t c p None tree here below)
    (λ d some. IsPlain-kept t (put_of t c p None) d keeps (plain d (more-of d c cs some))) (omega (arith, keeps.nodes, below))

-- children are such nodes
pub plain-child : (t : Nodes) → IsTree t → (p c : ℕ) → 0 < count_of c (children_of t p) → IsPlain t c
plain-child t tree p c some =
    let link : parent_of t c ≡ Some p = child_here t tree p c some in
    (node_here t c p link, not_document t tree c p link, no_contents t tree c p link)

IsTree-put_at : (t : Nodes) (n : ℕ) (s : Spot) → IsTree t → 0 < length t → IsPlain t n → s.parent < length t → IsTree (put_at t n s)
IsTree-put_at t n s tree some plain below = by s.before
  where
    either : (b : Bool) (u : Nodes) → IsTree u → IsTree (if b then t else u)
    either true u h = tree
    either false u h = h

    parent-below : (b : ℕ) (p : Option ℕ) → parent_of t b ≡ p → unwrap_or p 0 < length t
    parent-below b None is = some
    parent-below b (Some p) is = parent_below t tree b p is

    by : (before : Option ℕ) → IsTree (put_from t n s.parent before)
    by None = IsTree-put_of t n s.parent None tree plain below
    by (Some b) = either (n == b) _ (IsTree-put_of t n (unwrap_or (parent_of t b) 0) (Some b) tree plain (parent-below b (parent_of t b) refl))

-- ---- new nodes

IsTree-made : (t : Nodes) (name : Name) (as' : List Attribute) → IsTree t → IsTree (element_made t name as')
IsTree-made t name as' tree = by (is_word Template name)
  where
    by : (b : Bool) → IsTree (if b then with_template t (kind.Element name as') else t ++ lone (kind.Element name as') ∷ [])
    by true = IsTree-with_template t (kind.Element name as') tree
    by false = IsTree-push t (kind.Element name as') tree

-- the Text before a place is a node
pub text-below : (t : Nodes) → IsTree t → (p place : ℕ) → place ≤ length (children_of t p) → nat_lt 0 place ≡ true → get_or (children_of t p) (place - 1) 0 < length t
text-below t tree p place within is =
    let some : 0 < place = grind (arith, nat_tests, is) in
    child_below t tree p (place - 1) (omega (arith, some, within))

IsTree-text_at : (t : Nodes) (text : List ℕ) (s : Spot) → IsTree t → s.parent < length t → IsTree (text_at t text s)
IsTree-text_at t [] s tree below = tree
IsTree-text_at t (c ∷ cs) s tree below = by (is_document (kind_of t p))
  where
    p : ℕ
    p = s.parent

    place : ℕ
    place = place_of (children_of t p) s.before

    m : ℕ
    m = get_or (children_of t p) (place - 1) 0

    within : place ≤ length (children_of t p)
    within = place-within t tree p s.before

    put : (after text' : Bool) → nat_lt 0 place ≡ after → IsTree (text_put t p place (c ∷ cs) (if after && text' then Some m else None))
    put false text' is = IsTree-with_new t p place (kind.Text (c ∷ cs)) tree below within
    put true false is = IsTree-with_new t p place (kind.Text (c ∷ cs)) tree below within
    put true true is = IsTree-with_kind t m (with_more (kind_of t m) (c ∷ cs)) (text-below t tree p place within is) tree

    by : (b : Bool) → IsTree (if b then t else text_put t p place (c ∷ cs) (text_before t p place))
    by true = tree
    by false = put (nat_lt 0 place) (is_text (kind_of t m)) refl

-- ---- places

foster-below : (t : Nodes) (table above : ℕ) → IsTree t → above < length t → (foster_spot t table above (parent_of t table)).parent < length t
foster-below t table above tree below = by (parent_of t table) refl
  where
    inside : (p : ℕ) (c : Option ℕ) → unwrap_or c p < length t → (before_in p table c).parent < length t
    inside p None h = h
    inside p (Some c) h = h

    by : (p : Option ℕ) → parent_of t table ≡ p → (foster_spot t table above p).parent < length t
    by None is = target-below t tree above below
    by (Some p) is = inside p (contents_of t p) (target-below t tree p (parent_below t tree table p is))

pub spot-below : (d : Doc) (place : Place) → Sound d → IsPlaceBound (is_bound d.bound) place → (spot_of d place).parent < length d.tree
spot-below d Page s b = target-below d.tree s.tree 0 s.document
spot-below d (Inside id) s b = target-below d.tree s.tree (node_of d.bound id) (plain-node d id s b).0
spot-below d (Contents id) s b = target-below d.tree s.tree (node_of d.bound id) (plain-node d id s b).0
spot-below d (Foster table above) s b = foster-below d.tree (node_of d.bound table) (node_of d.bound above) s.tree (plain-node d above s b.1).0

-- ---- operations

kept : (t s : Nodes) → Stays t s → Keeps t s
kept t s stays = record { nodes = stays.nodes; hosts = stays.hosts }

with_it : (d : Doc) (t : Nodes) → Sound d → Stays d.tree t → IsTree t → Sound (record d { tree = t })
with_it d t s stays tree = record {
  document = omega (arith, stays.nodes, s.document);
  tree = tree;
  plain = λ id n is. IsPlain-kept d.tree t n (kept d.tree t stays) (s.plain id n is);
}

pub Sound-act : (d : Doc) (op : Op) → Sound d → IsOpBound (is_bound d.bound) op → Sound (act d op)
unfolding act
Sound-act d (Make id name as') s b =
    let made : Nodes = element_made d.tree name as' in
    let stays : Stays d.tree made = Stays-act d (Make id name as') in
    record {
      document = omega (arith, stays.nodes, s.document);
      tree = IsTree-made d.tree name as' s.tree;
      plain = λ q n is. elim (told d.bound id (length d.tree) q n is) [
        | inl this ↦ subst (IsPlain made) (sym this.1) (IsPlain-element_made d.tree made name as' s.document refl)
        | inr other ↦ IsPlain-kept d.tree made n (kept d.tree made stays) (s.plain q n other.1)
      ];
    }
Sound-act d (Put id place) s b =
    with_it d _ s (Stays-act d (Put id place)) (IsTree-put_at d.tree (node_of d.bound id) (spot_of d place) s.tree s.document (plain-node d id s b.0) (spot-below d place s b.1))
Sound-act d (Text place text) s b = with_it d _ s (Stays-act d (Text place text)) (IsTree-text_at d.tree text (spot_of d place) s.tree (spot-below d place s b))
Sound-act d (Comment place text) s b =
    let spot : Spot = spot_of d place in
    with_it d _ s (Stays-act d (Comment place text))
    (IsTree-with_new d.tree spot.parent (place_of (children_of d.tree spot.parent) spot.before) (kind.Comment text) s.tree (spot-below d place s b) (place-within d.tree s.tree spot.parent spot.before))
Sound-act d (Doctype name) s b =
    let spot : Spot = end_of d.tree 0 in
    with_it d _ s (Stays-act d (Doctype name))
    (IsTree-with_new d.tree spot.parent (place_of (children_of d.tree spot.parent) spot.before) (kind.Doctype name) s.tree (target-below d.tree s.tree 0 s.document) (place-within d.tree s.tree spot.parent spot.before))
Sound-act d (Detach id) s b = with_it d _ s (Stays-act d (Detach id)) (IsTree-detached d.tree (node_of d.bound id) s.tree (plain-node d id s b).0)
Sound-act d (MoveChildren from to) s b =
    with_it d _ s (Stays-act d (MoveChildren from to))
    (IsTree-all_put (children_of d.tree (node_of d.bound from)) d.tree (end_of d.tree (node_of d.bound to)).parent s.tree
    (λ c some. plain-child d.tree s.tree (node_of d.bound from) c some) (target-below d.tree s.tree (node_of d.bound to) (plain-node d to s b.1).0))
Sound-act d (AddAttributes id as') s b =
    with_it d _ s (Stays-act d (AddAttributes id as'))
    (IsTree-with_kind d.tree (node_of d.bound id) (with_lacking (kind_of d.tree (node_of d.bound id)) as') (plain-node d id s b).0 s.tree)

-- ---- the Document alone

parentless : (n : ℕ) → parent_of new_tree n ≡ None
parentless zero = refl
parentless (suc n) = refl

childless : (n : ℕ) → children_of new_tree n ≡ []
childless zero = refl
childless (suc n) = refl

hostless : (n : ℕ) → host_of new_tree n ≡ None
hostless zero = refl
hostless (suc n) = refl

contentless : (n : ℕ) → contents_of new_tree n ≡ None
contentless zero = refl
contentless (suc n) = refl

aboveless : (n : ℕ) → above_of new_tree n ≡ None
aboveless zero = refl
aboveless (suc n) = refl

pub Sound-new : Sound (record { tree = new_tree; bound = [] })
Sound-new = record {
  document = omega arith;
  tree = record {
    kinship = λ n p. ap (count_of n) (childless p) ∙ sym (ap (λ o. cond (leads_to o p) 1 0) (parentless n));
    hosting = λ n p. ap (λ o. leads_to o n) (contentless p) ∙ sym (ap (λ o. leads_to o p) (hostless n));
    apart = λ n p host. parentless n;
    document = refl;
    rooted = λ n below. ap (option_and_then (climb (above_of new_tree) 0)) (aboveless n);
  };
  plain = λ id n is. absurd (cc);
}
