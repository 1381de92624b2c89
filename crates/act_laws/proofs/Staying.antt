-- What every change of a tree leaves: the nodes that are there keep their numbers, templates their contents, and elements are elements.
use Rattle.std.proofs.Common.{◌≡◌, ◌<◌, ◌+◌, ℕ, zero, suc, Bool, true, false, List, [], ◌∷◌, ◌++◌, length, get_or, set, Option, Some, None, if◌then◌else◌, refl, sym, ap, subst, ◌∙◌, le_refl, le_trans, arith, length-set, length-append}
use Rattle.std.specs.Prelude.{◌==◌}
use Rattle.std.proofs.lemmas.Option.{none-some, same_Some}
use Rattle.std.proofs.Math.ListN.{get_or-map}
use Rattle.std.proofs.Math.Seq.{map-set_same}
use Rattle.html_types.specs.declared.attributes.Attribute.{Attribute}
use Rattle.html_types.specs.declared.name.Name.{Name}
use Rattle.html_types.specs.declared.word.Word.TheVariants.{Template}
use Rattle.html_types.specs.declared.open.Context.{Context}
use Rattle.html_types.specs.declared.operation.Op.{Op}
use Rattle.html_types.specs.declared.operation.Op.TheVariants.{Make, Put, Text, Comment, Doctype, Detach, MoveChildren, AddAttributes}
use Rattle.html_types.specs.declared.tree.Node.{Node}
use Rattle.html_types.specs.declared.tree.Kind.{Kind}
use Rattle.html_types.specs.declared.tree.Kind.TheVariants as kind
use Rattle.standard.specs.Elements.{is_word}
use Rattle.standard.specs.Tree.{Nodes, no_node, kind_of, parent_of, children_of, host_of, is_document, is_element, is_element_at, lone, with_children, relinked, taken_out, detached, moved, lies_in, appended, is_impossible, put_of, put_before_of, all_put, children_moved, all_out, emptied, with_new, text_before, text_put, text_added, with_template}
use Rattle.standard.specs.Act.{Doc, node_of, end_of, spot_of, element_made, put_from, put_at, Spot, act, acts}
use Rattle.standard.specs.Entities.{Entities}
use Rattle.standard.specs.Fragment.{root_id, fragment, context_at, roots_made, all_in_root, with_fragment, filled, setting, set_by, inner_set}
use Rattle.act_laws.specs.Staying.{Stays}
use Rattle.act_laws.proofs.Elements.{more, lacking}

pub same : (t : Nodes) → Stays t t
same t = record { nodes = le_refl _; hosts = λ n b. refl; elements = λ n b. refl }

pub chain : (t s u : Nodes) → Stays t s → Stays s u → Stays t u
chain t s u one two = record {
  nodes = le_trans one.nodes two.nodes;
  hosts = λ n below. two.hosts n (omega (arith, below, one.nodes)) ∙ one.hosts n below;
  elements = λ n below. two.elements n (omega (arith, below, one.nodes)) ∙ one.elements n below;
}

abbrev host : Node → Option ℕ
host x = x.host

abbrev is_one : Node → Bool
is_one x = is_element x.kind

Stays-set : (t : Nodes) (n : ℕ) (x : Node) → x.host ≡ host_of t n → is_element x.kind ≡ is_element_at t n → Stays t (set t n x)
Stays-set t n x host_is one_is = record {
  nodes = let l : length (set t n x) ≡ length t = length-set t n x in omega (arith, l);
  hosts = λ m below. sym (get_or-map host (set t n x) m no_node) ∙ (ap (λ (bs : List (Option ℕ)). get_or bs m None) (map-set_same host t n x no_node host_is) ∙ get_or-map host t m no_node);
  elements = λ m below. sym (get_or-map is_one (set t n x) m no_node) ∙ (ap (λ (bs : List Bool). get_or bs m false) (map-set_same is_one t n x no_node one_is) ∙ get_or-map is_one t m no_node);
}

Stays-relinked : (t : Nodes) (p : ℕ) (cs : List ℕ) (n : ℕ) (u : Option ℕ) → Stays t (relinked t p cs n u)
Stays-relinked t p cs n u = chain t (with_children t p cs) (relinked t p cs n u) (Stays-set t p _ refl refl) (Stays-set (with_children t p cs) n _ refl refl)

Stays-taken_out : (t : Nodes) (n : ℕ) (p : Option ℕ) → Stays t (taken_out t n p)
Stays-taken_out t n None = same t
Stays-taken_out t n (Some p) = Stays-relinked t p _ n None

pub Stays-detached : (t : Nodes) (n : ℕ) → Stays t (detached t n)
Stays-detached t n = Stays-taken_out t n (parent_of t n)

either : (b : Bool) (t s : Nodes) → Stays t s → Stays t (if b then t else s)
either true t s h = same t
either false t s h = h

Stays-moved : (t : Nodes) (n p : ℕ) (before : Option ℕ) → Stays t (moved t n p before)
Stays-moved t n p before = chain t (detached t n) (moved t n p before) (Stays-detached t n) (Stays-relinked (detached t n) p _ n (Some p))

-- a script's move
pub Stays-appended : (t : Nodes) (p n : Option ℕ) (s : Nodes) → appended t p n ≡ Some s → Stays t s
Stays-appended t None n s is = absurd (none-some s is)
Stays-appended t (Some p) None s is = absurd (none-some s is)
Stays-appended t (Some p) (Some n) s is = by_test (lies_in t p n) is
  where
    by_test : (b : Bool) → (if b then None else Some (moved t n p None)) ≡ Some s → Stays t s
    by_test true same = absurd (none-some s same)
    by_test false same = subst (Stays t) (same_Some (moved t n p None) s same) (Stays-moved t n p None)

Stays-put_of : (t : Nodes) (n p : ℕ) (before : Option ℕ) → Stays t (put_of t n p before)
Stays-put_of t n p before = either (is_impossible t n p) t (moved t n p before) (Stays-moved t n p before)

Stays-put_before_of : (t : Nodes) (n b : ℕ) → Stays t (put_before_of t n b)
Stays-put_before_of t n b = either (n == b) t _ (Stays-put_of t n _ (Some b))

Stays-all_put : (t : Nodes) (cs : List ℕ) (p : ℕ) → Stays t (all_put t cs p)
Stays-all_put t [] p = same t
Stays-all_put t (c ∷ cs) p = chain t (put_of t c p None) (all_put (put_of t c p None) cs p) (Stays-put_of t c p None) (Stays-all_put (put_of t c p None) cs p)

pub Stays-children_moved : (t : Nodes) (from p : ℕ) → Stays t (children_moved t from p)
Stays-children_moved t from p = Stays-all_put t (children_of t from) p

pub Stays-all_out : (t : Nodes) (cs : List ℕ) → Stays t (all_out t cs)
Stays-all_out t [] = same t
Stays-all_out t (c ∷ cs) = chain t (detached t c) (all_out (detached t c) cs) (Stays-detached t c) (Stays-all_out (detached t c) cs)

Stays-put_at : (t : Nodes) (n : ℕ) (spot : Spot) → Stays t (put_at t n spot)
Stays-put_at t n spot = by_before spot.before
  where
    by_before : (before : Option ℕ) → Stays t (put_from t n spot.parent before)
    by_before None = Stays-put_of t n spot.parent None
    by_before (Some b) = Stays-put_before_of t n b

-- ---- new nodes

host-push : (t : Nodes) (x : Node) (n : ℕ) → n < length t → host_of (t ++ x ∷ []) n ≡ host_of t n
host-push [] x n below = absurd (omega (arith, below))
host-push (y ∷ t) x zero below = refl
host-push (y ∷ t) x (suc n) below = host-push t x n (omega (arith, below))

element-push : (t : Nodes) (x : Node) (n : ℕ) → n < length t → is_element_at (t ++ x ∷ []) n ≡ is_element_at t n
element-push [] x n below = absurd (omega (arith, below))
element-push (y ∷ t) x zero below = refl
element-push (y ∷ t) x (suc n) below = element-push t x n (omega (arith, below))

Stays-push : (t : Nodes) (x : Node) → Stays t (t ++ x ∷ [])
Stays-push t x = record {
  nodes = let l : length (t ++ x ∷ []) ≡ length t + 1 = length-append t (x ∷ []) in omega (arith, l);
  hosts = host-push t x;
  elements = element-push t x;
}

Stays-with_new : (t : Nodes) (p place : ℕ) (k : Kind) → Stays t (with_new t p place k)
Stays-with_new t p place k = chain t (t ++ lone k ∷ []) (with_new t p place k) (Stays-push t (lone k)) (Stays-relinked (t ++ lone k ∷ []) p _ (length t) (Some p))

Stays-text_put : (t : Nodes) (p place : ℕ) (text : List ℕ) (before : Option ℕ) → Stays t (text_put t p place text before)
Stays-text_put t p place text (Some m) = Stays-set t m _ refl (more (kind_of t m) text)
Stays-text_put t p place text None = Stays-with_new t p place (kind.Text text)

Stays-text_added : (t : Nodes) (p place : ℕ) (text : List ℕ) → Stays t (text_added t p place text)
Stays-text_added t p place [] = same t
Stays-text_added t p place (c ∷ cs) = either (is_document (kind_of t p)) t _ (Stays-text_put t p place (c ∷ cs) (text_before t p place))

Stays-element_made : (t : Nodes) (name : Name) (attributes : List Attribute) → Stays t (element_made t name attributes)
Stays-element_made t name as' = by_test (is_word Template name)
  where
    by_test : (b : Bool) → Stays t (if b then with_template t (kind.Element name as') else t ++ lone (kind.Element name as') ∷ [])
    by_test true = chain t _ (with_template t (kind.Element name as')) (Stays-push t _) (Stays-push _ _)
    by_test false = Stays-push t _

pub Stays-act : (d : Doc) (op : Op) → Stays d.tree (act d op).tree
unfolding act
Stays-act d (Make id name attributes) = Stays-element_made d.tree name attributes
Stays-act d (Put id place) = Stays-put_at d.tree (node_of d.bound id) (spot_of d place)
Stays-act d (Text place text) = let s : Spot = spot_of d place in Stays-text_added d.tree s.parent _ text
Stays-act d (Comment place text) = let s : Spot = spot_of d place in Stays-with_new d.tree s.parent _ (kind.Comment text)
Stays-act d (Doctype name) = let s : Spot = end_of d.tree 0 in Stays-with_new d.tree s.parent _ (kind.Doctype name)
Stays-act d (Detach id) = Stays-detached d.tree (node_of d.bound id)
Stays-act d (MoveChildren from to) = Stays-children_moved d.tree (node_of d.bound from) (end_of d.tree (node_of d.bound to)).parent
Stays-act d (AddAttributes id attributes) = Stays-set d.tree (node_of d.bound id) _ refl (lacking (kind_of d.tree (node_of d.bound id)) attributes)

pub Stays-acts : (d : Doc) (ops : List Op) → Stays d.tree (acts d ops).tree
unfolding acts
Stays-acts d [] = same d.tree
Stays-acts d (o ∷ os) = chain d.tree (act d o).tree (acts (act d o) os).tree (Stays-act d o) (Stays-acts (act d o) os)

-- whatever a fragment's operations are, the tree's own nodes stay
pub Stays-filled : (t : Nodes) (n : ℕ) (form : Bool) (ops : List Op) → Stays t (filled t n form ops)
unfolding filled emptied
Stays-filled t n form ops =
    let d : Doc = with_fragment t form ops in
    let p : ℕ = (end_of d.tree n).parent in
    chain t d.tree (filled t n form ops) (Stays-acts (record { tree = t; bound = [] }) (roots_made form ++ all_in_root ops))
    (chain d.tree (emptied d.tree p) (children_moved (emptied d.tree p) (node_of d.bound (root_id 0)) p) (Stays-all_out d.tree (children_of d.tree p)) (Stays-children_moved (emptied d.tree p) (node_of d.bound (root_id 0)) p))

-- and so where a script sets an element's children
pub Stays-inner_set : (es : Entities) (quirks : Bool) (t : Nodes) (found : Option ℕ) (text : List ℕ) (s : Nodes) → inner_set es quirks t found text ≡ setting s → Stays t s
unfolding inner_set
Stays-inner_set es quirks t None text s is = absurd (cc)
Stays-inner_set es quirks t (Some n) text s is = by (fragment es c text) is
  where
    c : Context
    c = context_at t n quirks

    by : (ops : Option (List Op)) → set_by t n c.form ops ≡ setting s → Stays t s
    by None same = absurd (cc)
    by (Some ops) same = let made : filled t n c.form ops ≡ s = cc in subst (Stays t) made (Stays-filled t n c.form ops)
