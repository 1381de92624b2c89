-- The kinds of nodes and what they are the contents of, before and behind a change of the tree.
use Rattle.std.proofs.Common.{◌≡◌, ◌<◌, ◌+◌, ◌∙◌, refl, sym, ap, subst, arith, ℕ, Bool, true, false, cond, eqb, List, [], ◌∷◌, ◌++◌, length, length-append, get_or, set, Option, Some, None, if◌then◌else◌}
use Rattle.std.specs.Prelude.{◌==◌}
use Rattle.std.proofs.lemmas.Bool.{ne_eqb, eqb-true}
use Rattle.std.proofs.Math.ListN.{get_or-map}
use Rattle.std.proofs.Math.Seq.{map-set_same}
use Rattle.html_types.specs.declared.attributes.Attribute.{Attribute}
use Rattle.html_types.specs.declared.name.Name.{Name}
use Rattle.html_types.specs.declared.word.Word.TheVariants.{Template}
use Rattle.html_types.specs.declared.operation.Op.{Op}
use Rattle.html_types.specs.declared.operation.Op.TheVariants.{Make, Put, Text, Comment, Doctype, Detach, MoveChildren, AddAttributes}
use Rattle.html_types.specs.declared.tree.Node.{Node}
use Rattle.html_types.specs.declared.tree.Kind.{Kind}
use Rattle.html_types.specs.declared.tree.Kind.TheVariants as kind
use Rattle.standard.specs.Elements.{is_word}
use Rattle.standard.specs.Tree.{Nodes, no_node, node_at, kind_of, parent_of, children_of, host_of, is_document, is_element, lone, with_children, relinked, taken_out, detached, moved, is_impossible, put_of, all_put, all_out, with_new, with_more, with_lacking, text_before, text_put, text_added, with_template}
use Rattle.standard.specs.Act.{Doc, Spot, node_of, end_of, spot_of, element_made, put_from, put_at, act}
use Rattle.doc_tree.proofs.Trees.{node_at-push}
use Rattle.act_laws.proofs.Elements.{more, lacking}

-- whether a node is a Document, whether an element, and the template whose contents it is
abbrev tagged : Bool → Bool → Option ℕ → Bool × Bool × Option ℕ
tagged d e host = (d, e, host)

abbrev tag : Node → Bool × Bool × Option ℕ
tag x = tagged (is_document x.kind) (is_element x.kind) x.host

-- node n may be so
abbrev Fits : ℕ → Bool × Bool × Option ℕ → Type 0
Fits n x = (x.0 ≡ (n == 0)) × (x.1 ≡ true → x.2 ≡ None)

abbrev pub AreSorted : Nodes → Type 0
AreSorted t = (n : ℕ) → Fits n (tag (node_at t n))

abbrev SameTags : Nodes → Nodes → Type 0
SameTags t s = (n : ℕ) → tag (node_at s n) ≡ tag (node_at t n)

chain : (t s u : Nodes) → SameTags t s → SameTags s u → SameTags t u
chain t s u one two n = two n ∙ one n

sorted : (t s : Nodes) → SameTags t s → AreSorted t → AreSorted s
sorted t s same h n = subst (Fits n) (sym (same n)) (h n)

tags-set : (t : Nodes) (n : ℕ) (x : Node) → tag x ≡ tag (node_at t n) → SameTags t (set t n x)
tags-set t n x same m = sym (get_or-map tag (set t n x) m no_node) ∙ (ap (λ (xs : List (Bool × Bool × Option ℕ)). get_or xs m (tag no_node)) (map-set_same tag t n x no_node same) ∙ get_or-map tag t m no_node)

tags-relinked : (t : Nodes) (p : ℕ) (cs : List ℕ) (n : ℕ) (u : Option ℕ) → SameTags t (relinked t p cs n u)
tags-relinked t p cs n u = chain t (with_children t p cs) (relinked t p cs n u) (tags-set t p _ refl) (tags-set (with_children t p cs) n _ refl)

tags-detached : (t : Nodes) (n : ℕ) → SameTags t (detached t n)
tags-detached t n = by (parent_of t n)
  where
    by : (p : Option ℕ) → SameTags t (taken_out t n p)
    by None = λ m. refl
    by (Some p) = tags-relinked t p _ n None

either : (b : Bool) (t s : Nodes) → SameTags t s → SameTags t (if b then t else s)
either true t s same = λ n. refl
either false t s same = same

tags-moved : (t : Nodes) (n p : ℕ) (before : Option ℕ) → SameTags t (moved t n p before)
tags-moved t n p before = chain t (detached t n) (moved t n p before) (tags-detached t n) (tags-relinked (detached t n) p _ n (Some p))

tags-put_of : (t : Nodes) (n p : ℕ) (before : Option ℕ) → SameTags t (put_of t n p before)
tags-put_of t n p before = either (is_impossible t n p) t (moved t n p before) (tags-moved t n p before)

tags-all_put : (t : Nodes) (cs : List ℕ) (p : ℕ) → SameTags t (all_put t cs p)
tags-all_put t [] p = λ n. refl
tags-all_put t (c ∷ cs) p = chain t (put_of t c p None) (all_put (put_of t c p None) cs p) (tags-put_of t c p None) (tags-all_put (put_of t c p None) cs p)

tags-all_out : (t : Nodes) (cs : List ℕ) → SameTags t (all_out t cs)
tags-all_out t [] = λ n. refl
tags-all_out t (c ∷ cs) = chain t (detached t c) (all_out (detached t c) cs) (tags-detached t c) (tags-all_out (detached t c) cs)

tags-put_at : (t : Nodes) (n : ℕ) (spot : Spot) → SameTags t (put_at t n spot)
tags-put_at t n spot = by spot.before
  where
    by : (before : Option ℕ) → SameTags t (put_from t n spot.parent before)
    by None = tags-put_of t n spot.parent None
    by (Some b) = either (n == b) t _ (tags-put_of t n _ (Some b))

-- ---- changes that make no node

pub sorted-detached : (t : Nodes) (n : ℕ) → AreSorted t → AreSorted (detached t n)
sorted-detached t n = sorted t (detached t n) (tags-detached t n)

pub sorted-moved : (t : Nodes) (n p : ℕ) (before : Option ℕ) → AreSorted t → AreSorted (moved t n p before)
sorted-moved t n p before = sorted t (moved t n p before) (tags-moved t n p before)

pub sorted-all_put : (t : Nodes) (cs : List ℕ) (p : ℕ) → AreSorted t → AreSorted (all_put t cs p)
sorted-all_put t cs p = sorted t (all_put t cs p) (tags-all_put t cs p)

pub sorted-all_out : (t : Nodes) (cs : List ℕ) → AreSorted t → AreSorted (all_out t cs)
sorted-all_out t cs = sorted t (all_out t cs) (tags-all_out t cs)

-- ---- new nodes

pub sorted-push : (t : Nodes) (x : Node) → 0 < length t → is_document x.kind ≡ false → (is_element x.kind ≡ true → x.host ≡ None) → AreSorted t → AreSorted (t ++ x ∷ [])
sorted-push t x some other bare h n = subst (λ y. Fits n (tag y)) (sym (node_at-push t x n)) (by (eqb n (length t)) refl)
  where
    by : (b : Bool) → eqb n (length t) ≡ b → Fits n (tag (cond b x (node_at t n)))
    by true is =
        let last : n ≡ length t = eqb-true n (length t) is in
        (other ∙ sym (ne_eqb n 0 (λ none. absurd (omega (arith, last, none, some)))), bare)
    by false is = h n

more-nodes : (t : Nodes) (x : Node) → 0 < length (t ++ x ∷ [])
more-nodes t x = let l : length (t ++ x ∷ []) ≡ length t + 1 = length-append t (x ∷ []) in omega (arith, l)

sorted-with_new : (t : Nodes) (p place : ℕ) (k : Kind) → 0 < length t → is_document k ≡ false → AreSorted t → AreSorted (with_new t p place k)
sorted-with_new t p place k some other h =
    sorted (t ++ lone k ∷ []) (with_new t p place k) (tags-relinked (t ++ lone k ∷ []) p _ (length t) (Some p)) (sorted-push t (lone k) some other (λ is. refl) h)

-- a change of a node that leaves what it is
sorted-set : (t : Nodes) (n : ℕ) (k : Kind) → is_document k ≡ is_document (kind_of t n) → is_element k ≡ is_element (kind_of t n) → AreSorted t → AreSorted (set t n (record (node_at t n) { kind = k }))
sorted-set t n k one two = sorted t (set t n (record (node_at t n) { kind = k })) (tags-set t n (record (node_at t n) { kind = k }) (ap (λ d. tagged d (is_element k) (host_of t n)) one ∙ ap (λ e. tagged (is_document (kind_of t n)) e (host_of t n)) two))

more-document : (k : Kind) (text : List ℕ) → is_document (with_more k text) ≡ is_document k
more-document kind.Document text = refl
more-document kind.Contents text = refl
more-document (kind.Doctype name) text = refl
more-document (kind.Element name as') text = refl
more-document (kind.Text t) text = refl
more-document (kind.Comment t) text = refl

lacking-document : (k : Kind) (as' : List Attribute) → is_document (with_lacking k as') ≡ is_document k
lacking-document kind.Document as' = refl
lacking-document kind.Contents as' = refl
lacking-document (kind.Doctype name) as' = refl
lacking-document (kind.Element name bs) as' = refl
lacking-document (kind.Text t) as' = refl
lacking-document (kind.Comment t) as' = refl

sorted-text_added : (t : Nodes) (p place : ℕ) (text : List ℕ) → 0 < length t → AreSorted t → AreSorted (text_added t p place text)
sorted-text_added t p place [] some h = h
sorted-text_added t p place (c ∷ cs) some h = by (is_document (kind_of t p)) (text_before t p place)
  where
    by : (b : Bool) (before : Option ℕ) → AreSorted (if b then t else text_put t p place (c ∷ cs) before)
    by true before = h
    by false None = sorted-with_new t p place (kind.Text (c ∷ cs)) some refl h
    by false (Some m) = sorted-set t m (with_more (kind_of t m) (c ∷ cs)) (more-document (kind_of t m) (c ∷ cs)) (more (kind_of t m) (c ∷ cs)) h

sorted-template : (t : Nodes) (k : Kind) → 0 < length t → is_document k ≡ false → AreSorted t → AreSorted (with_template t k)
sorted-template t k some other h =
    let host : Node = record (lone k) { contents = Some (length t + 1) } in
    sorted-push (t ++ host ∷ []) (record (lone kind.Contents) { host = Some (length t) }) (more-nodes t host) refl (λ is. absurd (cc)) (sorted-push t host some other (λ is. refl) h)

sorted-element_made : (t : Nodes) (name : Name) (as' : List Attribute) → 0 < length t → AreSorted t → AreSorted (element_made t name as')
sorted-element_made t name as' some h = by (is_word Template name)
  where
    by : (b : Bool) → AreSorted (if b then with_template t (kind.Element name as') else t ++ lone (kind.Element name as') ∷ [])
    by true = sorted-template t (kind.Element name as') some refl h
    by false = sorted-push t (lone (kind.Element name as')) some refl (λ is. refl) h

pub sorted-act : (d : Doc) (op : Op) → 0 < length d.tree → AreSorted d.tree → AreSorted (act d op).tree
unfolding act
sorted-act d (Make id name as') some h = sorted-element_made d.tree name as' some h
sorted-act d (Put id place) some h = sorted d.tree _ (tags-put_at d.tree (node_of d.bound id) (spot_of d place)) h
sorted-act d (Text place text) some h = let s : Spot = spot_of d place in sorted-text_added d.tree s.parent _ text some h
sorted-act d (Comment place text) some h = let s : Spot = spot_of d place in sorted-with_new d.tree s.parent _ (kind.Comment text) some refl h
sorted-act d (Doctype name) some h = let s : Spot = end_of d.tree 0 in sorted-with_new d.tree s.parent _ (kind.Doctype name) some refl h
sorted-act d (Detach id) some h = sorted-detached d.tree (node_of d.bound id) h
sorted-act d (MoveChildren from to) some h = sorted-all_put d.tree (children_of d.tree (node_of d.bound from)) (end_of d.tree (node_of d.bound to)).parent h
sorted-act d (AddAttributes id as') some h =
    let n : ℕ = node_of d.bound id in
    sorted-set d.tree n (with_lacking (kind_of d.tree n) as') (lacking-document (kind_of d.tree n) as') (lacking (kind_of d.tree n) as') h
