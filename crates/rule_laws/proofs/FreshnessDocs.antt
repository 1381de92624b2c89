-- Which ids are bound in a document once operations are executed on it.
use Rattle.std.proofs.Common.{IsTrue, ◌≡◌, refl, sym, ap, ◌∙◌, subst, true≢false, ℕ, ◌==◌, nat_lt, cond, Bool, true, false, ◌||◌, ◌&&◌, List, [], ◌∷◌, Option, Some, arith}
use Rattle.std.proofs.Math.Path.{fun_ext}
use Rattle.std.specs.Prelude.{is_some}
use Rattle.std.specs.Ordering.{nat_cmp, ordering_then, match_ordering, is_eq}
use Rattle.std.specs.declared.cmp.Ordering.{Ordering}
use Rattle.std.specs.declared.cmp.Ordering.TheVariants.{Less, Equal, Greater}
use Rattle.std.specs.BTreeMap.{is_at, insert_entry}
use Rattle.html_types.specs.Operations.{same_id}
use Rattle.html_types.specs.declared.operation.NodeId.{NodeId}
use Rattle.html_types.specs.declared.operation.Op.{Op}
use Rattle.html_types.specs.declared.operation.Op.TheVariants as op
use Rattle.html_types.specs.declared.open.Open.{Open}
use Rattle.standard.specs.Parser.{Parsed, parse, finish}
use Rattle.standard.specs.Act.{id_cmp, Bound, bound_to, is_bound, Doc, act, acts, known_after}
use Rattle.rule_laws.specs.Naming.{Serves, AreFresh, CameBefore, known_after_all, IsStopBound}
use Rattle.rule_laws.specs.NamingLaws.{StaysBound, StaysServed, ActsBind, NewDocServes, DocsServeTexts, DocsServeEnds}
use Rattle.rule_laws.proofs.FreshnessOps.{Follows}
use Rattle.rule_laws.proofs.FreshnessWalks.{open-more, formats-more, pointer-more}
use Rattle.rule_laws.proofs.FreshnessTexts.{texts-bound, ends-bound}

-- ---- two ids are at the same place exactly if they are the same

number-at : (x y : ℕ) → is_eq (nat_cmp x y) ≡ (x == y)
number-at x y = by (nat_lt x y) (x == y) refl refl
  where
    by : (v w : Bool) → nat_lt x y ≡ v → (x == y) ≡ w → is_eq (cond v Less (cond w Equal Greater)) ≡ w
    by true true p q = absurd (grind (arith, p, q))
    by true false p q = refl
    by false true p q = refl
    by false false p q = refl

id-at : (a b : NodeId) → is_eq (id_cmp a b) ≡ same_id a b
id-at a b =
    then-at (nat_cmp a.realm b.realm) (nat_cmp a.n b.n)
    ∙ (ap (λ v. v && is_eq (nat_cmp a.n b.n)) (number-at a.realm b.realm) ∙ ap (λ v. (a.realm == b.realm) && v) (number-at a.n b.n))
  where
    then-at : (r s : Ordering) → is_eq (ordering_then r s) ≡ (is_eq r && is_eq s)
    then-at Less s = refl
    then-at Equal s = refl
    then-at Greater s = refl

same-parts : (a b : NodeId) → a.realm ≡ b.realm → a.n ≡ b.n → a ≡ b
same-parts a b r n = ap (λ k. record { realm = k; n = a.n }) r ∙ ap (λ k. record { realm = b.realm; n = k }) n

pub same-true : (a b : NodeId) → same_id a b ≡ true → a ≡ b
same-true a b h = same-parts a b (grind (arith, h)) (grind (arith, h))

-- ---- an id is bound

abbrev found : NodeId → Bound → Bool
found q es = is_some (bound_to es q)

first-found : (v : Bool) (n : ℕ) (rest : Option ℕ) → is_some (cond v (Some n) rest) ≡ (v || is_some rest)
first-found true n rest = refl
first-found false n rest = refl

inserted-first : (q id : NodeId) (n : ℕ) (es : Bound) → found q ((id, n) ∷ es) ≡ (same_id q id || found q es)
inserted-first q id n es = first-found (is_at (id_cmp q) id) n (bound_to es q) ∙ ap (λ v. v || found q es) (id-at q id)

inserted-over : (q id : NodeId) (n : ℕ) (e : NodeId × ℕ) (es : Bound) → e.0 ≡ id → found q ((e.0, n) ∷ es) ≡ (same_id q id || found q (e ∷ es))
inserted-over q id n e es g =
    inserted-first q e.0 n es
    ∙ (twice (same_id q e.0) (found q es)
    ∙ (ap (λ v. same_id q e.0 || v) (sym (inserted-first q e.0 e.1 es)) ∙ ap (λ i. same_id q i || found q (e ∷ es)) g))
  where
    twice : (v w : Bool) → (v || w) ≡ (v || (v || w))
    twice true w = refl
    twice false w = refl

inserted-behind : (q id : NodeId) (e : NodeId × ℕ) (es es' : Bound) → found q es' ≡ (same_id q id || found q es) → found q (e ∷ es') ≡ (same_id q id || found q (e ∷ es))
inserted-behind q id e es es' h =
    inserted-first q e.0 e.1 es'
    ∙ (ap (λ v. same_id q e.0 || v) h
    ∙ (swapped (same_id q e.0) (same_id q id) (found q es) ∙ ap (λ v. same_id q id || v) (sym (inserted-first q e.0 e.1 es))))
  where
    swapped : (u v w : Bool) → (u || (v || w)) ≡ (v || (u || w))
    swapped true true w = refl
    swapped true false w = refl
    swapped false true w = refl
    swapped false false w = refl

inserted : (q id : NodeId) (n : ℕ) (es : Bound) → found q (insert_entry id_cmp es id n) ≡ (same_id q id || found q es)
inserted q id n [] = inserted-first q id n []
inserted q id n (e ∷ es) = by (id_cmp id e.0) refl (inserted q id n es)
  where
    by : (r : Ordering) → id_cmp id e.0 ≡ r → found q (insert_entry id_cmp es id n) ≡ (same_id q id || found q es)
        → found q (match_ordering r ((id, n) ∷ e ∷ es) ((e.0, n) ∷ es) (e ∷ insert_entry id_cmp es id n)) ≡ (same_id q id || found q (e ∷ es))
    by Less g h = inserted-first q id n (e ∷ es)
    by Equal g h = inserted-over q id n e es (sym (same-true id e.0 (sym (id-at id e.0) ∙ ap is_eq g)))
    by Greater g h = inserted-behind q id e es (insert_entry id_cmp es id n) h

-- ---- operations

act-binds : (d : Doc) (o : Op) (id : NodeId) → is_bound (act d o).bound id ≡ known_after (is_bound d.bound) o id
unfolding act
act-binds d (op.Make i name attributes) id = inserted id i _ d.bound
act-binds d (op.Put i place) id = refl
act-binds d (op.Text place text) id = refl
act-binds d (op.Comment place text) id = refl
act-binds d (op.Doctype name) id = refl
act-binds d (op.Detach i) id = refl
act-binds d (op.MoveChildren from to) id = refl
act-binds d (op.AddAttributes i attributes) id = refl

pub acts-bind : (d : Doc) (ops : List Op) → is_bound (acts d ops).bound ≡ known_after_all (is_bound d.bound) ops
unfolding acts known_after_all
acts-bind d [] = refl
acts-bind d (o ∷ os) = acts-bind (act d o) os ∙ ap (λ k. known_after_all k os) (fun_ext (act-binds d o))

pub binds : ActsBind
binds d ops id = ap (λ k. k id) (acts-bind d ops)

-- ---- documents

module _ (Coming : (NodeId → Bool) → NodeId → Type 0) (law : Follows Coming) where
  served : (d : Doc) (ops : List Op) (b : Open) → StaysBound Coming (is_bound d.bound) ops b → StaysServed Coming d ops b
  served d ops b s = (s.0, subst (λ k. Serves Coming k b) (sym (acts-bind d ops)) s.1)

  pub texts-served : DocsServeTexts Coming
  texts-served d es p text h =
      let r : Parsed = parse es p text in
      let f = texts-bound Coming law (is_bound d.bound) es p text h in
      (served d r.ops r.parser.open_state f.0, subst (λ k. IsStopBound k r.stop) (sym (acts-bind d r.ops)) f.1)

  pub ends-served : DocsServeEnds Coming
  ends-served d es p h = served d (finish es p).ops (finish es p).parser.open_state (ends-bound Coming law (is_bound d.bound) es p h)

pub new-serves : NewDocServes AreFresh
new-serves realm = record { stack_bound = tt; formats_bound = tt; head_bound = tt; form_bound = tt; coming = λ k. refl }

pub new-serves_alone : NewDocServes CameBefore
new-serves_alone realm = record { stack_bound = tt; formats_bound = tt; head_bound = tt; form_bound = tt; coming = λ id h. absurd (true≢false (sym h)) }

-- ---- where more is bound

-- an open state is still served where others have bound ids of theirs
pub serves-more : (Coming : (NodeId → Bool) → NodeId → Type 0) (known known' : NodeId → Bool) (b : Open) → ((id : NodeId) → IsTrue (known id) → IsTrue (known' id)) → Coming known' b.next
    → Serves Coming known b → Serves Coming known' b
serves-more Coming known known' b more c s = record {
  stack_bound = open-more known known' more b.stack s.stack_bound;
  formats_bound = formats-more known known' more b.formats s.formats_bound;
  head_bound = pointer-more known known' more b.head s.head_bound;
  form_bound = pointer-more known known' more b.form s.form_bound;
  coming = c;
}
