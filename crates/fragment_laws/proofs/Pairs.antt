-- A fragment's nodes behind those of a tree, and the same in a document of their own.
use Rattle.std.proofs.Common.{◌≡◌, ◌<◌, ◌≤◌, ◌+◌, ℕ, suc, Bool, true, false, cond, List, [], ◌∷◌, ◌++◌, length, Option, Some, None, if◌then◌else◌, refl, sym, ap, subst, ◌∙◌, arith}
use Rattle.std.specs.Prelude.{◌==◌, IsTrue, unwrap_or, is_some}
use Rattle.std.specs.Option.{option_map}
use Rattle.std.specs.Ordering.{is_eq}
use Rattle.std.specs.BTreeMap.{insert_entry}
use Rattle.std.proofs.lemmas.List.{get_or_past}
use Rattle.html_types.specs.Numbers.{place_of}
use Rattle.html_types.specs.declared.attributes.Attribute.{Attribute}
use Rattle.html_types.specs.declared.name.Name.{Name}
use Rattle.html_types.specs.declared.word.Word.TheVariants.{Template}
use Rattle.html_types.specs.declared.tree.Node.{Node}
use Rattle.html_types.specs.declared.tree.Kind.{Kind}
use Rattle.html_types.specs.declared.tree.Kind.TheVariants as kind
use Rattle.html_types.specs.declared.operation.NodeId.{NodeId}
use Rattle.html_types.specs.declared.operation.Place.{Place}
use Rattle.html_types.specs.declared.operation.Place.TheVariants.{Page, Inside, Contents, Foster}
use Rattle.html_types.specs.declared.operation.Op.{Op}
use Rattle.html_types.specs.declared.operation.Op.TheVariants.{Make, Put, Text, Comment, Doctype, Detach, MoveChildren, AddAttributes}
use Rattle.standard.specs.Elements.{is_word}
use Rattle.standard.specs.Tree.{Nodes, IsTree, new_tree, no_node, node_at, kind_of, parent_of, children_of, contents_of, lone, with_template, detached, put_of, all_put, children_moved, with_kind, with_new, with_lacking, attributes_added, text_added}
use Rattle.standard.specs.Act.{Doc, Spot, id_cmp, bound_to, node_of, is_bound, end_of, before_in, foster_spot, spot_of, element_made, put_from, put_at, new_at, text_at, act, acts, IsPlaceBound, IsOpBound, AreOpsBound}
use Rattle.standard.specs.Fragment.{root_id, roots_made, all_in_root, with_fragment}
use Rattle.act_laws.proofs.Renamed.{bound_to-insert}
use Rattle.act_laws.proofs.Known.{AreOpsBound-act}
use Rattle.doc_tree.proofs.Siblings.{place-within}
use Rattle.op_exec.proofs.Filling.{root-bound, rooted-bound, fragment-made}
use Rattle.fragment_laws.specs.Laws.{AreOwn, alone, further, shifted, MadeAsAlone}
use Rattle.fragment_laws.proofs.Apart.{Apart, GoodSpot, Owned, node-far, end-good, IsRootedPlace, IsRooted, AreRooted, spot-good, act-owned, empty-owned, roots-bound, roots-rooted, in_root-rooted}
use Rattle.fragment_laws.proofs.Sound.{Sound, Sound-new, Sound-act, plain-node, plain-child, spot-below}
use Rattle.fragment_laws.proofs.Exchange.{target-below}
use Rattle.fragment_laws.proofs.Shifts.{Beside, Beside-kind, Beside-detached, Beside-put_of, Beside-all_put, Beside-push, Beside-with_new, Beside-text, eqb-further, place-further, parent-further, children-further, contents-further, kind-further}

module _ (k : ℕ) where
  -- what d makes of a fragment behind the Document, e makes behind so many nodes more
  pub record Pair (d e : Doc) : Type 0 where
    pub beside : Beside k d.tree e.tree
    pub ids : (id : NodeId) → bound_to e.bound id ≡ option_map (further k) (bound_to d.bound id)
    pub owned : Owned 1 d
    pub sound : Sound d

  bound-further : (d e : Doc) → Pair d e → (id : NodeId) → is_bound e.bound id ≡ is_bound d.bound id
  bound-further d e pair id = ap is_some (pair.ids id) ∙ by (bound_to d.bound id)
    where
      by : (o : Option ℕ) → is_some (option_map (further k) o) ≡ is_some o
      by None = refl
      by (Some n) = refl

  pub node-further : (d e : Doc) → Pair d e → (id : NodeId) → IsTrue (is_bound d.bound id) → node_of e.bound id ≡ node_of d.bound id + k
  node-further d e pair id bound = ap (λ o. unwrap_or o 0) (pair.ids id) ∙ by (bound_to d.bound id) bound
    where
      by : (o : Option ℕ) → is_some o ≡ true → unwrap_or (option_map (further k) o) 0 ≡ unwrap_or o 0 + k
      by None none = absurd (cc)
      by (Some n) some = refl

  -- ---- places

  abbrev spot_further : Spot → Spot
  spot_further s = record { parent = s.parent + k; before = option_map (further k) s.before }

  end-further : (t s : Nodes) (n : ℕ) → Beside k t s → 1 ≤ n → end_of s (n + k) ≡ spot_further (end_of t n)
  end-further t s n b pos = ap (λ o. record { parent = unwrap_or o (n + k); before = None }) (contents-further k t s b n pos) ∙ by (contents_of t n)
    where
      by : (o : Option ℕ) → record { parent = unwrap_or (option_map (further k) o) (n + k); before = None } ≡ spot_further (record { parent = unwrap_or o n; before = None })
      by None = refl
      by (Some c) = refl

  foster-further : (t s : Nodes) (table above : ℕ) → Beside k t s → ((p : ℕ) → parent_of t table ≡ Some p → 1 ≤ p) → 1 ≤ table → 1 ≤ above
      → foster_spot s (table + k) (above + k) (parent_of s (table + k)) ≡ spot_further (foster_spot t table above (parent_of t table))
  foster-further t s table above b far table_pos above_pos = ap (foster_spot s (table + k) (above + k)) (parent-further k t s b table table_pos) ∙ by (parent_of t table) far
    where
      inside : (p : ℕ) (c : Option ℕ) → before_in (p + k) (table + k) (option_map (further k) c) ≡ spot_further (before_in p table c)
      inside p None = refl
      inside p (Some c) = refl

      by : (o : Option ℕ) → ((p : ℕ) → o ≡ Some p → 1 ≤ p) → foster_spot s (table + k) (above + k) (option_map (further k) o) ≡ spot_further (foster_spot t table above o)
      by None h = end-further t s above b above_pos
      by (Some p) h = ap (before_in (p + k) (table + k)) (contents-further k t s b p (h p refl)) ∙ inside p (contents_of t p)

  spot-further : (d e : Doc) (place : Place) → Pair d e → IsRootedPlace 1 place → IsPlaceBound (is_bound d.bound) place → spot_of e place ≡ spot_further (spot_of d place)
  spot-further d e Page pair r b = absurd r
  spot-further d e (Inside id) pair r b = ap (end_of e.tree) (node-further d e pair id b) ∙ end-further d.tree e.tree (node_of d.bound id) pair.beside (node-far 1 d id pair.owned b)
  spot-further d e (Contents id) pair r b = ap (end_of e.tree) (node-further d e pair id b) ∙ end-further d.tree e.tree (node_of d.bound id) pair.beside (node-far 1 d id pair.owned b)
  spot-further d e (Foster table above) pair r b =
      let table_pos : 1 ≤ node_of d.bound table = node-far 1 d table pair.owned b.0 in
      let above_pos : 1 ≤ node_of d.bound above = node-far 1 d above pair.owned b.1 in
      ap (λ n. foster_spot e.tree n (node_of e.bound above) (parent_of e.tree n)) (node-further d e pair table b.0)
      ∙ (ap (λ n. foster_spot e.tree (node_of d.bound table + k) n (parent_of e.tree (node_of d.bound table + k))) (node-further d e pair above b.1)
      ∙ foster-further d.tree e.tree (node_of d.bound table) (node_of d.bound above) pair.beside ((pair.owned.apart (node_of d.bound table) table_pos).parent) table_pos above_pos)

  -- ---- operations

  put-further : (t s : Nodes) (n : ℕ) (spot : Spot) → Beside k t s → Apart 1 t → IsTree t → spot.parent < length t → GoodSpot 1 t spot → 1 ≤ n → Beside k (put_at t n spot) (put_at s (n + k) (spot_further spot))
  put-further t s n spot b a tree below good n_pos = by spot.before refl
    where
      p : ℕ
      p = spot.parent

      either : (c : ℕ) (v : Bool) → Beside k (if v then t else put_of t n p (Some c)) (if v then s else put_of s (n + k) (p + k) (Some (c + k)))
      either c true = b
      either c false = Beside-put_of k t s n p (Some c) b a tree below n_pos good.parent

      by : (before : Option ℕ) → spot.before ≡ before → Beside k (put_from t n p before) (put_from s (n + k) (p + k) (option_map (further k) before))
      by None is = Beside-put_of k t s n p None b a tree below n_pos good.parent
      by (Some c) is =
          let there = good.before c is in
          let up : parent_of s (c + k) ≡ Some (p + k) = parent-further k t s b c there.0 ∙ ap (option_map (further k)) there.1 in
          subst (λ o. Beside k (put_from t n p (Some c)) (if (n + k) == (c + k) then s else put_of s (n + k) (unwrap_or o 0) (Some (c + k)))) (sym up)
          (subst (λ o. Beside k (if n == c then t else put_of t n (unwrap_or o 0) (Some c)) (if (n + k) == (c + k) then s else put_of s (n + k) (p + k) (Some (c + k)))) (sym there.1)
          (subst (λ v. Beside k (if n == c then t else put_of t n p (Some c)) (if v then s else put_of s (n + k) (p + k) (Some (c + k)))) (sym (eqb-further k n c)) (either c (n == c))))

  spot_place : (t s : Nodes) (spot : Spot) → Beside k t s → 1 ≤ spot.parent → place_of (children_of s (spot.parent + k)) (option_map (further k) spot.before) ≡ place_of (children_of t spot.parent) spot.before
  spot_place t s spot b pos = ap (λ cs. place_of cs (option_map (further k) spot.before)) (children-further k t s b spot.parent pos) ∙ place-further k (children_of t spot.parent) spot.before

  text-further : (t s : Nodes) (text : List ℕ) (spot : Spot) → Beside k t s → Apart 1 t → IsTree t → 1 ≤ length t → 1 ≤ spot.parent → Beside k (text_at t text spot) (text_at s text (spot_further spot))
  text-further t s text spot b a tree some pos =
      subst (λ i. Beside k (text_at t text spot) (text_added s (spot.parent + k) i text)) (sym (spot_place t s spot b pos))
      (Beside-text k t s spot.parent (place_of (children_of t spot.parent) spot.before) text b a some pos (place-within t tree spot.parent spot.before))

  new-further : (t s : Nodes) (x : Kind) (spot : Spot) → Beside k t s → Apart 1 t → 1 ≤ length t → 1 ≤ spot.parent → Beside k (new_at t x spot) (new_at s x (spot_further spot))
  new-further t s x spot b a some pos =
      subst (λ i. Beside k (new_at t x spot) (with_new s (spot.parent + k) i x)) (sym (spot_place t s spot b pos)) (Beside-with_new k t s spot.parent (place_of (children_of t spot.parent) spot.before) x b a some pos)

  made-further : (t s : Nodes) (name : Name) (as' : List Attribute) → Beside k t s → Beside k (element_made t name as') (element_made s name as')
  made-further t s name as' b = by (is_word Template name)
    where
      x : Kind
      x = kind.Element name as'

      first : ℕ → Node
      first l = record (lone x) { contents = Some l }

      second : ℕ → Node
      second l = record (lone kind.Contents) { host = Some l }

      more : (length t + 1) + k ≡ length s + 1
      more = let size : length s ≡ length t + k = b.size in omega (arith, size)

      by : (v : Bool) → Beside k (if v then with_template t x else t ++ lone x ∷ []) (if v then with_template s x else s ++ lone x ∷ [])
      by false = Beside-push k t s (lone x) b
      by true =
          subst (λ l. Beside k (with_template t x) ((s ++ first l ∷ []) ++ second (length s) ∷ [])) more
          (subst (λ l. Beside k (with_template t x) ((s ++ first ((length t + 1) + k) ∷ []) ++ second l ∷ [])) (sym b.size)
          (Beside-push k (t ++ first (length t + 1) ∷ []) (s ++ first ((length t + 1) + k) ∷ []) (second (length t)) (Beside-push k t s (first (length t + 1)) b)))

  ids-made : (d e : Doc) → Pair d e → (id q : NodeId) → bound_to (insert_entry id_cmp e.bound id (length e.tree)) q ≡ option_map (further k) (bound_to (insert_entry id_cmp d.bound id (length d.tree)) q)
  ids-made d e pair id q =
      bound_to-insert e.bound id (length e.tree) q
      ∙ (ap (λ l. cond (is_eq (id_cmp q id)) (Some l) (bound_to e.bound q)) pair.beside.size
      ∙ (ap (λ o. cond (is_eq (id_cmp q id)) (Some (length d.tree + k)) o) (pair.ids q)
      ∙ (by (is_eq (id_cmp q id)) ∙ ap (option_map (further k)) (sym (bound_to-insert d.bound id (length d.tree) q)))))
    where
      by : (v : Bool) → cond v (Some (length d.tree + k)) (option_map (further k) (bound_to d.bound q)) ≡ option_map (further k) (cond v (Some (length d.tree)) (bound_to d.bound q))
      by true = refl
      by false = refl

  moved-further : (d e : Doc) → Pair d e → (from to : NodeId) → IsTrue (is_bound d.bound from) → IsTrue (is_bound d.bound to)
      → Beside k (children_moved d.tree (node_of d.bound from) (end_of d.tree (node_of d.bound to)).parent) (children_moved e.tree (node_of e.bound from) (end_of e.tree (node_of e.bound to)).parent)
  moved-further d e pair from to from_bound to_bound =
      subst (λ n. Beside k result (children_moved e.tree n (end_of e.tree (node_of e.bound to)).parent)) (sym (node-further d e pair from from_bound))
      (subst (λ n. Beside k result (children_moved e.tree (f + k) (end_of e.tree n).parent)) (sym (node-further d e pair to to_bound))
      (subst (λ (spot : Spot). Beside k result (children_moved e.tree (f + k) spot.parent)) (sym (end-further d.tree e.tree n pair.beside n_pos))
      (subst (λ cs. Beside k result (all_put e.tree cs (p + k))) (sym (children-further k d.tree e.tree pair.beside f f_pos))
      (Beside-all_put k (children_of d.tree f) d.tree e.tree p pair.beside pair.owned.apart pair.sound.tree (λ c some. plain-child d.tree pair.sound.tree f c some) (pair.owned.apart f f_pos).children
      (target-below d.tree pair.sound.tree n (plain-node d to pair.sound to_bound).0) (end-good 1 d.tree n pair.owned.apart n_pos).parent))))
    where
      f : ℕ
      f = node_of d.bound from

      n : ℕ
      n = node_of d.bound to

      p : ℕ
      p = (end_of d.tree n).parent

      result : Nodes
      result = children_moved d.tree f p

      f_pos : 1 ≤ f
      f_pos = node-far 1 d from pair.owned from_bound

      n_pos : 1 ≤ n
      n_pos = node-far 1 d to pair.owned to_bound

  pub Pair-act : (d e : Doc) (op : Op) → Pair d e → IsRooted 1 op → IsOpBound (is_bound d.bound) op → Pair (act d op) (act e op)
  unfolding act
  Pair-act d e (Make id name as') pair r b = record {
    beside = made-further d.tree e.tree name as' pair.beside;
    ids = ids-made d e pair id;
    owned = (act-owned 1 d (Make id name as') pair.owned r b).0;
    sound = Sound-act d (Make id name as') pair.sound b;
  }
  Pair-act d e (Put id place) pair r b =
      let t : Nodes = put_at d.tree (node_of d.bound id) (spot_of d place) in
      record {
        beside =
            subst (λ n. Beside k t (put_at e.tree n (spot_of e place))) (sym (node-further d e pair id b.0))
            (subst (λ s. Beside k t (put_at e.tree (node_of d.bound id + k) s)) (sym (spot-further d e place pair r b.1))
            (put-further d.tree e.tree (node_of d.bound id) (spot_of d place) pair.beside pair.owned.apart pair.sound.tree (spot-below d place pair.sound b.1) (spot-good 1 d place pair.owned r b.1) (node-far 1 d id pair.owned b.0)));
        ids = pair.ids;
        owned = (act-owned 1 d (Put id place) pair.owned r b).0;
        sound = Sound-act d (Put id place) pair.sound b;
      }
  Pair-act d e (Text place text) pair r b =
      let t : Nodes = text_at d.tree text (spot_of d place) in
      record {
        beside =
            subst (λ s. Beside k t (text_at e.tree text s)) (sym (spot-further d e place pair r b))
            (text-further d.tree e.tree text (spot_of d place) pair.beside pair.owned.apart pair.sound.tree pair.owned.size (spot-good 1 d place pair.owned r b).parent);
        ids = pair.ids;
        owned = (act-owned 1 d (Text place text) pair.owned r b).0;
        sound = Sound-act d (Text place text) pair.sound b;
      }
  Pair-act d e (Comment place text) pair r b =
      let t : Nodes = new_at d.tree (kind.Comment text) (spot_of d place) in
      record {
        beside =
            subst (λ s. Beside k t (new_at e.tree (kind.Comment text) s)) (sym (spot-further d e place pair r b))
            (new-further d.tree e.tree (kind.Comment text) (spot_of d place) pair.beside pair.owned.apart pair.owned.size (spot-good 1 d place pair.owned r b).parent);
        ids = pair.ids;
        owned = (act-owned 1 d (Comment place text) pair.owned r b).0;
        sound = Sound-act d (Comment place text) pair.sound b;
      }
  Pair-act d e (Doctype name) pair r b = absurd r
  Pair-act d e (Detach id) pair r b = record {
    beside =
        subst (λ n. Beside k (detached d.tree (node_of d.bound id)) (detached e.tree n)) (sym (node-further d e pair id b))
        (Beside-detached k d.tree e.tree (node_of d.bound id) pair.beside pair.owned.apart (node-far 1 d id pair.owned b));
    ids = pair.ids;
    owned = (act-owned 1 d (Detach id) pair.owned r b).0;
    sound = Sound-act d (Detach id) pair.sound b;
  }
  Pair-act d e (MoveChildren from to) pair r b = record {
    beside = moved-further d e pair from to b.0 b.1;
    ids = pair.ids;
    owned = (act-owned 1 d (MoveChildren from to) pair.owned r b).0;
    sound = Sound-act d (MoveChildren from to) pair.sound b;
  }
  Pair-act d e (AddAttributes id as') pair r b =
      let n : ℕ = node_of d.bound id in
      let pos : 1 ≤ n = node-far 1 d id pair.owned b in
      record {
        beside =
            subst (λ i. Beside k (attributes_added d.tree n as') (attributes_added e.tree i as')) (sym (node-further d e pair id b))
            (subst (λ x. Beside k (attributes_added d.tree n as') (with_kind e.tree (n + k) (with_lacking x as'))) (sym (kind-further k d.tree e.tree pair.beside n pos))
            (Beside-kind k d.tree e.tree n (with_lacking (kind_of d.tree n) as') pair.beside pos));
        ids = pair.ids;
        owned = (act-owned 1 d (AddAttributes id as') pair.owned r b).0;
        sound = Sound-act d (AddAttributes id as') pair.sound b;
      }

  pub Pair-acts : (d e : Doc) (ops : List Op) → Pair d e → AreRooted 1 ops → AreOpsBound (is_bound d.bound) ops → Pair (acts d ops) (acts e ops)
  unfolding acts AreOpsBound
  Pair-acts d e [] pair r b = pair
  Pair-acts d e (o ∷ os) pair r b = Pair-acts (act d o) (act e o) os (Pair-act d e o pair r.0 b.0) r.1 (AreOpsBound-act d o os b.1)

  -- ---- a fragment

  new-past : (m : ℕ) → 1 ≤ m → node_at new_tree m ≡ no_node
  new-past m pos = get_or_past new_tree m no_node pos

  Pair-first : (t : Nodes) → length t ≡ suc k → Pair (record { tree = new_tree; bound = [] }) (record { tree = t; bound = [] })
  Pair-first t is = record {
    beside = record {
      size = omega (arith, is);
      nodes = λ m pos. get_or_past t (m + k) no_node (omega (arith, is, pos)) ∙ ap (shifted k) (sym (new-past m pos));
    };
    ids = λ id. refl;
    owned = empty-owned new_tree;
    sound = Sound-new;
  }

  pub Pair-fragment : (t : Nodes) (form : Bool) (ops : List Op) → length t ≡ suc k → AreOwn t form ops → Pair (alone form ops) (with_fragment t form ops)
  Pair-fragment t form ops is own =
      let d : Doc = record { tree = new_tree; bound = [] } in
      let e : Doc = record { tree = t; bound = [] } in
      let d1 : Doc = acts d (roots_made form) in
      let e1 : Doc = acts e (roots_made form) in
      let roots : Pair d1 e1 = Pair-acts d e (roots_made form) (Pair-first t is) (roots-rooted 1 form) (roots-bound form) in
      let known : AreOpsBound (is_bound d1.bound) (all_in_root ops) =
      subst (λ (known : NodeId → Bool). AreOpsBound known (all_in_root ops)) (λ i q. bound-further d1 e1 roots q i) (rooted-bound e e1 form ops refl refl own) in
      let d2 : Doc = acts d1 (all_in_root ops) in
      let e2 : Doc = acts e1 (all_in_root ops) in
      let all : Pair d2 e2 = Pair-acts d1 e1 (all_in_root ops) roots (in_root-rooted 1 ops) known in
      subst (λ x. Pair x (with_fragment t form ops)) (fragment-made d d1 d2 form ops refl refl refl) (subst (λ x. Pair d2 x) (fragment-made e e1 e2 form ops refl refl refl) all)

  -- the root is there in both
  pub root-bound-alone : (t : Nodes) (form : Bool) (ops : List Op) → is_bound (alone form ops).bound (root_id 0) ≡ true
  root-bound-alone t form ops =
      let d : Doc = record { tree = new_tree; bound = [] } in
      let d1 : Doc = acts d (roots_made form) in
      let d2 : Doc = acts d1 (all_in_root ops) in
      subst (λ (x : Doc). is_bound x.bound (root_id 0) ≡ true) (fragment-made d d1 d2 form ops refl refl refl) (root-bound d d1 d2 form (all_in_root ops) refl refl)

pub made-as-alone : MadeAsAlone
made-as-alone t k form ops is own m pos = let pair = Pair-fragment k t form ops is own in pair.beside.nodes m pos
