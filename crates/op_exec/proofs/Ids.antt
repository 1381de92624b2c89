-- What ids stand for in lists by realm is what the list of pairs says.
use Rattle.std.proofs.Common.{◌≡◌, ◌≢◌, ℕ, ◌+◌, ◌<◌, ◌≤◌, zero, suc, Bool, true, false, cond, List, [], ◌∷◌, ◌++◌, length, get_or, set, Option, Some, None, Result, Ok, Err, OnOk, OnErr, refl, sym, ap, subst, ◌∙◌, inl, inr, arith}
use Rattle.std.specs.Prelude.{unwrap_or, is_some, ◌&&◌, ◌==◌, nat_lt}
use Rattle.std.specs.BTreeMap.{insert_entry}
use Rattle.std.specs.Ordering.{is_eq}
use Rattle.std.specs.declared.cmp.Ordering.{Ordering}
use Rattle.std.specs.declared.cmp.Ordering.TheVariants.{Less, Equal, Greater}
use Rattle.std.proofs.lemmas.Bool.{and_parts}
use Rattle.std.proofs.lemmas.Bool.Decides.{nat_tests}
use Rattle.html_types.specs.declared.operation.NodeId.{NodeId}
use Rattle.standard.specs.Act.{Bound, id_cmp, bound_to, node_of, is_bound}
use Rattle.op_exec.specs.declared.bound.Realm.{Realm}
use Rattle.op_exec.specs.Ids.{with_nodes, with_realms, listed, IsNext}
use Rattle.act_laws.proofs.Renamed.{id_cmp-same, same_from_equal, tells, bound_to-insert}

-- ---- the order of two new pairs

flip : (a b : NodeId) → id_cmp a b ≡ Less → id_cmp b a ≡ Greater
flip a b is = grind (arith, nat_tests, is)

flip_back : (a b : NodeId) → id_cmp a b ≡ Greater → id_cmp b a ≡ Less
flip_back a b is = grind (arith, nat_tests, is)

below : (a b e : NodeId) → id_cmp a b ≡ Less → id_cmp b e ≡ Less → id_cmp a e ≡ Less
below a b e ab be = grind (arith, nat_tests, ab, be)

below_same : (a b e : NodeId) → id_cmp a b ≡ Less → id_cmp b e ≡ Equal → id_cmp a e ≡ Less
below_same a b e ab be = ap (id_cmp a) (sym (same_from_equal b e be)) ∙ ab

abbrev ins : Bound → NodeId → ℕ → Bound
ins = insert_entry id_cmp

-- where a pair goes
to_front : (e : NodeId × ℕ) (es : Bound) (k : NodeId) (v : ℕ) → id_cmp k e.0 ≡ Less → ins (e ∷ es) k v ≡ (k, v) ∷ e ∷ es
to_front e es k v is = rw is refl

to_same : (e : NodeId × ℕ) (es : Bound) (k : NodeId) (v : ℕ) → id_cmp k e.0 ≡ Equal → ins (e ∷ es) k v ≡ (e.0, v) ∷ es
to_same e es k v is = rw is refl

to_rest : (e : NodeId × ℕ) (es : Bound) (k : NodeId) (v : ℕ) → id_cmp k e.0 ≡ Greater → ins (e ∷ es) k v ≡ e ∷ ins es k v
to_rest e es k v is = rw is refl

in_turn_less : (es : Bound) (a b : NodeId) (x y : ℕ) → id_cmp a b ≡ Less → ins (ins es a x) b y ≡ ins (ins es b y) a x
in_turn_less [] a b x y less = to_rest (a, x) [] b y (flip a b less) ∙ sym (to_front (b, y) [] a x less)
in_turn_less (e ∷ es) a b x y less = by_order (id_cmp a e.0) (id_cmp b e.0) refl refl (in_turn_less es a b x y less)
  where
    -- b goes behind a, which stands in front
    a_first : (id_cmp a e.0 ≡ Less) → ins (ins (e ∷ es) a x) b y ≡ (a, x) ∷ ins (e ∷ es) b y
    a_first ae = ap (λ (l : Bound). ins l b y) (to_front e es a x ae) ∙ to_rest (a, x) (e ∷ es) b y (flip a b less)

    by_order : (o p : Ordering) → id_cmp a e.0 ≡ o → id_cmp b e.0 ≡ p → ins (ins es a x) b y ≡ ins (ins es b y) a x → ins (ins (e ∷ es) a x) b y ≡ ins (ins (e ∷ es) b y) a x
    by_order Less Less ae be rest = a_first ae ∙ (ap (λ (l : Bound). (a, x) ∷ l) (to_front e es b y be) ∙ sym (ap (λ (l : Bound). ins l a x) (to_front e es b y be) ∙ to_front (b, y) (e ∷ es) a x less))
    by_order Less Equal ae be rest = a_first ae ∙ (ap (λ (l : Bound). (a, x) ∷ l) (to_same e es b y be) ∙ sym (ap (λ (l : Bound). ins l a x) (to_same e es b y be) ∙ to_front (e.0, y) es a x ae))
    by_order Less Greater ae be rest = a_first ae ∙ (ap (λ (l : Bound). (a, x) ∷ l) (to_rest e es b y be) ∙ sym (ap (λ (l : Bound). ins l a x) (to_rest e es b y be) ∙ to_front e (ins es b y) a x ae))
    by_order Equal Less ae be rest = let is = below a b e.0 less be in absurd cc
    by_order Equal Equal ae be rest = let is = below_same a b e.0 less be in absurd cc
    by_order Equal Greater ae be rest = ap (λ (l : Bound). ins l b y) (to_same e es a x ae) ∙ (to_rest (e.0, x) es b y be ∙ sym (ap (λ (l : Bound). ins l a x) (to_rest e es b y be) ∙ to_same e (ins es b y) a x ae))
    by_order Greater Less ae be rest = let is = below a b e.0 less be in absurd cc
    by_order Greater Equal ae be rest = let is = below_same a b e.0 less be in absurd cc
    by_order Greater Greater ae be rest =
        ap (λ (l : Bound). ins l b y) (to_rest e es a x ae) ∙ (to_rest e (ins es a x) b y be
        ∙ (ap (λ (l : Bound). e ∷ l) rest ∙ sym (ap (λ (l : Bound). ins l a x) (to_rest e es b y be) ∙ to_rest e (ins es b y) a x ae)))

in_turn : (es : Bound) (a b : NodeId) (x y : ℕ) → a ≢ b
    → insert_entry id_cmp (insert_entry id_cmp es a x) b y ≡ insert_entry id_cmp (insert_entry id_cmp es b y) a x
in_turn es a b x y other = by_order (id_cmp a b) refl
  where
    by_order : (o : Ordering) → id_cmp a b ≡ o → insert_entry id_cmp (insert_entry id_cmp es a x) b y ≡ insert_entry id_cmp (insert_entry id_cmp es b y) a x
    by_order Less is = in_turn_less es a b x y is
    by_order Equal is = absurd (other (same_from_equal a b is))
    by_order Greater is = sym (in_turn_less es b a y x (flip_back a b is))

-- ---- a new pair among those of a realm, and behind them

abbrev at : ℕ → ℕ → NodeId
at realm n = record { realm = realm; n = n }

-- an id that is bound to nothing after another is: it is another, and was bound to nothing
apart : (es : Bound) (k id : NodeId) (x : ℕ) → bound_to (insert_entry id_cmp es k x) id ≡ None → (k ≢ id) × (bound_to es id ≡ None)
apart es k id x none = elim (tells id k) [
  | inl alike ↦ let some : bound_to (insert_entry id_cmp es k x) id ≡ Some x = bound_to-insert es k x id ∙ ap (λ b. cond b (Some x) (bound_to es id)) alike.0 in absurd cc
  | inr other ↦ (λ same. other.1 (sym same), sym (ap (λ b. cond b (Some x) (bound_to es id)) other.0) ∙ (sym (bound_to-insert es k x id) ∙ none))
]

none-under_nodes : (realm n : ℕ) (xs : List ℕ) (es : Bound) (id : NodeId) → bound_to (with_nodes realm n xs es) id ≡ None → bound_to es id ≡ None
none-under_nodes realm n [] es id none = none
none-under_nodes realm n (x ∷ xs) es id none = none-under_nodes realm (n + 1) xs es id (apart (with_nodes realm (n + 1) xs es) (at realm n) id x none).1

pub none-under_realms : (rs : List Realm) (es : Bound) (id : NodeId) → bound_to (with_realms rs es) id ≡ None → bound_to es id ≡ None
none-under_realms [] es id none = none
none-under_realms (r ∷ rs) es id none = none-under_realms rs es id (none-under_nodes r.realm 0 r.nodes.items (with_realms rs es) id none)

under_nodes : (realm n : ℕ) (xs : List ℕ) (es : Bound) (id : NodeId) (y : ℕ) → bound_to (with_nodes realm n xs es) id ≡ None
    → with_nodes realm n xs (insert_entry id_cmp es id y) ≡ insert_entry id_cmp (with_nodes realm n xs es) id y
under_nodes realm n [] es id y none = refl
under_nodes realm n (x ∷ xs) es id y none =
    let inner = with_nodes realm (n + 1) xs es in
    let other = apart inner (at realm n) id x none in
    ap (λ (l : Bound). insert_entry id_cmp l (at realm n) x) (under_nodes realm (n + 1) xs es id y other.1)
    ∙ sym (in_turn inner (at realm n) id x y other.0)

pub under_realms : (rs : List Realm) (es : Bound) (id : NodeId) (y : ℕ) → bound_to (with_realms rs es) id ≡ None
    → with_realms rs (insert_entry id_cmp es id y) ≡ insert_entry id_cmp (with_realms rs es) id y
under_realms [] es id y none = refl
under_realms (r ∷ rs) es id y none =
    let inner = with_realms rs es in
    ap (with_nodes r.realm 0 r.nodes.items) (under_realms rs es id y (none-under_nodes r.realm 0 r.nodes.items inner id none))
    ∙ under_nodes r.realm 0 r.nodes.items inner id y none

behind_nodes : (realm n : ℕ) (xs : List ℕ) (es : Bound) (y : ℕ)
    → with_nodes realm n (xs ++ y ∷ []) es ≡ insert_entry id_cmp (with_nodes realm n xs es) (at realm (n + length xs)) y
behind_nodes realm n [] es y = let there : n ≡ n + 0 = omega arith in ap (λ k. insert_entry id_cmp es (at realm k) y) there
behind_nodes realm n (x ∷ xs) es y =
    let inner = with_nodes realm (n + 1) xs es in
    let there : n + 1 + length xs ≡ n + length (x ∷ xs) = omega arith in
    let other : at realm n ≢ at realm (n + length (x ∷ xs)) = λ same. (let e = ap (λ (q : NodeId). q.n) same in absurd (omega (arith, e))) in
    ap (λ (l : Bound). insert_entry id_cmp l (at realm n) x) (behind_nodes realm (n + 1) xs es y ∙ ap (λ k. insert_entry id_cmp inner (at realm k) y) there)
    ∙ sym (in_turn inner (at realm n) (at realm (n + length (x ∷ xs))) x y other)

-- the same, where a realm was read, and its list grew at its end
pub behind_realm : (rs : List Realm) (i : ℕ) (d r : Realm) (es : Bound) (id : NodeId) (y : ℕ) → bound_to (with_realms rs es) id ≡ None → i < length rs
    → r.realm ≡ id.realm → (get_or rs i d).realm ≡ id.realm → length (get_or rs i d).nodes.items ≡ id.n → r.nodes.items ≡ (get_or rs i d).nodes.items ++ y ∷ []
    → with_realms (set rs i r) es ≡ insert_entry id_cmp (with_realms rs es) id y
behind_realm [] i d r es id y none here realm was next grown = absurd (omega (arith, here))
behind_realm (s ∷ rs) zero d r es id y none here realm was next grown =
    let inner = with_realms rs es in
    let old = s.nodes.items in
    let was' : s.realm ≡ id.realm = was in
    let grown' : r.nodes.items ≡ old ++ y ∷ [] = grown in
    let next' : length old ≡ id.n = next in
    let there : 0 + length old ≡ id.n = omega (arith, next') in
    ap (λ k. with_nodes k 0 r.nodes.items inner) (realm ∙ sym was')
    ∙ (ap (λ xs. with_nodes s.realm 0 xs inner) grown'
    ∙ (behind_nodes s.realm 0 old inner y
    ∙ (ap (λ k. insert_entry id_cmp (with_nodes s.realm 0 old inner) (at k (0 + length old)) y) was'
    ∙ ap (λ k. insert_entry id_cmp (with_nodes s.realm 0 old inner) (at id.realm k) y) there)))
behind_realm (s ∷ rs) (suc i) d r es id y none here realm was next grown =
    let inner = with_realms rs es in
    ap (with_nodes s.realm 0 s.nodes.items) (behind_realm rs i d r es id y (none-under_nodes s.realm 0 s.nodes.items inner id none) (omega (arith, here)) realm was next grown)
    ∙ under_nodes s.realm 0 s.nodes.items inner id y none

pub grown_realm : (rs ds : List Realm) (i : ℕ) (x r : Realm) (es : Bound) (id : NodeId) (y : ℕ) → bound_to (with_realms rs es) id ≡ None → ds ≡ rs → i < length ds → IsNext ds id i
    → x ≡ get_or rs i x → r.realm ≡ x.realm → r.nodes.items ≡ x.nodes.items ++ y ∷ [] → with_realms (set rs i r) es ≡ insert_entry id_cmp (with_realms rs es) id y
grown_realm rs ds i x r es id y none same here next read realm grown =
    let was = (subst (λ (l : List Realm). IsNext l id i) same next) x in
    behind_realm rs i x r es id y none (subst (λ (l : List Realm). i < length l) same here)
    (realm ∙ (ap (λ (s : Realm). s.realm) read ∙ was.0)) was.0 was.1 (grown ∙ ap (λ (s : Realm). s.nodes.items ++ y ∷ []) read)

-- ---- looking up

in_nodes : (realm n k : ℕ) (xs : List ℕ) (es : Bound) → k < length xs → bound_to (with_nodes realm n xs es) (at realm (n + k)) ≡ Some (get_or xs k 0)
in_nodes realm n k [] es less = absurd (omega (arith, less))
in_nodes realm n zero (x ∷ xs) es less =
    let inner = with_nodes realm (n + 1) xs es in
    let there : n + 0 ≡ n = omega arith in
    ap (λ k. bound_to (insert_entry id_cmp inner (at realm n) x) (at realm k)) there
    ∙ (bound_to-insert inner (at realm n) x (at realm n) ∙ ap (λ o. cond (is_eq o) (Some x) (bound_to inner (at realm n))) (id_cmp-same (at realm n)))
in_nodes realm n (suc k) (x ∷ xs) es less =
    let inner = with_nodes realm (n + 1) xs es in
    let q = at realm (n + suc k) in
    let there : n + 1 + k ≡ n + suc k = omega arith in
    bound_to-insert inner (at realm n) x q
    ∙ elim (tells q (at realm n)) [
      | inl alike ↦ let e = ap (λ (i : NodeId). i.n) alike.1 in absurd (omega (arith, e))
      | inr other ↦ ap (λ b. cond b (Some x) (bound_to inner q)) other.0
          ∙ (ap (λ j. bound_to inner (at realm j)) (sym there) ∙ in_nodes realm (n + 1) k xs es (omega (arith, less)))
    ]

not-in_nodes : (realm n : ℕ) (xs : List ℕ) (es : Bound) (q : NodeId) → (realm ≡ q.realm → q.n < n + length xs → n ≤ q.n → ⊥) → bound_to (with_nodes realm n xs es) q ≡ bound_to es q
not-in_nodes realm n [] es q out = refl
not-in_nodes realm n (x ∷ xs) es q out =
    let inner = with_nodes realm (n + 1) xs es in
    bound_to-insert inner (at realm n) x q
    ∙ elim (tells q (at realm n)) [
      | inl alike ↦ absurd (out (sym (ap (λ (i : NodeId). i.realm) alike.1)) (let e = ap (λ (i : NodeId). i.n) alike.1 in omega (arith, e)) (let e = ap (λ (i : NodeId). i.n) alike.1 in omega (arith, e)))
      | inr other ↦ ap (λ b. cond b (Some x) (bound_to inner q)) other.0
          ∙ not-in_nodes realm (n + 1) xs es q (λ same less le. out same (omega (arith, less)) (omega (arith, le)))
    ]

-- what the lists name, else what the others say
abbrev found : Option ℕ → Option ℕ → Option ℕ
found (Some n) o = Some n
found None o = o

pub bound_to-realms : (rs : List Realm) (es : Bound) (q : NodeId) → bound_to (with_realms rs es) q ≡ found (listed rs q) (bound_to es q)
bound_to-realms [] es q = refl
bound_to-realms (r ∷ rs) es q = by_test (r.realm == q.realm && nat_lt q.n (length r.nodes.items)) refl (bound_to-realms rs es q)
  where
    by_test : (b : Bool) → (r.realm == q.realm && nat_lt q.n (length r.nodes.items)) ≡ b → bound_to (with_realms rs es) q ≡ found (listed rs q) (bound_to es q)
        → bound_to (with_realms (r ∷ rs) es) q ≡ found (listed (r ∷ rs) q) (bound_to es q)
    by_test true hit rest =
        let parts = and_parts (r.realm == q.realm) (nat_lt q.n (length r.nodes.items)) hit in
        let same : r.realm ≡ q.realm = grind (arith, nat_tests, parts.0) in
        let less : q.n < length r.nodes.items = grind (arith, nat_tests, parts.1) in
        let there : 0 + q.n ≡ q.n = omega arith in
        rw hit (ap (λ k. bound_to (with_realms (r ∷ rs) es) (at k q.n)) (sym same)
        ∙ (ap (λ k. bound_to (with_realms (r ∷ rs) es) (at r.realm k)) (sym there) ∙ in_nodes r.realm 0 q.n r.nodes.items (with_realms rs es) less))
    by_test false miss rest =
        rw miss (not-in_nodes r.realm 0 r.nodes.items (with_realms rs es) q (λ same less le. out same (omega (arith, less))) ∙ rest)
      where
        out : r.realm ≡ q.realm → q.n < length r.nodes.items → ⊥
        out same less = grind (arith, nat_tests, miss, same, less)

pub node_of-listed : (rs : List Realm) (es : Bound) (q : NodeId) (n : ℕ) → Some n ≡ listed rs q → n ≡ node_of (with_realms rs es) q
node_of-listed rs es q n is = sym (ap (λ o. unwrap_or o 0) (bound_to-realms rs es q ∙ ap (λ o. found o (bound_to es q)) (sym is)))

pub is_bound-listed : (rs : List Realm) (es : Bound) (q : NodeId) (n : ℕ) → Some n ≡ listed rs q → is_bound (with_realms rs es) q ≡ true
is_bound-listed rs es q n is = ap is_some (bound_to-realms rs es q ∙ ap (λ o. found o (bound_to es q)) (sym is))

pub bound_to-others : (rs : List Realm) (es : Bound) (q : NodeId) → None ≡ listed rs q → bound_to (with_realms rs es) q ≡ bound_to es q
bound_to-others rs es q is = bound_to-realms rs es q ∙ ap (λ o. found o (bound_to es q)) (sym is)

-- a realm's list stayed
same_realm : (rs : List Realm) (i : ℕ) (d r : Realm) (es : Bound) → i < length rs → r.realm ≡ (get_or rs i d).realm → r.nodes.items ≡ (get_or rs i d).nodes.items
    → with_realms (set rs i r) es ≡ with_realms rs es
same_realm [] i d r es here realm nodes = absurd (omega (arith, here))
same_realm (s ∷ rs) zero d r es here realm nodes = ap (λ k. with_nodes k 0 r.nodes.items (with_realms rs es)) realm ∙ ap (λ xs. with_nodes s.realm 0 xs (with_realms rs es)) nodes
same_realm (s ∷ rs) (suc i) d r es here realm nodes = ap (with_nodes s.realm 0 s.nodes.items) (same_realm rs i d r es (omega (arith, here)) realm nodes)

pub kept_realm : (rs ds : List Realm) (i : ℕ) (x r : Realm) (es : Bound) → ds ≡ rs → i < length ds → x ≡ get_or rs i x → r.realm ≡ x.realm → r.nodes.items ≡ x.nodes.items
    → with_realms (set rs i r) es ≡ with_realms rs es
kept_realm rs ds i x r es same here read realm nodes =
    same_realm rs i x r es (subst (λ (l : List Realm). i < length l) same here) (realm ∙ ap (λ (s : Realm). s.realm) read) (nodes ∙ ap (λ (s : Realm). s.nodes.items) read)

pub on_ok : {T E : Type 0} (r : Result T E) (P Q : Type 0) → (P → Q) → OnOk r P → OnOk r Q
on_ok (Ok x) P Q f h = f h
on_ok (Err e) P Q f h = tt

pub on_err : {T E : Type 0} (r : Result T E) (P Q : Type 0) → (P → Q) → OnErr r P → OnErr r Q
on_err (Ok x) P Q f h = tt
on_err (Err e) P Q f h = f h
