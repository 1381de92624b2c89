-- Numbers, lists of them and trees so many numbers further on.
use Rattle.std.proofs.Common.{◌≡◌, ◌<◌, ◌≤◌, ◌+◌, ◌-◌, ℕ, zero, suc, Bool, true, false, cond, eqb, List, [], ◌∷◌, ◌++◌, length, map, take, drop, get_or, set, Option, Some, None, if◌then◌else◌, refl, sym, ap, subst, ◌∙◌, inl, inr, arith, length-set, length-append, get_or-set_same, get_or-set_other}
use Rattle.std.specs.Prelude.{◌==◌, ◌||◌, ◌&&◌, not, nat_lt, insert, unwrap_or, option_and_then}
use Rattle.std.specs.Option.{option_map, option_or}
use Rattle.std.specs.List.{list_any, prefix_len}
use Rattle.std.proofs.lemmas.Bool.{cases_eq, cases_lt, ne_eqb, eq-eqb}
use Rattle.std.proofs.lemmas.Bool.Decides.{nat_tests}
use Rattle.std.proofs.lemmas.List.{length-map, get_or_past, get_or-map, take-map, drop-map, map-append}
use Rattle.html_types.specs.Numbers.{count_of, without, place_of, put_in}
use Rattle.html_types.proofs.Counts.{count_of-here}
use Rattle.html_types.specs.declared.tree.Node.{Node}
use Rattle.html_types.specs.declared.tree.Kind.{Kind}
use Rattle.html_types.specs.declared.tree.Kind.TheVariants as kind
use Rattle.standard.specs.Tree.{Nodes, IsTree, no_node, node_at, kind_of, parent_of, children_of, host_of, contents_of, above_of, climb, stands_in, is_document, is_text, is_element, is_element_at, lone, with_kind, with_parent, with_children, relinked, taken_out, detached, put_under, moved, lies_in, is_other_element, is_second_element, is_impossible, put_of, all_put, with_new, with_more, text_before, text_put, text_added}
use Rattle.doc_tree.proofs.Links.{cases_option}
use Rattle.doc_tree.proofs.Trees.{node_at-push}
use Rattle.op_exec.specs.Docs.{IsPlain}
use Rattle.op_exec.proofs.Docs.{IsPlain-kept}
use Rattle.fragment_laws.specs.Laws.{further, shifted}
use Rattle.fragment_laws.proofs.Apart.{Apart, beyond-put_of}
use Rattle.fragment_laws.proofs.Exchange.{first-of, more-of}
use Rattle.fragment_laws.proofs.Sound.{IsTree-put_of, Keeps-put_of}

module _ (k : ℕ) where
  pub eqb-further : (m n : ℕ) → eqb (m + k) (n + k) ≡ eqb m n
  eqb-further m n = elim (cases_eq m n) [
    | inl same ↦ eq-eqb (m + k) (n + k) (ap (λ x. x + k) same) ∙ sym (eq-eqb m n same)
    | inr other ↦ ne_eqb (m + k) (n + k) (λ same. other (omega (arith, same))) ∙ sym (ne_eqb m n other)
  ]

  -- ---- lists

  pub count-further : (n : ℕ) (xs : List ℕ) → count_of (n + k) (map (further k) xs) ≡ count_of n xs
  count-further n [] = refl
  count-further n (x ∷ xs) =
      ap (λ b. cond b 1 0 + count_of (n + k) (map (further k) xs)) (eqb-further x n) ∙ ap (λ c. cond (eqb x n) 1 0 + c) (count-further n xs)

  pub without-further : (n : ℕ) (xs : List ℕ) → without (n + k) (map (further k) xs) ≡ map (further k) (without n xs)
  without-further n [] = refl
  without-further n (x ∷ xs) = ap (λ b. cond (not b) ((x + k) ∷ rest) rest) (eqb-further x n) ∙ by (eqb x n) (without-further n xs)
    where
      rest : List ℕ
      rest = without (n + k) (map (further k) xs)

      by : (b : Bool) → rest ≡ map (further k) (without n xs) → cond (not b) ((x + k) ∷ rest) rest ≡ map (further k) (cond (not b) (x ∷ without n xs) (without n xs))
      by true same = same
      by false same = ap (λ l. (x + k) ∷ l) same

  pub insert-further : (xs : List ℕ) (i n : ℕ) → insert (map (further k) xs) i (n + k) ≡ map (further k) (insert xs i n)
  insert-further xs i n =
      ap (λ l. l ++ (n + k) ∷ drop i (map (further k) xs)) (take-map (further k) i xs)
      ∙ (ap (λ l. map (further k) (take i xs) ++ (n + k) ∷ l) (drop-map (further k) i xs)
      ∙ sym (map-append (further k) (take i xs) (n ∷ drop i xs)))

  abbrev place_at : ℕ → ℕ → ℕ
  place_at i l = unwrap_or (cond (nat_lt i l) (Some i) None) l

  first-further : (b : ℕ) (xs : List ℕ) → prefix_len (λ c. not (c == b + k)) (map (further k) xs) ≡ prefix_len (λ c. not (c == b)) xs
  first-further b [] = refl
  first-further b (x ∷ xs) =
      ap (λ t. cond (not t) (1 + prefix_len (λ c. not (c == b + k)) (map (further k) xs)) 0) (eqb-further x b)
      ∙ ap (λ i. cond (not (x == b)) (1 + i) 0) (first-further b xs)

  pub place-further : (xs : List ℕ) (before : Option ℕ) → place_of (map (further k) xs) (option_map (further k) before) ≡ place_of xs before
  place-further xs None = length-map xs (further k)
  place-further xs (Some b) =
      ap (λ i. place_at i (length (map (further k) xs))) (first-further b xs)
      ∙ ap (λ l. place_at (prefix_len (λ c. not (c == b)) xs) l) (length-map xs (further k))

  pub put_in-further : (xs : List ℕ) (n : ℕ) (before : Option ℕ) → put_in (map (further k) xs) (n + k) (option_map (further k) before) ≡ map (further k) (put_in xs n before)
  put_in-further xs n before =
      ap (λ i. insert (map (further k) xs) i (n + k)) (place-further xs before) ∙ insert-further xs (place_of xs before) n

  -- ---- trees: the nodes of t but the first stand in s so many numbers further on

  pub record Beside (t s : Nodes) : Type 0 where
    pub size : length s ≡ length t + k
    pub nodes : (m : ℕ) → 1 ≤ m → node_at s (m + k) ≡ shifted k (node_at t m)

  pub Beside-set : (t s : Nodes) (n : ℕ) (x : Node) → Beside t s → Beside (set t n x) (set s (n + k) (shifted k x))
  Beside-set t s n x b =
      let t_long : length (set t n x) ≡ length t = length-set t n x in
      let s_long : length (set s (n + k) (shifted k x)) ≡ length s = length-set s (n + k) (shifted k x) in
      record {
        size = omega (arith, t_long, s_long, b.size);
        nodes = λ m pos. elim (cases_eq m n) [
          | inl same ↦ ap (λ i. node_at (set s (n + k) (shifted k x)) (i + k)) same ∙ (here ∙ ap (λ i. shifted k (node_at (set t n x) i)) (sym same))
          | inr other ↦
              get_or-set_other s (n + k) (m + k) (shifted k x) no_node (λ same. other (omega (arith, same)))
              ∙ (b.nodes m pos ∙ ap (shifted k) (sym (get_or-set_other t n m x no_node other)))
        ];
      }
    where
      here : node_at (set s (n + k) (shifted k x)) (n + k) ≡ shifted k (node_at (set t n x) n)
      here = elim (cases_lt n (length t)) [
        | inl below ↦
            get_or-set_same s (n + k) (shifted k x) no_node (let size : length s ≡ length t + k = b.size in omega (arith, below, size)) ∙ ap (shifted k) (sym (get_or-set_same t n x no_node below))
        | inr past ↦
            let t_long : length (set t n x) ≡ length t = length-set t n x in
            let s_long : length (set s (n + k) (shifted k x)) ≡ length s = length-set s (n + k) (shifted k x) in
            let size : length s ≡ length t + k = b.size in
            get_or_past (set s (n + k) (shifted k x)) (n + k) no_node (omega (arith, s_long, size, past)) ∙ ap (shifted k) (sym (get_or_past (set t n x) n no_node (omega (arith, t_long, past))))
      ]

  Beside-children : (t s : Nodes) (p : ℕ) (cs : List ℕ) → Beside t s → 1 ≤ p → Beside (with_children t p cs) (with_children s (p + k) (map (further k) cs))
  Beside-children t s p cs b pos =
      subst (λ (y : Node). Beside (with_children t p cs) (set s (p + k) (record y { children = map (further k) cs }))) (sym (b.nodes p pos))
      (Beside-set t s p (record (node_at t p) { children = cs }) b)

  Beside-parent : (t s : Nodes) (n : ℕ) (u : Option ℕ) → Beside t s → 1 ≤ n → Beside (with_parent t n u) (with_parent s (n + k) (option_map (further k) u))
  Beside-parent t s n u b pos =
      subst (λ (y : Node). Beside (with_parent t n u) (set s (n + k) (record y { parent = option_map (further k) u }))) (sym (b.nodes n pos))
      (Beside-set t s n (record (node_at t n) { parent = u }) b)

  pub Beside-kind : (t s : Nodes) (n : ℕ) (x : Kind) → Beside t s → 1 ≤ n → Beside (with_kind t n x) (with_kind s (n + k) x)
  Beside-kind t s n x b pos =
      subst (λ (y : Node). Beside (with_kind t n x) (set s (n + k) (record y { kind = x }))) (sym (b.nodes n pos))
      (Beside-set t s n (record (node_at t n) { kind = x }) b)

  Beside-relinked : (t s : Nodes) (p : ℕ) (cs : List ℕ) (n : ℕ) (u : Option ℕ) → Beside t s → 1 ≤ p → 1 ≤ n → Beside (relinked t p cs n u) (relinked s (p + k) (map (further k) cs) (n + k) (option_map (further k) u))
  Beside-relinked t s p cs n u b p_pos n_pos =
      Beside-parent (with_children t p cs) (with_children s (p + k) (map (further k) cs)) n u (Beside-children t s p cs b p_pos) n_pos

  -- what is read there
  module _ (t s : Nodes) (b : Beside t s) (n : ℕ) (pos : 1 ≤ n) where
    abbrev parent_in : Node → Option ℕ
    parent_in x = x.parent

    abbrev children_in : Node → List ℕ
    children_in x = x.children

    abbrev contents_in : Node → Option ℕ
    contents_in x = x.contents

    abbrev above_in : Node → Option ℕ
    above_in x = option_or x.host x.parent

    abbrev kind_in : Node → Kind
    kind_in x = x.kind

    pub parent-further : parent_of s (n + k) ≡ option_map (further k) (parent_of t n)
    parent-further = ap parent_in (b.nodes n pos)

    pub children-further : children_of s (n + k) ≡ map (further k) (children_of t n)
    children-further = ap children_in (b.nodes n pos)

    pub contents-further : contents_of s (n + k) ≡ option_map (further k) (contents_of t n)
    contents-further = ap contents_in (b.nodes n pos)

    pub kind-further : kind_of s (n + k) ≡ kind_of t n
    kind-further = ap kind_in (b.nodes n pos)

    above-further : above_of s (n + k) ≡ option_map (further k) (above_of t n)
    above-further = ap above_in (b.nodes n pos) ∙ by (host_of t n)
      where
        by : (h : Option ℕ) → option_or (option_map (further k) h) (option_map (further k) (parent_of t n)) ≡ option_map (further k) (option_or h (parent_of t n))
        by None = refl
        by (Some h) = refl

  -- ---- a node taken out

  pub Beside-detached : (t s : Nodes) (n : ℕ) → Beside t s → Apart 1 t → 1 ≤ n → Beside (detached t n) (detached s (n + k))
  Beside-detached t s n b a pos =
      subst (λ u. Beside (detached t n) (taken_out s (n + k) u)) (sym (parent-further t s b n pos)) (by (parent_of t n) refl)
    where
      by : (u : Option ℕ) → parent_of t n ≡ u → Beside (taken_out t n u) (taken_out s (n + k) (option_map (further k) u))
      by None is = b
      by (Some p) is =
          let p_pos : 1 ≤ p = (a n pos).parent p is in
          let same : without (n + k) (children_of s (p + k)) ≡ map (further k) (without n (children_of t p)) = ap (without (n + k)) (children-further t s b p p_pos) ∙ without-further n (children_of t p) in
          subst (λ cs. Beside (relinked t p (without n (children_of t p)) n None) (relinked s (p + k) cs (n + k) None)) (sym same)
          (Beside-relinked t s p (without n (children_of t p)) n None b p_pos pos)

  Beside-put_under : (t s : Nodes) (n p : ℕ) (before : Option ℕ) → Beside t s → 1 ≤ n → 1 ≤ p → Beside (put_under t n p before) (put_under s (n + k) (p + k) (option_map (further k) before))
  Beside-put_under t s n p before b n_pos p_pos =
      let same : put_in (children_of s (p + k)) (n + k) (option_map (further k) before) ≡ map (further k) (put_in (children_of t p) n before) =
      ap (λ cs. put_in cs (n + k) (option_map (further k) before)) (children-further t s b p p_pos) ∙ put_in-further (children_of t p) n before in
      subst (λ cs. Beside (put_under t n p before) (relinked s (p + k) cs (n + k) (Some (p + k)))) (sym same) (Beside-relinked t s p (put_in (children_of t p) n before) n (Some p) b p_pos n_pos)

  Beside-moved : (t s : Nodes) (n p : ℕ) (before : Option ℕ) → Beside t s → Apart 1 t → 1 ≤ n → 1 ≤ p → Beside (moved t n p before) (moved s (n + k) (p + k) (option_map (further k) before))
  Beside-moved t s n p before b a n_pos p_pos =
      Beside-put_under (detached t n) (detached s (n + k)) n p before (Beside-detached t s n b a n_pos) n_pos p_pos

  -- ---- whether a node can be put somewhere

  -- a way up that ends is the same there
  stands : (up up' : ℕ → Option ℕ) → ((m : ℕ) → 1 ≤ m → up' (m + k) ≡ option_map (further k) (up m)) → ((m q : ℕ) → 1 ≤ m → up m ≡ Some q → 1 ≤ q)
      → (j i m n : ℕ) → j ≤ i → 1 ≤ m → climb up j m ≡ None → stands_in up' i (m + k) (n + k) ≡ stands_in up j m n
  stands up up' alike far zero i m n le pos ends = absurd (cc)
  stands up up' alike far (suc j) zero m n le pos ends = absurd (omega (arith, le))
  stands up up' alike far (suc j) (suc i) m n le pos ends =
      ap (λ v. v || unwrap_or (option_map (λ p. stands_in up' i p (n + k)) (up' (m + k))) false) (eqb-further m n)
      ∙ (ap (λ o. (m == n) || unwrap_or (option_map (λ p. stands_in up' i p (n + k)) o) false) (alike m pos)
      ∙ elim (cases_option (up m)) [
        | inl top ↦
            ap (λ o. (m == n) || unwrap_or (option_map (λ p. stands_in up' i p (n + k)) (option_map (further k) o)) false) top
            ∙ sym (ap (λ o. (m == n) || unwrap_or (option_map (λ p. stands_in up j p n) o) false) top)
        | inr link ↦
            let rest : climb up j link.0 ≡ None = sym (ap (option_and_then (climb up j)) link.1) ∙ ends in
            ap (λ o. (m == n) || unwrap_or (option_map (λ p. stands_in up' i p (n + k)) (option_map (further k) o)) false) link.1
            ∙ (ap (λ v. (m == n) || v) (stands up up' alike far j i link.0 n (omega (arith, le)) (far m link.0 pos link.1) rest)
            ∙ sym (ap (λ o. (m == n) || unwrap_or (option_map (λ p. stands_in up j p n) o) false) link.1))
      ])

  lies-further : (t s : Nodes) (m n : ℕ) → Beside t s → Apart 1 t → IsTree t → m < length t → 1 ≤ m → lies_in s (m + k) (n + k) ≡ lies_in t m n
  lies-further t s m n b a tree below pos =
      let size : length s ≡ length t + k = b.size in
      stands (above_of t) (above_of s) (above-further t s b) far (length t) (length s) m n (omega (arith, size)) pos (tree.rooted m below)
    where
      far : (m q : ℕ) → 1 ≤ m → above_of t m ≡ Some q → 1 ≤ q
      far m q m_pos is = by (host_of t m) refl is
        where
          by : (h : Option ℕ) → host_of t m ≡ h → option_or h (parent_of t m) ≡ Some q → 1 ≤ q
          by None none link = (a m m_pos).parent q link
          by (Some h) some link = (a m m_pos).host q (some ∙ link)

  second-further : (t s : Nodes) (n p : ℕ) → Beside t s → Apart 1 t → 1 ≤ n → 1 ≤ p → is_second_element s (n + k) (p + k) ≡ is_second_element t n p
  second-further t s n p b a n_pos p_pos =
      ap (λ x. is_document x && is_element_at s (n + k) && list_any (is_other_element s (n + k)) (children_of s (p + k))) (kind-further t s b p p_pos)
      ∙ (ap (λ x. is_document (kind_of t p) && is_element x && list_any (is_other_element s (n + k)) (children_of s (p + k))) (kind-further t s b n n_pos)
      ∙ (ap (λ cs. is_document (kind_of t p) && is_element_at t n && list_any (is_other_element s (n + k)) cs) (children-further t s b p p_pos)
      ∙ ap (λ v. is_document (kind_of t p) && is_element_at t n && v) (any (children_of t p) (a p p_pos).children)))
    where
      one : (c : ℕ) → 1 ≤ c → is_other_element s (n + k) (c + k) ≡ is_other_element t n c
      one c pos = ap (λ v. not v && is_element_at s (c + k)) (eqb-further c n) ∙ ap (λ x. not (c == n) && is_element x) (kind-further t s b c pos)

      any : (cs : List ℕ) → ((c : ℕ) → 0 < count_of c cs → 1 ≤ c) → list_any (is_other_element s (n + k)) (map (further k) cs) ≡ list_any (is_other_element t n) cs
      any [] far = refl
      any (c ∷ cs) far =
          ap (λ v. v || list_any (is_other_element s (n + k)) (map (further k) cs)) (one c (far c (first-of c cs)))
          ∙ ap (λ v. is_other_element t n c || v) (any cs (λ d some. far d (more-of d c cs some)))

  impossible-further : (t s : Nodes) (n p : ℕ) → Beside t s → Apart 1 t → IsTree t → p < length t → 1 ≤ n → 1 ≤ p → is_impossible s (n + k) (p + k) ≡ is_impossible t n p
  impossible-further t s n p b a tree below n_pos p_pos =
      ap (λ v. v || is_second_element s (n + k) (p + k)) (lies-further t s p n b a tree below p_pos) ∙ ap (λ v. lies_in t p n || v) (second-further t s n p b a n_pos p_pos)

  pub Beside-put_of : (t s : Nodes) (n p : ℕ) (before : Option ℕ) → Beside t s → Apart 1 t → IsTree t → p < length t → 1 ≤ n → 1 ≤ p → Beside (put_of t n p before) (put_of s (n + k) (p + k) (option_map (further k) before))
  Beside-put_of t s n p before b a tree below n_pos p_pos =
      subst (λ v. Beside (put_of t n p before) (if v then s else moved s (n + k) (p + k) (option_map (further k) before))) (sym (impossible-further t s n p b a tree below n_pos p_pos))
      (by (is_impossible t n p))
    where
      by : (v : Bool) → Beside (if v then t else moved t n p before) (if v then s else moved s (n + k) (p + k) (option_map (further k) before))
      by true = b
      by false = Beside-moved t s n p before b a n_pos p_pos

  pub Beside-all_put : (cs : List ℕ) (t s : Nodes) (p : ℕ) → Beside t s → Apart 1 t → IsTree t → ((c : ℕ) → 0 < count_of c cs → IsPlain t c) → ((c : ℕ) → 0 < count_of c cs → 1 ≤ c) → p < length t → 1 ≤ p
      → Beside (all_put t cs p) (all_put s (map (further k) cs) (p + k))
  Beside-all_put [] t s p b a tree plain far below p_pos = b
  Beside-all_put (c ∷ cs) t s p b a tree plain far below p_pos =
      let here : IsPlain t c = plain c (first-of c cs) in
      let c_pos : 1 ≤ c = far c (first-of c cs) in
      let keeps = Keeps-put_of t c p None tree here below in
      let u : Nodes = put_of t c p None in
      Beside-all_put cs u (put_of s (c + k) (p + k) None) p (Beside-put_of t s c p None b a tree below c_pos p_pos) (beyond-put_of 1 t c p None a c_pos p_pos).apart (IsTree-put_of t c p None tree here below)
      (λ d some. IsPlain-kept t u d keeps (plain d (more-of d c cs some))) (λ d some. far d (more-of d c cs some)) (omega (arith, keeps.nodes, below)) p_pos

  -- ---- new nodes

  pub Beside-push : (t s : Nodes) (x : Node) → Beside t s → Beside (t ++ x ∷ []) (s ++ shifted k x ∷ [])
  Beside-push t s x b =
      let t_long : length (t ++ x ∷ []) ≡ length t + 1 = length-append t (x ∷ []) in
      let s_long : length (s ++ shifted k x ∷ []) ≡ length s + 1 = length-append s (shifted k x ∷ []) in
      record {
        size = omega (arith, t_long, s_long, b.size);
        nodes = λ m pos.
            node_at-push s (shifted k x) (m + k)
            ∙ (ap (λ l. cond (eqb (m + k) l) (shifted k x) (node_at s (m + k))) b.size
            ∙ (ap (λ v. cond v (shifted k x) (node_at s (m + k))) (eqb-further m (length t))
            ∙ (ap (λ y. cond (eqb m (length t)) (shifted k x) y) (b.nodes m pos)
            ∙ (by (eqb m (length t)) (node_at t m) ∙ ap (shifted k) (sym (node_at-push t x m))))));
      }
    where
      by : (v : Bool) (y : Node) → cond v (shifted k x) (shifted k y) ≡ shifted k (cond v x y)
      by true y = refl
      by false y = refl

  pub Beside-with_new : (t s : Nodes) (p place : ℕ) (x : Kind) → Beside t s → Apart 1 t → 1 ≤ length t → 1 ≤ p → Beside (with_new t p place x) (with_new s (p + k) place x)
  Beside-with_new t s p place x b a some pos =
      let u : Nodes = t ++ lone x ∷ [] in
      let v : Nodes = s ++ lone x ∷ [] in
      let more : Beside u v = Beside-push t s (lone x) b in
      let same : insert (children_of v (p + k)) place (length t + k) ≡ map (further k) (insert (children_of u p) place (length t)) =
      ap (λ cs. insert cs place (length t + k)) (children-further u v more p pos) ∙ insert-further (children_of u p) place (length t) in
      subst (λ l. Beside (with_new t p place x) (relinked v (p + k) (insert (children_of v (p + k)) place l) l (Some (p + k)))) (sym b.size)
      (subst (λ cs. Beside (with_new t p place x) (relinked v (p + k) cs (length t + k) (Some (p + k)))) (sym same) (Beside-relinked u v p (insert (children_of u p) place (length t)) (length t) (Some p) more pos some))

  -- ---- a text, which may join the one before it

  pub Beside-text : (t s : Nodes) (p place : ℕ) (text : List ℕ) → Beside t s → Apart 1 t → 1 ≤ length t → 1 ≤ p → place ≤ length (children_of t p) → Beside (text_added t p place text) (text_added s (p + k) place text)
  Beside-text t s p place [] b a some pos within = b
  Beside-text t s p place (c ∷ cs) b a some pos within =
      subst (λ x. Beside (text_added t p place (c ∷ cs)) (if is_document x then s else text_put s (p + k) place (c ∷ cs) (text_before s (p + k) place))) (sym (kind-further t s b p pos))
      (by (is_document (kind_of t p)))
    where
      m : ℕ
      m = get_or (children_of t p) (place - 1) 0

      m' : ℕ
      m' = get_or (children_of s (p + k)) (place - 1) 0

      -- a child of p
      child : 0 < place → 1 ≤ m
      child behind = (a p pos).children m (count_of-here (children_of t p) (place - 1) (omega (arith, behind, within)))

      m-same : 0 < place → m' ≡ m + k
      m-same behind =
          ap (λ l. get_or l (place - 1) 0) (children-further t s b p pos) ∙ get_or-map (further k) (children_of t p) (place - 1) 0 0 (omega (arith, behind, within))

      new : Beside (text_put t p place (c ∷ cs) None) (text_put s (p + k) place (c ∷ cs) None)
      new = Beside-with_new t s p place (kind.Text (c ∷ cs)) b a some pos

      joined : (v : Bool) → 0 < place → Beside (text_put t p place (c ∷ cs) (if v then Some m else None)) (text_put s (p + k) place (c ∷ cs) (if v then Some (m + k) else None))
      joined false behind = new
      joined true behind =
          subst (λ x. Beside (with_kind t m (with_more (kind_of t m) (c ∷ cs))) (with_kind s (m + k) (with_more x (c ∷ cs)))) (sym (kind-further t s b m (child behind)))
          (Beside-kind t s m (with_more (kind_of t m) (c ∷ cs)) b (child behind))

      put : (after : Bool) → nat_lt 0 place ≡ after
          → Beside (text_put t p place (c ∷ cs) (if after && is_text (kind_of t m) then Some m else None)) (text_put s (p + k) place (c ∷ cs) (if after && is_text (kind_of s m') then Some m' else None))
      put false is = new
      put true is =
          let behind : 0 < place = grind (arith, nat_tests, is) in
          subst (λ i. Beside (text_put t p place (c ∷ cs) (if is_text (kind_of t m) then Some m else None)) (text_put s (p + k) place (c ∷ cs) (if is_text (kind_of s i) then Some i else None))) (sym (m-same behind))
          (subst (λ x. Beside (text_put t p place (c ∷ cs) (if is_text (kind_of t m) then Some m else None)) (text_put s (p + k) place (c ∷ cs) (if is_text x then Some (m + k) else None))) (sym (kind-further t s b m (child behind)))
          (joined (is_text (kind_of t m)) behind))

      by : (v : Bool) → Beside (if v then t else text_put t p place (c ∷ cs) (text_before t p place)) (if v then s else text_put s (p + k) place (c ∷ cs) (text_before s (p + k) place))
      by true = b
      by false = put (nat_lt 0 place) refl
