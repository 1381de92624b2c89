-- What is laid into the caller's room.
use Rattle.std.proofs.Common.{◌≡◌, ◌≢◌, ◌≤◌, ◌⊎◌, inl, inr, ℕ, Bool, true, false, ◌||◌, List, ◌++◌, length, take, drop, Result, Ok, Err, IfErr, refl, sym, ap, subst, ◌∙◌, arith, length-append}
use Rattle.std.specs.Prelude.{nat_lt}
use Rattle.std.proofs.Math.Seq.{take-append_seam, drop-append_seam}
use Rattle.std.proofs.lemmas.Bool.{ltb-true, ltb-false}
use Rattle.standard.specs.Tree.{Nodes}
use Rattle.html_document.specs.declared.spans.FlatNode.{FlatNode}
use Rattle.html_document.specs.declared.spans.FlatAttribute.{FlatAttribute}
use Rattle.html_document.specs.Flat.{Shows}
use Rattle.specparse_c.specs.declared.failure.Failure.{Failure}
use Rattle.specparse_c.specs.declared.results.Rooted.{Rooted}
use Rattle.specparse_c.specs.declared.rooms.SpSizes.{SpSizes}
use Rattle.specparse_c.specs.Statuses.{status_of}
use Rattle.specparse_c.specs.Rooms.{no_sizes, sizes_of, lacks, AreTooSmall, ShownIn, AreSizes, Keeps, KeepsBytes, IsLaid, IsLeft, Gives, GivesMade}
use Rattle.specparse_c.proofs.Failures.{same-failure, not-done, not-room}

laid-fits : {A : Type 0} (xs ys : List A) → length xs ≤ length (xs ++ ys)
laid-fits xs ys = omega (arith, length-append xs ys)

shown-laid : (t : Nodes) (r : Rooted) (ns : List FlatNode) (as' : List FlatAttribute) (bs : List ℕ) → Shows t r.flat.nodes.items r.flat.attributes.items r.flat.text.items →
    ShownIn t (sizes_of r) (r.flat.nodes.items ++ ns) (r.flat.attributes.items ++ as') (r.flat.text.items ++ bs)
shown-laid t r ns as' bs h =
    let n : List FlatNode = r.flat.nodes.items in
    let a : List FlatAttribute = r.flat.attributes.items in
    let b : List ℕ = r.flat.text.items in
    record {
      nodes = laid-fits n ns;
      attributes = laid-fits a as';
      text = laid-fits b bs;
      shows = subst (λ x. Shows t x (take (length a) (a ++ as')) (take (length b) (b ++ bs))) (sym (take-append_seam n ns))
          (subst (λ x. Shows t n x (take (length b) (b ++ bs))) (sym (take-append_seam a as')) (subst (λ x. Shows t n a x) (sym (take-append_seam b bs)) h));
    }

pub shown-in : (t : Nodes) (r : Rooted) (status : ℕ) (s : SpSizes) (ns new_ns : List FlatNode) (as' new_as : List FlatAttribute) (bs new_bs : List ℕ) → Shows t r.flat.nodes.items r.flat.attributes.items r.flat.text.items →
    s ≡ sizes_of r → IsLaid r status ns new_ns as' new_as bs new_bs → ShownIn t s new_ns new_as new_bs
shown-in t r status s ns new_ns as' new_as bs new_bs h is laid =
    subst (λ x. ShownIn t x new_ns new_as new_bs) (sym is)
    (subst (λ x. ShownIn t (sizes_of r) x new_as new_bs) (sym laid.nodes)
    (subst (λ x. ShownIn t (sizes_of r) (r.flat.nodes.items ++ drop (length r.flat.nodes.items) ns) x new_bs) (sym laid.attributes)
    (subst (λ x. ShownIn t (sizes_of r) (r.flat.nodes.items ++ drop (length r.flat.nodes.items) ns) (r.flat.attributes.items ++ drop (length r.flat.attributes.items) as') x) (sym laid.text)
    (shown-laid t r (drop (length r.flat.nodes.items) ns) (drop (length r.flat.attributes.items) as') (drop (length r.flat.text.items) bs) h))))

pub are-sizes : (t : Nodes) (r : Rooted) (s : SpSizes) → Shows t r.flat.nodes.items r.flat.attributes.items r.flat.text.items → s ≡ sizes_of r → AreSizes t s
are-sizes t r s h is = record {
  nodes = ap (λ (x : SpSizes). x.nodes) is ∙ h.size;
  attributes = ap (λ (x : SpSizes). x.attributes) is ∙ h.attributes;
  text = ap (λ (x : SpSizes). x.text) is ∙ ap length h.text;
}

-- ---- the test of the rooms

none-lacks : (x y z : Bool) → (x || (y || z)) ≡ false → (x ≡ false) × ((y ≡ false) × (z ≡ false))
none-lacks true y z h = absurd (cc h)
none-lacks false true z h = absurd (cc h)
none-lacks false false true h = absurd (cc h)
none-lacks false false false h = (refl, (refl, refl))

pub rooms-fit : (r : Rooted) (s : SpSizes) (n a t : ℕ) (b : Bool) → s ≡ sizes_of r → b ≡ lacks s n a t → b ≡ false
    → (length r.flat.nodes.items ≤ n) × ((length r.flat.attributes.items ≤ a) × (length r.flat.text.items ≤ t))
rooms-fit r s n a t b is told off =
    let k : SpSizes = sizes_of r in
    let h : lacks k n a t ≡ false = ap (λ (x : SpSizes). lacks x n a t) (sym is) ∙ (sym told ∙ off) in
    let each : (nat_lt n k.nodes ≡ false) × ((nat_lt a k.attributes ≡ false) × (nat_lt t k.text ≡ false)) = none-lacks (nat_lt n k.nodes) (nat_lt a k.attributes) (nat_lt t k.text) h in
    (ltb-false n k.nodes each.0, (ltb-false a k.attributes each.1.0, ltb-false t k.text each.1.1))

some-lacks : (x y z : Bool) → (x || (y || z)) ≡ true → (x ≡ true) ⊎ ((y ≡ true) ⊎ (z ≡ true))
some-lacks true y z h = inl refl
some-lacks false true z h = inr (inl refl)
some-lacks false false true h = inr (inr refl)
some-lacks false false false h = absurd (cc h)

too-small : (s : SpSizes) (ns : List FlatNode) (as' : List FlatAttribute) (bs : List ℕ)
    → ((nat_lt (length ns) s.nodes ≡ true) ⊎ ((nat_lt (length as') s.attributes ≡ true) ⊎ (nat_lt (length bs) s.text ≡ true))) → AreTooSmall s ns as' bs
too-small s ns as' bs (inl h) = inl (ltb-true (length ns) s.nodes h)
too-small s ns as' bs (inr (inl h)) = inr (inl (ltb-true (length as') s.attributes h))
too-small s ns as' bs (inr (inr h)) = inr (inr (ltb-true (length bs) s.text h))

pub rooms-lack : (s : SpSizes) (ns : List FlatNode) (as' : List FlatAttribute) (bs : List ℕ) (b : Bool) → b ≡ lacks s (length ns) (length as') (length bs) → b ≡ true → AreTooSmall s ns as' bs
rooms-lack s ns as' bs b told on =
    too-small s ns as' bs (some-lacks (nat_lt (length ns) s.nodes) (nat_lt (length as') s.attributes) (nat_lt (length bs) s.text) (sym told ∙ on))

-- ---- what the status says

-- a failure's
pub failed : (P : Failure → Type 0) (g : Failure) (tree : Result Rooted Failure) (status : ℕ) (s : SpSizes) (ns new_ns : List FlatNode) (as' new_as : List FlatAttribute) (bs new_bs : List ℕ) → IfErr tree P →
    Gives tree status s ns new_ns as' new_as bs new_bs → status ≡ status_of g → P g
failed P g (Ok r) status s ns new_ns as' new_as bs new_bs h (sizes, inl laid) is = absurd (not-done g (sym is ∙ laid.status))
failed P g (Ok r) status s ns new_ns as' new_as bs new_bs h (sizes, inr (full, small, left)) is = absurd (not-room g (sym is ∙ full))
failed P g (Err f) status s ns new_ns as' new_as bs new_bs h (own, none, left) is = subst P (same-failure f g (sym own ∙ is)) h

-- nothing is needed where there is nothing
pub none-needed : (tree : Result Rooted Failure) (status : ℕ) (s : SpSizes) (ns new_ns : List FlatNode) (as' new_as : List FlatAttribute) (bs new_bs : List ℕ) → Gives tree status s ns new_ns as' new_as bs new_bs → status ≢ 0 →
    status ≢ 13 → s ≡ no_sizes
none-needed (Ok r) status s ns new_ns as' new_as bs new_bs (sizes, inl laid) other more = absurd (other laid.status)
none-needed (Ok r) status s ns new_ns as' new_as bs new_bs (sizes, inr (full, small, left)) other more = absurd (more full)
none-needed (Err f) status s ns new_ns as' new_as bs new_bs (own, none, left) other more = none

-- what stays, where nothing is laid
left-as-they-were : (status : ℕ) (s : SpSizes) (ns new_ns : List FlatNode) (as' new_as : List FlatAttribute) (bs new_bs : List ℕ) → IsLeft ns new_ns as' new_as bs new_bs → Keeps status s ns new_ns as' new_as bs new_bs
left-as-they-were status s ns new_ns as' new_as bs new_bs left = record {
  nodes_behind = λ z. ap (drop s.nodes) left.nodes;
  attributes_behind = λ z. ap (drop s.attributes) left.attributes;
  text_behind = λ z. ap (drop s.text) left.text;
  nodes = λ n. left.nodes;
  attributes = λ n. left.attributes;
  text = λ n. left.text;
}

pub keeps : (tree : Result Rooted Failure) (status : ℕ) (s : SpSizes) (ns new_ns : List FlatNode) (as' new_as : List FlatAttribute) (bs new_bs : List ℕ) → Gives tree status s ns new_ns as' new_as bs new_bs →
    Keeps status s ns new_ns as' new_as bs new_bs
keeps (Ok r) status s ns new_ns as' new_as bs new_bs (sizes, inl laid) =
    let n : List FlatNode = r.flat.nodes.items in
    let a : List FlatAttribute = r.flat.attributes.items in
    let b : List ℕ = r.flat.text.items in
    record {
      nodes_behind = λ z. ap (λ (x : SpSizes). drop x.nodes new_ns) sizes ∙ (ap (drop (length n)) laid.nodes ∙ (drop-append_seam n (drop (length n) ns) ∙ ap (λ (x : SpSizes). drop x.nodes ns) (sym sizes)));
      attributes_behind = λ z. ap (λ (x : SpSizes). drop x.attributes new_as) sizes ∙ (ap (drop (length a)) laid.attributes ∙ (drop-append_seam a (drop (length a) as') ∙ ap (λ (x : SpSizes). drop x.attributes as') (sym sizes)));
      text_behind = λ z. ap (λ (x : SpSizes). drop x.text new_bs) sizes ∙ (ap (drop (length b)) laid.text ∙ (drop-append_seam b (drop (length b) bs) ∙ ap (λ (x : SpSizes). drop x.text bs) (sym sizes)));
      nodes = λ n. absurd (n laid.status);
      attributes = λ n. absurd (n laid.status);
      text = λ n. absurd (n laid.status);
    }
keeps (Ok r) status s ns new_ns as' new_as bs new_bs (sizes, inr (full, small, left)) = left-as-they-were status s ns new_ns as' new_as bs new_bs left
keeps (Err f) status s ns new_ns as' new_as bs new_bs (own, none, left) = left-as-they-were status s ns new_ns as' new_as bs new_bs left

-- ---- the same of what fills one room

pub failed-made : {A : Type 0} (bytes : A → List ℕ) (P : Failure → Type 0) (g : Failure) (made : Result A Failure) (status needed : ℕ) (bs new_bs : List ℕ) → IfErr made P → GivesMade bytes made status needed bs new_bs →
    status ≡ status_of g → P g
failed-made bytes P g (Ok a) status needed bs new_bs h (size, inl (done, laid)) is = absurd (not-done g (sym is ∙ done))
failed-made bytes P g (Ok a) status needed bs new_bs h (size, inr (full, small, left)) is = absurd (not-room g (sym is ∙ full))
failed-made bytes P g (Err f) status needed bs new_bs h (own, none, left) is = subst P (same-failure f g (sym own ∙ is)) h

pub none-needed-made : {A : Type 0} (bytes : A → List ℕ) (made : Result A Failure) (status needed : ℕ) (bs new_bs : List ℕ) → GivesMade bytes made status needed bs new_bs → status ≢ 0 → status ≢ 13 → needed ≡ 0
none-needed-made bytes (Ok a) status needed bs new_bs (size, inl (done, laid)) other more = absurd (other done)
none-needed-made bytes (Ok a) status needed bs new_bs (size, inr (full, small, left)) other more = absurd (more full)
none-needed-made bytes (Err f) status needed bs new_bs (own, none, left) other more = none

left-as-it-was : (status needed : ℕ) (bs new_bs : List ℕ) → new_bs ≡ bs → KeepsBytes status needed bs new_bs
left-as-it-was status needed bs new_bs left = record { behind = λ z. ap (drop needed) left; all = λ n. left }

pub keeps-made : {A : Type 0} (bytes : A → List ℕ) (made : Result A Failure) (status needed : ℕ) (bs new_bs : List ℕ) → GivesMade bytes made status needed bs new_bs → KeepsBytes status needed bs new_bs
keeps-made bytes (Ok a) status needed bs new_bs (size, inl (done, laid)) = record {
  behind = λ z. ap (drop needed) laid ∙ (ap (λ k. drop k (bytes a ++ drop needed bs)) size ∙ drop-append_seam (bytes a) (drop needed bs));
  all = λ n. absurd (n done);
}
keeps-made bytes (Ok a) status needed bs new_bs (size, inr (full, small, left)) = left-as-it-was status needed bs new_bs left
keeps-made bytes (Err f) status needed bs new_bs (own, none, left) = left-as-it-was status needed bs new_bs left
