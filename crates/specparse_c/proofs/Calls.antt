-- What the calls' statuses say.
use Rattle.std.proofs.Common.{◌≡◌, ◌<◌, ◌≤◌, inl, inr, ◌∷◌, [], ℕ, List, ◌++◌, length, take, drop, Contains, Vec, Global, Result, Ok, Err, IfOk, IfErr, encode_utf8_all, refl, sym, ap, subst, ◌∙◌, arith, length-append}
use Rattle.std.proofs.Math.Seq.{take-append_seam}
use Rattle.html_document.specs.declared.spans.FlatNode.{FlatNode}
use Rattle.html_document.specs.declared.spans.FlatAttribute.{FlatAttribute}
use Rattle.specparse_c.specs.declared.failure.Failure.{Failure}
use Rattle.specparse_c.specs.declared.results.Rooted.{Rooted}
use Rattle.specparse_c.specs.declared.rooms.SpSizes.{SpSizes}
use Rattle.specparse_c.specs.Statuses.{status_of}
use Rattle.specparse_c.specs.Entities.{ArePrepared}
use Rattle.specparse_c.specs.Rooms.{sizes_of, AreTooSmall, IsLaid, Gives, GivesMade, GivesText, GivesPrepared, items_of}
use Rattle.specparse_c.specs.Calls.{IsPageTree, IsPageText, IsFragmentTree, HasPage, LacksRoom, HasText, LacksTextRoom, HasFragment, LacksFragmentRoom, HasEntities, LacksEntitiesRoom, FailsAtTable, FailsAtPage}
use Rattle.specparse_c.proofs.Failures.{not-done, not-room, page-status, fragment-status, table-status}
use Rattle.specparse_c.proofs.Laying.{shown-in, are-sizes}

-- ---- trees

tree-done : (P : Rooted → Type 0) (tree : Result Rooted Failure) (status : ℕ) (s : SpSizes) (ns new_ns : List FlatNode) (as' new_as : List FlatAttribute) (bs new_bs : List ℕ) → IfOk tree P →
    Gives tree status s ns new_ns as' new_as bs new_bs → status ≡ 0 → (r : Rooted) × P r × (s ≡ sizes_of r) × IsLaid r status ns new_ns as' new_as bs new_bs
tree-done P (Ok r) status s ns new_ns as' new_as bs new_bs h (sizes, inl laid) zero = (r, h, sizes, laid)
tree-done P (Ok r) status s ns new_ns as' new_as bs new_bs h (sizes, inr (full, small, left)) zero = absurd (omega (arith, full, zero))
tree-done P (Err f) status s ns new_ns as' new_as bs new_bs h (own, none, left) zero = absurd (not-done f (sym own ∙ zero))

tree-lacks : (P : Rooted → Type 0) (tree : Result Rooted Failure) (status : ℕ) (s : SpSizes) (ns new_ns : List FlatNode) (as' new_as : List FlatAttribute) (bs new_bs : List ℕ) → IfOk tree P →
    Gives tree status s ns new_ns as' new_as bs new_bs → status ≡ 13 → (r : Rooted) × P r × (s ≡ sizes_of r) × AreTooSmall s ns as' bs
tree-lacks P (Ok r) status s ns new_ns as' new_as bs new_bs h (sizes, inl laid) full = absurd (omega (arith, full, laid.status))
tree-lacks P (Ok r) status s ns new_ns as' new_as bs new_bs h (sizes, inr (own, small, left)) full = (r, h, sizes, small)
tree-lacks P (Err f) status s ns new_ns as' new_as bs new_bs h (own, none, left) full = absurd (not-room f (sym own ∙ full))

tree-statuses : (known : List ℕ) (P : Failure → Type 0) (tree : Result Rooted Failure) (status : ℕ) (s : SpSizes) (ns new_ns : List FlatNode) (as' new_as : List FlatAttribute) (bs new_bs : List ℕ) → Contains known 0 →
    Contains known 13 → ((f : Failure) → P f → Contains known (status_of f)) → IfErr tree P → Gives tree status s ns new_ns as' new_as bs new_bs → Contains known status
tree-statuses known P (Ok r) status s ns new_ns as' new_as bs new_bs zero room each h (sizes, inl laid) = subst (Contains known) (sym laid.status) zero
tree-statuses known P (Ok r) status s ns new_ns as' new_as bs new_bs zero room each h (sizes, inr (full, small, left)) = subst (Contains known) (sym full) room
tree-statuses known P (Err f) status s ns new_ns as' new_as bs new_bs zero room each h (own, none, left) = subst (Contains known) (sym own) (each f h)

pub page-done : (entities page : List ℕ) (tree : Result Rooted Failure) (status : ℕ) (s : SpSizes) (ns new_ns : List FlatNode) (as' new_as : List FlatAttribute) (bs new_bs : List ℕ) → IfOk tree (IsPageTree entities page) →
    Gives tree status s ns new_ns as' new_as bs new_bs → status ≡ 0 → HasPage entities page s new_ns new_as new_bs
page-done entities page tree status s ns new_ns as' new_as bs new_bs h gives zero =
    let (r, (d, is, shows, root), sizes, laid) = tree-done (IsPageTree entities page) tree status s ns new_ns as' new_as bs new_bs h gives zero in
    (d, is, shown-in d.tree r status s ns new_ns as' new_as bs new_bs shows sizes laid, ap (λ (x : SpSizes). x.root) sizes ∙ root)

pub page-lacks : (entities page : List ℕ) (tree : Result Rooted Failure) (status : ℕ) (s : SpSizes) (ns new_ns : List FlatNode) (as' new_as : List FlatAttribute) (bs new_bs : List ℕ) → IfOk tree (IsPageTree entities page) →
    Gives tree status s ns new_ns as' new_as bs new_bs → status ≡ 13 → LacksRoom entities page s ns as' bs
page-lacks entities page tree status s ns new_ns as' new_as bs new_bs h gives full =
    let (r, (d, is, shows, root), sizes, small) = tree-lacks (IsPageTree entities page) tree status s ns new_ns as' new_as bs new_bs h gives full in
    (d, is, are-sizes d.tree r s shows sizes, ap (λ (x : SpSizes). x.root) sizes ∙ root, small)

pub page-statuses : (entities page : List ℕ) (tree : Result Rooted Failure) (status : ℕ) (s : SpSizes) (ns new_ns : List FlatNode) (as' new_as : List FlatAttribute) (bs new_bs : List ℕ) → IfErr tree (FailsAtPage entities page) →
    Gives tree status s ns new_ns as' new_as bs new_bs → Contains (0 ∷ 3 ∷ 4 ∷ 5 ∷ 12 ∷ 13 ∷ []) status
page-statuses entities page tree status s ns new_ns as' new_as bs new_bs h gives =
    tree-statuses (0 ∷ 3 ∷ 4 ∷ 5 ∷ 12 ∷ 13 ∷ []) (FailsAtPage entities page) tree status s ns new_ns as' new_as bs new_bs (0, omega arith, refl) (5, omega arith, refl) (page-status entities page) h gives

-- ---- fragments

pub fragment-done : (entities name : List ℕ) (space flags : ℕ) (source : List ℕ) (tree : Result Rooted Failure) (status : ℕ) (s : SpSizes) (ns new_ns : List FlatNode) (as' new_as : List FlatAttribute) (bs new_bs : List ℕ) →
    IfOk tree (IsFragmentTree entities name space flags source) → Gives tree status s ns new_ns as' new_as bs new_bs → status ≡ 0 → HasFragment entities name space flags source s new_ns new_as new_bs
fragment-done entities name space flags source tree status s ns new_ns as' new_as bs new_bs h gives zero =
    let (r, (d, is, shows, root), sizes, laid) = tree-done (IsFragmentTree entities name space flags source) tree status s ns new_ns as' new_as bs new_bs h gives zero in
    (d, is, shown-in d.tree r status s ns new_ns as' new_as bs new_bs shows sizes laid, ap (λ (x : SpSizes). x.root) sizes ∙ root)

pub fragment-lacks : (entities name : List ℕ) (space flags : ℕ) (source : List ℕ) (tree : Result Rooted Failure) (status : ℕ) (s : SpSizes) (ns new_ns : List FlatNode) (as' new_as : List FlatAttribute) (bs new_bs : List ℕ) →
    IfOk tree (IsFragmentTree entities name space flags source) → Gives tree status s ns new_ns as' new_as bs new_bs → status ≡ 13 → LacksFragmentRoom entities name space flags source s ns as' bs
fragment-lacks entities name space flags source tree status s ns new_ns as' new_as bs new_bs h gives full =
    let (r, (d, is, shows, root), sizes, small) = tree-lacks (IsFragmentTree entities name space flags source) tree status s ns new_ns as' new_as bs new_bs h gives full in
    (d, is, are-sizes d.tree r s shows sizes, ap (λ (x : SpSizes). x.root) sizes ∙ root, small)

pub fragment-statuses : (P : Failure → Type 0) (tree : Result Rooted Failure) (status : ℕ) (s : SpSizes) (ns new_ns : List FlatNode) (as' new_as : List FlatAttribute) (bs new_bs : List ℕ) → IfErr tree P →
    Gives tree status s ns new_ns as' new_as bs new_bs → Contains (0 ∷ 2 ∷ 3 ∷ 4 ∷ 5 ∷ 12 ∷ 13 ∷ []) status
fragment-statuses P tree status s ns new_ns as' new_as bs new_bs h gives =
    tree-statuses (0 ∷ 2 ∷ 3 ∷ 4 ∷ 5 ∷ 12 ∷ 13 ∷ []) P tree status s ns new_ns as' new_as bs new_bs (0, omega arith, refl) (6, omega arith, refl) (λ f _. fragment-status f) h gives

-- ---- what fills one room

made-done : {A : Type 0} (bytes : A → List ℕ) (P : A → Type 0) (made : Result A Failure) (status needed : ℕ) (bs new_bs : List ℕ) → IfOk made P → GivesMade bytes made status needed bs new_bs → status ≡ 0 →
    (a : A) × P a × (needed ≤ length new_bs) × (take needed new_bs ≡ bytes a)
made-done bytes P (Ok a) status needed bs new_bs h (size, inl (done, laid)) zero =
    let b : List ℕ = bytes a in
    let fits : needed ≤ length new_bs = omega (arith, size, ap length laid, length-append b (drop needed bs)) in
    (a, h, fits, ap (take needed) laid ∙ (ap (λ k. take k (b ++ drop needed bs)) size ∙ take-append_seam b (drop needed bs)))
made-done bytes P (Ok a) status needed bs new_bs h (size, inr (full, small, left)) zero = absurd (omega (arith, full, zero))
made-done bytes P (Err f) status needed bs new_bs h (own, none, left) zero = absurd (not-done f (sym own ∙ zero))

made-lacks : {A : Type 0} (bytes : A → List ℕ) (P : A → Type 0) (made : Result A Failure) (status needed : ℕ) (bs new_bs : List ℕ) → IfOk made P → GivesMade bytes made status needed bs new_bs → status ≡ 13 →
    (a : A) × P a × (needed ≡ length (bytes a)) × (length bs < needed)
made-lacks bytes P (Ok a) status needed bs new_bs h (size, inl (done, laid)) full = absurd (omega (arith, full, done))
made-lacks bytes P (Ok a) status needed bs new_bs h (size, inr (own, small, left)) full = (a, h, size, small)
made-lacks bytes P (Err f) status needed bs new_bs h (own, none, left) full = absurd (not-room f (sym own ∙ full))

made-statuses : {A : Type 0} (bytes : A → List ℕ) (known : List ℕ) (P : Failure → Type 0) (made : Result A Failure) (status needed : ℕ) (bs new_bs : List ℕ) → Contains known 0 → Contains known 13 →
    ((f : Failure) → P f → Contains known (status_of f)) → IfErr made P → GivesMade bytes made status needed bs new_bs → Contains known status
made-statuses bytes known P (Ok a) status needed bs new_bs zero room each h (size, inl (done, laid)) = subst (Contains known) (sym done) zero
made-statuses bytes known P (Ok a) status needed bs new_bs zero room each h (size, inr (full, small, left)) = subst (Contains known) (sym full) room
made-statuses bytes known P (Err f) status needed bs new_bs zero room each h (own, none, left) = subst (Contains known) (sym own) (each f h)

pub text-done : (entities page : List ℕ) (text : Result (List ℕ) Failure) (status needed : ℕ) (bs new_bs : List ℕ) → IfOk text (IsPageText entities page) → GivesText text status needed bs new_bs → status ≡ 0 →
    HasText entities page needed new_bs
text-done entities page text status needed bs new_bs h gives zero =
    let (a, (d, is, same), fits, front) = made-done encode_utf8_all (IsPageText entities page) text status needed bs new_bs h gives zero in (d, is, fits, front ∙ ap encode_utf8_all same)

pub text-lacks : (entities page : List ℕ) (text : Result (List ℕ) Failure) (status needed : ℕ) (bs new_bs : List ℕ) → IfOk text (IsPageText entities page) → GivesText text status needed bs new_bs → status ≡ 13 →
    LacksTextRoom entities page needed bs
text-lacks entities page text status needed bs new_bs h gives full =
    let (a, (d, is, same), size, small) = made-lacks encode_utf8_all (IsPageText entities page) text status needed bs new_bs h gives full in (d, is, size ∙ ap (λ x. length (encode_utf8_all x)) same, small)

pub text-statuses : (entities page : List ℕ) (text : Result (List ℕ) Failure) (status needed : ℕ) (bs new_bs : List ℕ) → IfErr text (FailsAtPage entities page) → GivesText text status needed bs new_bs →
    Contains (0 ∷ 3 ∷ 4 ∷ 5 ∷ 12 ∷ 13 ∷ []) status
text-statuses entities page text status needed bs new_bs h gives =
    made-statuses encode_utf8_all (0 ∷ 3 ∷ 4 ∷ 5 ∷ 12 ∷ 13 ∷ []) (FailsAtPage entities page) text status needed bs new_bs (0, omega arith, refl) (5, omega arith, refl) (page-status entities page) h gives

pub entities-done : (entities : List ℕ) (prepared : Result (Vec ℕ Global) Failure) (status needed : ℕ) (bs new_bs : List ℕ) → IfOk prepared (λ (v : Vec ℕ Global). ArePrepared entities v.items) →
    GivesPrepared prepared status needed bs new_bs → status ≡ 0 → HasEntities entities needed new_bs
entities-done entities prepared status needed bs new_bs h gives zero =
    let (v, are, fits, front) = made-done items_of (λ (v : Vec ℕ Global). ArePrepared entities v.items) prepared status needed bs new_bs h gives zero in (fits, subst (ArePrepared entities) (sym front) are)

pub entities-lacks : (entities : List ℕ) (prepared : Result (Vec ℕ Global) Failure) (status needed : ℕ) (bs new_bs : List ℕ) → IfOk prepared (λ (v : Vec ℕ Global). ArePrepared entities v.items) →
    GivesPrepared prepared status needed bs new_bs → status ≡ 13 → LacksEntitiesRoom entities needed bs
entities-lacks entities prepared status needed bs new_bs h gives full =
    let (v, are, size, small) = made-lacks items_of (λ (v : Vec ℕ Global). ArePrepared entities v.items) prepared status needed bs new_bs h gives full in (v.items, are, size, small)

pub entities-statuses : (entities : List ℕ) (prepared : Result (Vec ℕ Global) Failure) (status needed : ℕ) (bs new_bs : List ℕ) → IfErr prepared (FailsAtTable entities) →
    GivesPrepared prepared status needed bs new_bs → Contains (0 ∷ 3 ∷ 12 ∷ 13 ∷ []) status
entities-statuses entities prepared status needed bs new_bs h gives =
    made-statuses items_of (0 ∷ 3 ∷ 12 ∷ 13 ∷ []) (FailsAtTable entities) prepared status needed bs new_bs (0, omega arith, refl) (3, omega arith, refl) (table-status entities) h gives
