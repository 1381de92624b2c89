-- A tree, or its text, in the caller's room.
use Rattle.std.specs.Prelude.{◌≡◌, ◌≢◌, ◌<◌, ◌≤◌, ◌⊎◌, ℕ, Bool, ◌||◌, nat_lt, List, ◌++◌, length, take, drop, flat_map, encode_utf8_all, Result, Ok, Err, Vec}
use Rattle.std.specs.Global.{Global}
use Rattle.standard.specs.Tree.{Nodes}
use Rattle.html_document.specs.declared.spans.FlatNode.{FlatNode}
use Rattle.html_document.specs.declared.spans.FlatAttribute.{FlatAttribute}
use Rattle.html_document.specs.Flat.{Shows, node_attributes, node_bytes}
use Rattle.specparse_c.specs.declared.failure.Failure.{Failure}
use Rattle.specparse_c.specs.declared.results.Rooted.{Rooted}
use Rattle.specparse_c.specs.declared.rooms.SpSizes.{SpSizes}
use Rattle.memory_runner.specs.declared.running.Ran.{Ran}
use Rattle.specparse_c.specs.Statuses.{status_of, status_told}

abbrev pub no_sizes : SpSizes
no_sizes = record { nodes = 0; attributes = 0; text = 0; root = 0 }

abbrev pub sizes_of : Rooted → SpSizes
sizes_of r = record { nodes = length r.flat.nodes.items; attributes = length r.flat.attributes.items; text = length r.flat.text.items; root = r.root }

-- a room is too small
abbrev pub AreTooSmall : SpSizes → List FlatNode → List FlatAttribute → List ℕ → Type 0
AreTooSmall s ns as' bs = (length ns < s.nodes) ⊎ ((length as' < s.attributes) ⊎ (length bs < s.text))

-- the same as a test, for rooms of so many items
abbrev pub lacks : SpSizes → ℕ → ℕ → ℕ → Bool
lacks s n a t = nat_lt n s.nodes || (nat_lt a s.attributes || nat_lt t s.text)

-- the fronts of the rooms are the lists of a tree
pub record ShownIn (t : Nodes) (s : SpSizes) (ns : List FlatNode) (as' : List FlatAttribute) (bs : List ℕ) : Type 0 where
  pub nodes : s.nodes ≤ length ns
  pub attributes : s.attributes ≤ length as'
  pub text : s.text ≤ length bs
  pub shows : Shows t (take s.nodes ns) (take s.attributes as') (take s.text bs)

-- so much a tree takes
pub record AreSizes (t : Nodes) (s : SpSizes) : Type 0 where
  pub nodes : s.nodes ≡ length t
  pub attributes : s.attributes ≡ length (flat_map node_attributes t)
  pub text : s.text ≡ length (flat_map node_bytes t)

-- what stands behind the tree stays; and everything does, where there is none
pub record Keeps (status : ℕ) (s : SpSizes) (ns new_ns : List FlatNode) (as' new_as : List FlatAttribute) (bs new_bs : List ℕ) : Type 0 where
  pub nodes_behind : status ≡ 0 → drop s.nodes new_ns ≡ drop s.nodes ns
  pub attributes_behind : status ≡ 0 → drop s.attributes new_as ≡ drop s.attributes as'
  pub text_behind : status ≡ 0 → drop s.text new_bs ≡ drop s.text bs
  pub nodes : status ≢ 0 → new_ns ≡ ns
  pub attributes : status ≢ 0 → new_as ≡ as'
  pub text : status ≢ 0 → new_bs ≡ bs

-- The same of what a run prints, which stands there where the status is 0, 4 or 5.
pub record KeepsRun (status needed : ℕ) (bs new_bs : List ℕ) : Type 0 where
  pub behind : drop needed new_bs ≡ drop needed bs
  pub all : status ≢ 0 → status ≢ 4 → status ≢ 5 → new_bs ≡ bs

pub record KeepsBytes (status needed : ℕ) (bs new_bs : List ℕ) : Type 0 where
  pub behind : status ≡ 0 → drop needed new_bs ≡ drop needed bs
  pub all : status ≢ 0 → new_bs ≡ bs

-- ---- what is laid into them

pub record IsLaid (r : Rooted) (answer : ℕ) (ns new_ns : List FlatNode) (as' new_as : List FlatAttribute) (bs new_bs : List ℕ) : Type 0 where
  pub status : answer ≡ 0
  pub nodes : new_ns ≡ r.flat.nodes.items ++ drop (length r.flat.nodes.items) ns
  pub attributes : new_as ≡ r.flat.attributes.items ++ drop (length r.flat.attributes.items) as'
  pub text : new_bs ≡ r.flat.text.items ++ drop (length r.flat.text.items) bs

pub record IsLeft (ns new_ns : List FlatNode) (as' new_as : List FlatAttribute) (bs new_bs : List ℕ) : Type 0 where
  pub nodes : new_ns ≡ ns
  pub attributes : new_as ≡ as'
  pub text : new_bs ≡ bs

abbrev pub GivesTree : Rooted → ℕ → SpSizes → (ns new_ns : List FlatNode) (as' new_as : List FlatAttribute) (bs new_bs : List ℕ) → Type 0
GivesTree r status s ns new_ns as' new_as bs new_bs =
    (s ≡ sizes_of r) × (IsLaid r status ns new_ns as' new_as bs new_bs ⊎ ((status ≡ 13) × AreTooSmall s ns as' bs × IsLeft ns new_ns as' new_as bs new_bs))

abbrev pub Gives : Result Rooted Failure → ℕ → SpSizes → (ns new_ns : List FlatNode) (as' new_as : List FlatAttribute) (bs new_bs : List ℕ) → Type 0
Gives (Ok r) status s ns new_ns as' new_as bs new_bs = GivesTree r status s ns new_ns as' new_as bs new_bs
Gives (Err f) status s ns new_ns as' new_as bs new_bs = (status ≡ status_of f) × (s ≡ no_sizes) × IsLeft ns new_ns as' new_as bs new_bs

abbrev pub GivesBytes : List ℕ → ℕ → ℕ → (bs new_bs : List ℕ) → Type 0
GivesBytes bytes status needed bs new_bs = (needed ≡ length bytes) × (((status ≡ 0) × (new_bs ≡ bytes ++ drop needed bs)) ⊎ ((status ≡ 13) × (length bs < needed) × (new_bs ≡ bs)))

-- the bytes of what was made, or why there is nothing
abbrev pub GivesMade : {A : Type 0} → (A → List ℕ) → Result A Failure → ℕ → ℕ → (bs new_bs : List ℕ) → Type 0
GivesMade bytes (Ok a) status needed bs new_bs = GivesBytes (bytes a) status needed bs new_bs
GivesMade bytes (Err f) status needed bs new_bs = (status ≡ status_of f) × (needed ≡ 0) × (new_bs ≡ bs)

abbrev pub GivesText : Result (List ℕ) Failure → ℕ → ℕ → (bs new_bs : List ℕ) → Type 0
GivesText text status needed bs new_bs = GivesMade encode_utf8_all text status needed bs new_bs

abbrev pub items_of : Vec ℕ Global → List ℕ
items_of v = v.items

abbrev pub GivesPrepared : Result (Vec ℕ Global) Failure → ℕ → ℕ → (bs new_bs : List ℕ) → Type 0
GivesPrepared prepared status needed bs new_bs = GivesMade items_of prepared status needed bs new_bs

abbrev pub GivesPrinted : Ran → ℕ → ℕ → (bs new_bs : List ℕ) → Type 0
GivesPrinted ran status needed bs new_bs = (needed ≡ length ran.text.items)
    × (((status ≡ status_told ran.outcome) × (new_bs ≡ ran.text.items ++ drop needed bs)) ⊎ ((status ≡ 13) × (length bs < needed) × (new_bs ≡ bs)))

abbrev pub GivesRun : Result Ran Failure → ℕ → ℕ → (bs new_bs : List ℕ) → Type 0
GivesRun (Ok ran) status needed bs new_bs = GivesPrinted ran status needed bs new_bs
GivesRun (Err f) status needed bs new_bs = (status ≡ status_of f) × (needed ≡ 0) × (new_bs ≡ bs)
