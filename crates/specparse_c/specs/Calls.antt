-- What a call's status says of what it was given.
use Rattle.std.specs.Prelude.{◌≡◌, ◌≢◌, ◌<◌, ◌≤◌, ◌⊎◌, ℕ, ◌%◌, ◌/◌, ◌==◌, if◌then◌else◌, false, List, length, take, encode_utf8_all, Option, Some, None}
use Rattle.std.specs.Str.{chars, IsUtf8}
use Rattle.html_types.specs.Names.{name_of}
use Rattle.html_types.specs.declared.name.Name.{Name}
use Rattle.html_types.specs.declared.name.Name.TheVariants.{Other}
use Rattle.html_types.specs.declared.name.Space.{Space}
use Rattle.html_types.specs.declared.name.Space.TheVariants.{Html, MathMl, Svg}
use Rattle.html_types.specs.declared.open.Context.{Context}
use Rattle.html_types.specs.declared.ending.Why.{Why}
use Rattle.html_types.specs.declared.ending.Why.TheVariants as why
use Rattle.standard.specs.Entities.{Entities}
use Rattle.standard.specs.Act.{Doc, node_of}
use Rattle.standard.specs.Outer.{document_text}
use Rattle.standard.specs.Fragment.{fragment, root_id}
use Rattle.serial.specs.Page.{page_of}
use Rattle.serial.specs.Quiet.{tree, refused, quiet}
use Rattle.html_document.specs.declared.feeding.TheConstants.{PAGE_LIMIT}
use Rattle.html_document.specs.declared.spans.FlatNode.{FlatNode}
use Rattle.html_document.specs.declared.spans.FlatAttribute.{FlatAttribute}
use Rattle.html_document.specs.declared.fragment.Fragment.{Fragment}
use Rattle.html_document.specs.Flat.{Shows}
use Rattle.html_document.specs.Fragments.{IsFragment}
use Rattle.specparse_c.specs.declared.failure.Failure.{Failure}
use Rattle.specparse_c.specs.declared.failure.Failure.TheVariants as failure
use Rattle.specparse_c.specs.declared.results.Rooted.{Rooted}
use Rattle.specparse_c.specs.declared.rooms.SpSizes.{SpSizes}
use Rattle.specparse_c.specs.Entities.{entities_in, ArePrepared}
use Rattle.specparse_c.specs.Rooms.{AreTooSmall, ShownIn, AreSizes}

-- ---- entities and page

-- the bytes are no list of entities
abbrev pub NoEntities : List ℕ → Type 0
NoEntities entities = entities_in entities ≡ None

-- with those entities, the page has that document
abbrev pub IsPage : List ℕ → List ℕ → Doc → Type 0
IsPage entities page d = (es : Entities) × (entities_in entities ≡ Some es) × (quiet es (page_of PAGE_LIMIT page false) ≡ tree d)

-- it is refused for that
abbrev pub IsRefused : List ℕ → List ℕ → Why → Type 0
IsRefused entities page w = (es : Entities) × (entities_in entities ≡ Some es) × (quiet es (page_of PAGE_LIMIT page false) ≡ refused w)

abbrev pub IsBadUtf8 : List ℕ → List ℕ → Type 0
IsBadUtf8 entities page = IsRefused entities page why.BadUtf8

abbrev pub IsLimit : List ℕ → List ℕ → Type 0
IsLimit entities page = (w : Why) × (w ≢ why.BadUtf8) × IsRefused entities page w

-- ---- a fragment

-- the namespace of that number
abbrev pub space_at : ℕ → Option Space
space_at n = if n == 0 then Some Html else (if n == 1 then Some MathMl else (if n == 2 then Some Svg else None))

-- the name of an element of that namespace
abbrev pub name_in : Space → List ℕ → Name
name_in Html text = name_of text
name_in MathMl text = Other MathMl text
name_in Svg text = Other Svg text

abbrev pub IsNameAt : List ℕ → ℕ → Name → Type 0
IsNameAt text space n = (at : Space) × (space_at space ≡ Some at) × (n ≡ name_in at text)

pub record IsName (name : List ℕ) (space : ℕ) (n : Name) : Type 0 where
  pub text : IsUtf8 name
  pub at : Space
  pub space_is : space_at space ≡ Some at
  pub name_is : n ≡ name_in at (chars name)

abbrev pub IsNoName : List ℕ → ℕ → Type 0
IsNoName name space = (IsUtf8 name → ⊥) ⊎ (space_at space ≡ None)

pub record IsContext (name : List ℕ) (space flags : ℕ) (c : Context) : Type 0 where
  pub named : IsName name space c.name
  pub few : flags ≤ 7
  pub html_point : c.html_point ≡ ((flags % 2) == 1)
  pub form : c.form ≡ (((flags / 2) % 2) == 1)
  pub quirks : c.quirks ≡ ((flags / 4) == 1)

abbrev pub IsNoContext : List ℕ → ℕ → ℕ → Type 0
IsNoContext name space flags = IsNoName name space ⊎ (7 < flags)

abbrev pub IsNoText : List ℕ → Type 0
IsNoText source = IsUtf8 source → ⊥

-- with those entities, the text has that document as the children of that context
abbrev pub IsFragmentDoc : List ℕ → List ℕ → ℕ → ℕ → List ℕ → Doc → Type 0
IsFragmentDoc entities name space flags source d =
    (es : Entities) × (c : Context) × (entities_in entities ≡ Some es) × IsContext name space flags c × IsUtf8 source × IsFragment es c (chars source) d

-- more than 512 elements would be open
abbrev pub IsDeep : List ℕ → List ℕ → ℕ → ℕ → List ℕ → Type 0
IsDeep entities name space flags source =
    (es : Entities) × (c : Context) × (entities_in entities ≡ Some es) × IsContext name space flags c × (fragment es c (chars source) ≡ None)

-- ---- results, before they are laid into the room

abbrev pub HasDoc : Entities → List ℕ → Doc → Type 0
HasDoc es page d = quiet es (page_of PAGE_LIMIT page false) ≡ tree d

abbrev pub HasTree : Entities → Context → List ℕ → Fragment → Type 0
HasTree es c text f = IsFragment es c text f.doc × (f.root ≡ node_of f.doc.bound (root_id 0))

abbrev pub IsPageTree : List ℕ → List ℕ → Rooted → Type 0
IsPageTree entities page r = (d : Doc) × IsPage entities page d × Shows d.tree r.flat.nodes.items r.flat.attributes.items r.flat.text.items × (r.root ≡ 0)

abbrev pub IsPageText : List ℕ → List ℕ → List ℕ → Type 0
IsPageText entities page text = (d : Doc) × IsPage entities page d × (text ≡ document_text d.tree)

abbrev pub IsFragmentTree : List ℕ → List ℕ → ℕ → ℕ → List ℕ → Rooted → Type 0
IsFragmentTree entities name space flags source r =
    (d : Doc) × IsFragmentDoc entities name space flags source d × Shows d.tree r.flat.nodes.items r.flat.attributes.items r.flat.text.items × (r.root ≡ node_of d.bound (root_id 0))

abbrev pub FailsAtTable : List ℕ → Failure → Type 0
FailsAtTable entities failure.Entities = NoEntities entities
FailsAtTable entities failure.NoMemory = Unit {0}
FailsAtTable entities _ = ⊥

abbrev pub FailsAtContext : List ℕ → ℕ → ℕ → Failure → Type 0
FailsAtContext name space flags failure.Context = IsNoContext name space flags
FailsAtContext name space flags failure.NoMemory = Unit {0}
FailsAtContext name space flags _ = ⊥

abbrev pub FailsAtText : List ℕ → Failure → Type 0
FailsAtText source failure.BadUtf8 = IsNoText source
FailsAtText source _ = ⊥

abbrev pub FailsAtParse : Entities → List ℕ → Failure → Type 0
FailsAtParse es page failure.BadUtf8 = quiet es (page_of PAGE_LIMIT page false) ≡ refused why.BadUtf8
FailsAtParse es page failure.Limit = (w : Why) × (w ≢ why.BadUtf8) × (quiet es (page_of PAGE_LIMIT page false) ≡ refused w)
FailsAtParse es page failure.NoMemory = Unit {0}
FailsAtParse es page _ = ⊥

abbrev pub FailsAtDeep : Entities → Context → List ℕ → Failure → Type 0
FailsAtDeep es c text failure.Limit = fragment es c text ≡ None
FailsAtDeep es c text failure.NoMemory = Unit {0}
FailsAtDeep es c text _ = ⊥

abbrev pub FailsAtPage : List ℕ → List ℕ → Failure → Type 0
FailsAtPage entities page failure.Entities = NoEntities entities
FailsAtPage entities page failure.BadUtf8 = IsBadUtf8 entities page
FailsAtPage entities page failure.Limit = IsLimit entities page
FailsAtPage entities page failure.NoMemory = Unit {0}
FailsAtPage entities page failure.Context = ⊥

abbrev pub FailsAtFragment : List ℕ → List ℕ → ℕ → ℕ → List ℕ → Failure → Type 0
FailsAtFragment entities name space flags source failure.Context = IsNoContext name space flags
FailsAtFragment entities name space flags source failure.Entities = NoEntities entities
FailsAtFragment entities name space flags source failure.BadUtf8 = IsNoText source
FailsAtFragment entities name space flags source failure.Limit = IsDeep entities name space flags source
FailsAtFragment entities name space flags source failure.NoMemory = Unit {0}

-- ---- the calls

abbrev pub HasPage : List ℕ → List ℕ → SpSizes → List FlatNode → List FlatAttribute → List ℕ → Type 0
HasPage entities page s ns as' bs = (d : Doc) × IsPage entities page d × ShownIn d.tree s ns as' bs × (s.root ≡ 0)

abbrev pub LacksRoom : List ℕ → List ℕ → SpSizes → List FlatNode → List FlatAttribute → List ℕ → Type 0
LacksRoom entities page s ns as' bs = (d : Doc) × IsPage entities page d × AreSizes d.tree s × (s.root ≡ 0) × AreTooSmall s ns as' bs

abbrev pub HasText : List ℕ → List ℕ → ℕ → List ℕ → Type 0
HasText entities page needed bs = (d : Doc) × IsPage entities page d × (needed ≤ length bs) × (take needed bs ≡ encode_utf8_all (document_text d.tree))

abbrev pub LacksTextRoom : List ℕ → List ℕ → ℕ → List ℕ → Type 0
LacksTextRoom entities page needed bs = (d : Doc) × IsPage entities page d × (needed ≡ length (encode_utf8_all (document_text d.tree))) × (length bs < needed)

abbrev pub HasFragment : List ℕ → List ℕ → ℕ → ℕ → List ℕ → SpSizes → List FlatNode → List FlatAttribute → List ℕ → Type 0
HasFragment entities name space flags source s ns as' bs =
    (d : Doc) × IsFragmentDoc entities name space flags source d × ShownIn d.tree s ns as' bs × (s.root ≡ node_of d.bound (root_id 0))

abbrev pub LacksFragmentRoom : List ℕ → List ℕ → ℕ → ℕ → List ℕ → SpSizes → List FlatNode → List FlatAttribute → List ℕ → Type 0
LacksFragmentRoom entities name space flags source s ns as' bs =
    (d : Doc) × IsFragmentDoc entities name space flags source d × AreSizes d.tree s × (s.root ≡ node_of d.bound (root_id 0)) × AreTooSmall s ns as' bs

-- the room's front lists, prepared, what the bytes list
abbrev pub HasEntities : List ℕ → ℕ → List ℕ → Type 0
HasEntities entities needed bs = (needed ≤ length bs) × ArePrepared entities (take needed bs)

abbrev pub LacksEntitiesRoom : List ℕ → ℕ → List ℕ → Type 0
LacksEntitiesRoom entities needed bs = (bytes : List ℕ) × ArePrepared entities bytes × (needed ≡ length bytes) × (length bs < needed)
