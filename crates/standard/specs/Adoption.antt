-- The adoption agency algorithm (13.2.6.4.7 #parsing-main-inbody): step 2 is `is_plain`, step 4
-- `turns` (the outer loop counter is the number of turns that are left), steps 4.3 to 4.8 `turn_at`
-- and `turn_with`, the inner loop (4.13) `climb`, steps 4.14 to 4.19 `rebuilt`. The stack is taken
-- apart by ids and put together again: below the furthest block, it, the elements between it and
-- the formatting element, and from that one on.
use Rattle.std.specs.Prelude.{ℕ, ◌-◌, ◌==◌, Bool, true, false, not, ◌&&◌, if◌then◌else◌, List, [], ◌∷◌, ◌++◌, Option, Some, None}
use Rattle.std.proofs.Common.{zero, suc}
use Rattle.html_types.specs.Operations.{later}
use Rattle.html_types.specs.declared.word.Word.{Word}
use Rattle.html_types.specs.declared.name.Name.{Name}
use Rattle.html_types.specs.declared.token.Tag.{Tag}
use Rattle.html_types.specs.declared.operation.NodeId.{NodeId}
use Rattle.html_types.specs.declared.operation.Place.{Place}
use Rattle.html_types.specs.declared.operation.Place.TheVariants.{Inside}
use Rattle.html_types.specs.declared.operation.Op.{Op}
use Rattle.html_types.specs.declared.operation.Op.TheVariants as op
use Rattle.html_types.specs.declared.open.OpenElement.{OpenElement}
use Rattle.html_types.specs.declared.open.FormattingEntry.{FormattingEntry}
use Rattle.html_types.specs.declared.open.FormattingEntry.TheVariants.{Element}
use Rattle.html_types.specs.declared.open.Open.{Open}
use Rattle.html_types.specs.declared.instruction.Scope.TheVariants as scope
use Rattle.html_types.specs.declared.instruction.Turn.{Turn}
use Rattle.html_types.specs.declared.instruction.Turn.TheVariants.{More, Over, Other}
use Rattle.standard.specs.Elements.{is_word}
use Rattle.standard.specs.Foreign.{opened}
use Rattle.standard.specs.Stack.{is_open, current_is, current_id, pop, without_open, open_in_scope, below, from_on, through, above, with_below, block_below, place_for}
use Rattle.standard.specs.Formatting.{entry_named, has_entry, tag_of_entry, without_entry, with_id, with_behind}

-- ---- the inner loop (4.13): from the furthest block up to the formatting element

-- what the list is then, the next id, the operations so far, what is left of the elements between, the node that was put
-- last, and the entry that the bookmark is just behind; with none it is at the formatting element's
pub record Climb : Type 0 where
  pub formats : List FormattingEntry
  pub next : NodeId
  pub ops : List Op
  pub kept : List OpenElement
  pub last : NodeId
  pub bookmark : Option NodeId

abbrev pub climb_at : List FormattingEntry → NodeId → List Op → List OpenElement → NodeId → Option NodeId → Climb
climb_at f n o k l m = record { formats = f; next = n; ops = o; kept = k; last = l; bookmark = m }

-- 4.13.7: the bookmark goes just behind the first clone's entry
abbrev pub bookmark_or : Option NodeId → NodeId → Option NodeId
bookmark_or None id = Some id
bookmark_or (Some m) id = Some m

-- 4.13.5, 4.13.6, 4.13.8: a node that has an entry becomes its clone there and on the stack, and the last node is put into that one; a node that has
-- none is taken off the stack
abbrev pub climb_clone : NodeId → Option Tag → Climb → Climb
climb_clone id None c = c
climb_clone id (Some tag) c =
    climb_at (with_id id c.next c.formats) (later 1 c.next)
    (c.ops ++ op.Make c.next tag.name tag.attributes ∷ [] ++ op.Put c.last (Inside c.next) ∷ [])
    (c.kept ++ opened c.next tag ∷ []) c.next (bookmark_or c.bookmark c.next)

-- 4.13.4: from the fourth node on (the inner loop counter is above 3) the entries are dropped; `left` is 3 less the counter so far
abbrev pub climb_drop : ℕ → NodeId → List FormattingEntry → List FormattingEntry
climb_drop left id fs = if left == 0 then without_entry id fs else fs

abbrev pub climb_one : ℕ → NodeId → Climb → Climb
climb_one left id c =
    let fs = climb_drop left id c.formats in climb_clone id (tag_of_entry id fs) (climb_at fs c.next c.ops c.kept c.last c.bookmark)

abbrev pub climb : ℕ → List OpenElement → Climb → Climb
climb left [] c = c
climb left (e ∷ es) c = climb (left - 1) es (climb_one left e.id c)

-- ---- a turn

pub record Turned : Type 0 where
  pub open_state : Open
  pub ops : List Op
  pub turn : Turn

abbrev pub turned : Open → List Op → Turn → Turned
turned b o t = record { open_state = b; ops = o; turn = t }

-- 4.18: the formatting element's entry is dropped, and the clone's is put at the bookmark
abbrev pub put_at_bookmark : NodeId → NodeId → Tag → Option NodeId → List FormattingEntry → List FormattingEntry
put_at_bookmark f clone tag None fs = with_id f clone fs
put_at_bookmark f clone tag (Some m) fs = without_entry f (with_behind m (Element clone tag) fs)

-- the stack with what is left of the elements between
abbrev pub joined : NodeId → NodeId → List OpenElement → List OpenElement → List OpenElement
joined f block st kept = through block st ++ kept ++ from_on f (above block st)

-- the appropriate place for inserting a node, where the target is the common ancestor (4.9), the element right above the formatting element
abbrev pub common_place : Bool → NodeId → List OpenElement → Place
common_place foster f st = place_for foster (above f st) st

-- 4.14: the last node is put at the appropriate place for the common ancestor (4.9), the element right above the formatting element; 4.15
-- to 4.19: the clone takes the children of the furthest block, stands in it, and is just below it on the stack in place of the formatting
-- element
abbrev pub rebuilt : NodeId → Tag → NodeId → Open → Climb → List OpenElement → Turned
rebuilt f tag block b c st =
    turned
    (record b {
      stack = with_below block (opened c.next tag) (without_open (Some f) st);
      formats = put_at_bookmark f c.next tag c.bookmark c.formats;
      next = later 1 c.next;
    })
    (c.ops ++ op.Put c.last (common_place b.foster f st) ∷ [] ++ op.Make c.next tag.name tag.attributes ∷ []
    ++ op.MoveChildren block c.next ∷ [] ++ op.Put c.next (Inside block) ∷ [])
    More

-- with the formatting element's tag, and the furthest block; 4.8 where there is none
abbrev pub turn_with : NodeId → Option Tag → Option NodeId → Open → List Op → Turned
turn_with f None block b o = turned b o Over
turn_with f (Some tag) None b o = turned (record b { stack = above f b.stack; formats = without_entry f b.formats }) o Over
turn_with f (Some tag) (Some block) b o =
    let c = climb 3 (below f (above block b.stack)) (climb_at b.formats b.next o [] block None) in
    rebuilt f tag block b c (joined f block b.stack c.kept)

-- with the formatting element (4.3), which is open (4.4) and in scope (4.5)
abbrev pub turn_at : Option NodeId → Open → List Op → Turned
turn_at None b o = turned b o Other
turn_at (Some f) b o =
    if not (is_open f b.stack) then turned (record b { formats = without_entry f b.formats }) o Over
    else (if not (open_in_scope scope.Default f b.stack) then turned b o Over
    else turn_with f (tag_of_entry f b.formats) (block_below f None b.stack) b o)

abbrev pub turn : (Name → Bool) → Open → List Op → Turned
turn is b o = turn_at (entry_named is b.formats) b o

-- at most so many turns
abbrev pub turns : ℕ → (Name → Bool) → Turned → Turned
turns zero is c = c
turns (suc n) is c = elim c.turn as (λ _. Turned) [ More ↦ turns n is (turn is c.open_state c.ops) | Over ↦ c | Other ↦ c ]

-- ---- all of it

-- the open state, the operations, and whether the token is to go by "any other end tag"
pub record Adopted : Type 0 where
  pub open_state : Open
  pub ops : List Op
  pub other : Bool

abbrev pub adopted : Open → List Op → Bool → Adopted
adopted b o v = record { open_state = b; ops = o; other = v }

abbrev pub is_other : Turn → Bool
is_other More = false
is_other Over = false
is_other Other = true

abbrev pub adopted_by : Turned → Adopted
adopted_by c = adopted c.open_state c.ops (is_other c.turn)

-- 2: the current node has the name, and no entry
abbrev pub is_plain : (Name → Bool) → Option NodeId → Open → Bool
is_plain is None b = false
is_plain is (Some id) b = current_is is b.stack && not (has_entry id b.formats)

abbrev pub adopt_with : (Name → Bool) → Open → List Op → Adopted
adopt_with is b o =
    if is_plain is (current_id b.stack) b then adopted (record b { stack = pop b.stack }) o false else adopted_by (turns 8 is (turned b o More))

unfoldable pub adopt : Word → Open → List Op → Adopted
adopt w b o = adopt_with (is_word w) b o
