-- What is taken of the stack and of the list of formatting elements is bound where they are.
use Rattle.std.proofs.Common.{ℕ, ◌==◌, nat_le, Bool, true, false, not, ◌&&◌, List, [], ◌∷◌, ◌++◌, Option, Some, None}
use Rattle.std.specs.Prelude.{if◌then◌else◌, IsTrue}
use Rattle.html_types.specs.Operations.{same_id}
use Rattle.html_types.specs.Names.{name_text}
use Rattle.html_types.specs.declared.word.Word.TheVariants as word
use Rattle.html_types.specs.declared.instruction.Group.TheVariants as group
use Rattle.html_types.specs.declared.instruction.Scope.{Scope}
use Rattle.html_types.specs.declared.name.Name.{Name}
use Rattle.html_types.specs.declared.operation.NodeId.{NodeId}
use Rattle.html_types.specs.declared.operation.Place.{Place}
use Rattle.html_types.specs.declared.operation.Place.TheVariants.{Page, Inside, Contents, Foster}
use Rattle.html_types.specs.declared.open.OpenElement.{OpenElement}
use Rattle.html_types.specs.declared.token.Tag.{Tag}
use Rattle.html_types.specs.declared.open.FormattingEntry.{FormattingEntry}
use Rattle.html_types.specs.declared.open.FormattingEntry.TheVariants.{Marker, Element}
use Rattle.standard.specs.Elements.{is_word, is_one_of}
use Rattle.standard.specs.Stack.{in_scope, is_open, current_id, is_empty, pop, until, pop_to, pop_to_root, implied, implied_thoroughly, close, item_found, close_item, end_found, other_end, id_or, foster_place, place_in, place, first_open, second_open, without_open, below, from_on, through, above, with_below, block_below, place_for}
use Rattle.standard.specs.Formatting.{clear_to_marker, kept, is_like, likes, without_earliest, later_than, entry_on, before_first, renewed, without_entry, with_id, with_behind}
use Rattle.standard.specs.ForeignNames.{is_lower_of}
use Rattle.standard.specs.Foreign.{is_html, is_html_or_point}
use Rattle.standard.specs.Instructions.{list_current, pop_foreign, foreign_end}
use Rattle.standard.specs.Act.{IsPlaceBound}
use Rattle.rule_laws.specs.Naming.{AreOpenBound, AreFormatsBound, IsBoundIfAny}

abbrev pub IsElementBound : (NodeId → Bool) → Option OpenElement → Type 0
IsElementBound known None = Unit {0}
IsElementBound known (Some e) = IsTrue (known e.id)

module _ (known : NodeId → Bool) where
  abbrev pub AreBoundIfAny : Option (List OpenElement) → Type 0
  AreBoundIfAny None = Unit {0}
  AreBoundIfAny (Some es) = AreOpenBound known es

  of_two : (v : Bool) (x y : List OpenElement) → AreOpenBound known x → AreOpenBound known y → AreOpenBound known (if v then x else y)
  of_two true x y a b = a
  of_two false x y a b = b

  pub pop-bound : (es : List OpenElement) → AreOpenBound known es → AreOpenBound known (pop es)
  pop-bound [] a = tt
  pop-bound (e ∷ es) a = a.1

  pub until-bound : (is : Name → Bool) (es : List OpenElement) → AreOpenBound known es → AreOpenBound known (until is es)
  until-bound is [] a = tt
  until-bound is (e ∷ es) a = of_two (is e.name) es (until is es) a.1 (until-bound is es a.1)

  pub pop_to-bound : (is : Name → Bool) (es : List OpenElement) → AreOpenBound known es → AreOpenBound known (pop_to is es)
  pop_to-bound is [] a = tt
  pop_to-bound is (e ∷ es) a = of_two (is e.name) (e ∷ es) (pop_to is es) a (pop_to-bound is es a.1)

  pub pop_foreign-bound : (es : List OpenElement) → AreOpenBound known es → AreOpenBound known (pop_foreign es)
  pop_foreign-bound [] a = tt
  pop_foreign-bound (e ∷ es) a = of_two (is_html_or_point e) (e ∷ es) (pop_foreign es) a (pop_foreign-bound es a.1)

  pub foreign_end-bound : (name : List ℕ) (all es : List OpenElement) → AreOpenBound known all → AreOpenBound known es → AreBoundIfAny (foreign_end name all es)
  foreign_end-bound name all [] h a = h
  foreign_end-bound name all (e ∷ []) h a = h
  foreign_end-bound name all (e ∷ d ∷ es) h a = by (is_lower_of (name_text e.name) name) (is_html d.name) (foreign_end-bound name all (d ∷ es) h a.1)
    where
      by : (v w : Bool) → AreBoundIfAny (foreign_end name all (d ∷ es)) → AreBoundIfAny (if v then Some (d ∷ es) else (if w then None else foreign_end name all (d ∷ es)))
      by true w rest = a.1
      by false true rest = tt
      by false false rest = rest

  pub implied-bound : (but : Name → Bool) (es : List OpenElement) → AreOpenBound known es → AreOpenBound known (implied but es)
  implied-bound but [] a = tt
  implied-bound but (e ∷ es) a = of_two (is_one_of group.ClosedImplicitly e.name && not (but e.name)) (implied but es) (e ∷ es) (implied-bound but es a.1) a

  pub pop_to_root-bound : (es : List OpenElement) → AreOpenBound known es → AreOpenBound known (pop_to_root es)
  pop_to_root-bound [] a = tt
  pop_to_root-bound (e ∷ []) a = a
  pop_to_root-bound (e ∷ d ∷ es) a = pop_to_root-bound (d ∷ es) a.1

  pub thoroughly-bound : (es : List OpenElement) → AreOpenBound known es → AreOpenBound known (implied_thoroughly es)
  thoroughly-bound [] a = tt
  thoroughly-bound (e ∷ es) a = of_two (is_one_of group.ClosedThoroughly e.name) (implied_thoroughly es) (e ∷ es) (thoroughly-bound es a.1) a

  popped : (v : Bool) (is : Name → Bool) (es : List OpenElement) → AreOpenBound known es → AreOpenBound known (if v then until is (implied is es) else es)
  popped v is es a = of_two v (until is (implied is es)) es (until-bound is (implied is es) (implied-bound is es a)) a

  pub close-bound : (s : Scope) (is : Name → Bool) (es : List OpenElement) → AreOpenBound known es → AreOpenBound known (close s is es)
  close-bound s is es a = popped (in_scope s is es) is es a

  pub close_item-bound : (is : Name → Bool) (es : List OpenElement) → AreOpenBound known es → AreOpenBound known (close_item is es)
  close_item-bound is es a = popped (item_found is es) is es a

  pub other_end-bound : (is : Name → Bool) (es : List OpenElement) → AreOpenBound known es → AreOpenBound known (other_end is es)
  other_end-bound is es a = popped (end_found is es) is es a

  pub without_open-bound : (h : Option NodeId) (es : List OpenElement) → AreOpenBound known es → AreOpenBound known (without_open h es)
  without_open-bound None es a = a
  without_open-bound (Some i) [] a = tt
  without_open-bound (Some i) (e ∷ es) a = of_two (same_id e.id i) es (e ∷ without_open (Some i) es) a.1 (a.0, without_open-bound (Some i) es a.1)

  pub current_id-bound : (es : List OpenElement) → AreOpenBound known es → IsBoundIfAny known (current_id es)
  current_id-bound [] a = tt
  current_id-bound (e ∷ es) a = a.0

  pub first_open-bound : (es : List OpenElement) → AreOpenBound known es → IsElementBound known (first_open es)
  first_open-bound [] a = tt
  first_open-bound (e ∷ []) a = a.0
  first_open-bound (e ∷ d ∷ es) a = first_open-bound (d ∷ es) a.1

  pub second_open-bound : (es : List OpenElement) → AreOpenBound known es → IsElementBound known (second_open es)
  second_open-bound [] a = tt
  second_open-bound (e ∷ []) a = tt
  second_open-bound (e ∷ d ∷ []) a = a.0
  second_open-bound (e ∷ d ∷ c ∷ es) a = second_open-bound (d ∷ c ∷ es) a.1

  of_places : (v : Bool) (x y : Place) → IsPlaceBound known x → IsPlaceBound known y → IsPlaceBound known (if v then x else y)
  of_places true x y a b = a
  of_places false x y a b = b

  id_or-bound : (id : NodeId) (es : List OpenElement) → IsTrue (known id) → AreOpenBound known es → IsTrue (known (id_or id es))
  id_or-bound id [] i a = i
  id_or-bound id (e ∷ es) i a = a.0

  foster_place-bound : (es : List OpenElement) → AreOpenBound known es → IsPlaceBound known (foster_place es)
  foster_place-bound [] a = tt
  foster_place-bound (e ∷ es) a =
      of_places (is_word word.Template e.name) (Contents e.id) _ a.0
      (of_places (is_word word.Table e.name) (Foster e.id (id_or e.id es)) _ (a.0, id_or-bound e.id es a.0 a.1)
      (of_places (is_empty es) (Inside e.id) (foster_place es) a.0 (foster_place-bound es a.1)))

  pub place-bound : (foster : Bool) (es : List OpenElement) → AreOpenBound known es → IsPlaceBound known (place foster es)
  place-bound foster [] a = tt
  place-bound foster (e ∷ es) a =
      of_places (foster && is_one_of group.FosterTargets e.name) (foster_place (e ∷ es)) (place_in e) (foster_place-bound (e ∷ es) a)
      (of_places (is_word word.Template e.name) (Contents e.id) (Inside e.id) a.0 a.0)

  pub clear_to_marker-bound : (fs : List FormattingEntry) → AreFormatsBound known fs → AreFormatsBound known (clear_to_marker fs)
  clear_to_marker-bound [] a = tt
  clear_to_marker-bound (Marker ∷ fs) a = a
  clear_to_marker-bound (Element id tag ∷ fs) a = clear_to_marker-bound fs a.1

  of_lists : (v : Bool) (x y : List FormattingEntry) → AreFormatsBound known x → AreFormatsBound known y → AreFormatsBound known (if v then x else y)
  of_lists true x y a b = a
  of_lists false x y a b = b

  pub kept-bound : (st : List OpenElement) (fs : List FormattingEntry) → AreFormatsBound known fs → AreFormatsBound known (kept st fs)
  kept-bound st [] a = tt
  kept-bound st (Marker ∷ fs) a = a
  kept-bound st (Element id tag ∷ fs) a = of_lists (is_open id st) (Element id tag ∷ fs) (kept st fs) a (kept-bound st fs a.1)

  -- ---- an entry more

  without_earliest-bound : (tag : Tag) (fs : List FormattingEntry) → AreFormatsBound known fs → AreFormatsBound known (without_earliest tag fs)
  without_earliest-bound tag [] a = tt
  without_earliest-bound tag (Marker ∷ fs) a = a
  without_earliest-bound tag (Element id t ∷ fs) a =
      of_lists (is_like tag t && (likes tag fs == 0)) fs (Element id t ∷ without_earliest tag fs) a.1 (a.0, without_earliest-bound tag fs a.1)

  pub list_current-bound : (tag : Tag) (es : List OpenElement) (fs : List FormattingEntry) → AreOpenBound known es → AreFormatsBound known fs → AreFormatsBound known (list_current tag es fs)
  list_current-bound tag [] fs a b = b
  list_current-bound tag (e ∷ es) fs a b = (a.0, of_lists (nat_le 3 (likes tag fs)) (without_earliest tag fs) fs (without_earliest-bound tag fs b) b)

  -- ---- what the adoption agency algorithm takes

  pub open-append : (es ds : List OpenElement) → AreOpenBound known es → AreOpenBound known ds → AreOpenBound known (es ++ ds)
  open-append [] ds a b = b
  open-append (e ∷ es) ds a b = (a.0, open-append es ds a.1 b)

  pub below-bound : (id : NodeId) (es : List OpenElement) → AreOpenBound known es → AreOpenBound known (below id es)
  below-bound id [] a = tt
  below-bound id (e ∷ es) a = of_two (same_id e.id id) [] (e ∷ below id es) tt (a.0, below-bound id es a.1)

  pub from_on-bound : (id : NodeId) (es : List OpenElement) → AreOpenBound known es → AreOpenBound known (from_on id es)
  from_on-bound id [] a = tt
  from_on-bound id (e ∷ es) a = of_two (same_id e.id id) (e ∷ es) (from_on id es) a (from_on-bound id es a.1)

  pub through-bound : (id : NodeId) (es : List OpenElement) → AreOpenBound known es → AreOpenBound known (through id es)
  through-bound id [] a = tt
  through-bound id (e ∷ es) a = of_two (same_id e.id id) (e ∷ []) (e ∷ through id es) (a.0, tt) (a.0, through-bound id es a.1)

  pub above-bound : (id : NodeId) (es : List OpenElement) → AreOpenBound known es → AreOpenBound known (above id es)
  above-bound id [] a = tt
  above-bound id (e ∷ es) a = of_two (same_id e.id id) es (above id es) a.1 (above-bound id es a.1)

  pub with_below-bound : (id : NodeId) (e : OpenElement) (es : List OpenElement) → IsTrue (known e.id) → AreOpenBound known es → AreOpenBound known (with_below id e es)
  with_below-bound id e es i a = open-append (below id es) (e ∷ from_on id es) (below-bound id es a) (i, from_on-bound id es a)

  of_pointers : (v : Bool) (x y : Option NodeId) → IsBoundIfAny known x → IsBoundIfAny known y → IsBoundIfAny known (if v then x else y)
  of_pointers true x y a b = a
  of_pointers false x y a b = b

  pub block_below-bound : (id : NodeId) (found : Option NodeId) (es : List OpenElement) → IsBoundIfAny known found → AreOpenBound known es → IsBoundIfAny known (block_below id found es)
  block_below-bound id found [] i a = i
  block_below-bound id found (e ∷ es) i a =
      let more : Option NodeId = if is_one_of group.Special e.name then Some e.id else found in
      of_pointers (same_id e.id id) found (block_below id more es) i
      (block_below-bound id more es (of_pointers (is_one_of group.Special e.name) (Some e.id) found a.0 i) a.1)

  pub place_for-bound : (foster : Bool) (es st : List OpenElement) → AreOpenBound known es → AreOpenBound known st → IsPlaceBound known (place_for foster es st)
  place_for-bound foster [] st a b = tt
  place_for-bound foster (e ∷ es) st a b =
      of_places (foster && is_one_of group.FosterTargets e.name) (foster_place st) (place_in e) (foster_place-bound st b)
      (of_places (is_word word.Template e.name) (Contents e.id) (Inside e.id) a.0 a.0)

  formats-append : (fs gs : List FormattingEntry) → AreFormatsBound known fs → AreFormatsBound known gs → AreFormatsBound known (fs ++ gs)
  formats-append [] gs a b = b
  formats-append (Marker ∷ fs) gs a b = formats-append fs gs a b
  formats-append (Element id tag ∷ fs) gs a b = (a.0, formats-append fs gs a.1 b)

  later_than-bound : (id : NodeId) (fs : List FormattingEntry) → AreFormatsBound known fs → AreFormatsBound known (later_than id fs)
  later_than-bound id [] a = tt
  later_than-bound id (Marker ∷ fs) a = later_than-bound id fs a
  later_than-bound id (Element i tag ∷ fs) a = of_lists (same_id i id) [] (Element i tag ∷ later_than id fs) tt (a.0, later_than-bound id fs a.1)

  entry_on-bound : (id : NodeId) (fs : List FormattingEntry) → AreFormatsBound known fs → AreFormatsBound known (entry_on id fs)
  entry_on-bound id [] a = tt
  entry_on-bound id (Marker ∷ fs) a = entry_on-bound id fs a
  entry_on-bound id (Element i tag ∷ fs) a = of_lists (same_id i id) (Element i tag ∷ fs) (entry_on id fs) a (entry_on-bound id fs a.1)

  before_first-bound : (fs : List FormattingEntry) → AreFormatsBound known fs → AreFormatsBound known (before_first fs)
  before_first-bound [] a = tt
  before_first-bound (Marker ∷ fs) a = a
  before_first-bound (Element id tag ∷ fs) a = a.1

  renewed-bound : (id : NodeId) (fs : List FormattingEntry) → IsTrue (known id) → AreFormatsBound known fs → AreFormatsBound known (renewed id fs)
  renewed-bound id [] i a = tt
  renewed-bound id (Marker ∷ fs) i a = a
  renewed-bound id (Element j tag ∷ fs) i a = (i, a.1)

  pub without_entry-bound : (id : NodeId) (fs : List FormattingEntry) → AreFormatsBound known fs → AreFormatsBound known (without_entry id fs)
  without_entry-bound id fs a =
      formats-append (later_than id fs) (before_first (entry_on id fs)) (later_than-bound id fs a) (before_first-bound (entry_on id fs) (entry_on-bound id fs a))

  pub with_id-bound : (id new : NodeId) (fs : List FormattingEntry) → IsTrue (known new) → AreFormatsBound known fs → AreFormatsBound known (with_id id new fs)
  with_id-bound id new fs i a =
      formats-append (later_than id fs) (renewed new (entry_on id fs)) (later_than-bound id fs a) (renewed-bound new (entry_on id fs) i (entry_on-bound id fs a))

  pub with_behind-bound : (id new : NodeId) (tag : Tag) (fs : List FormattingEntry) → IsTrue (known new) → AreFormatsBound known fs → AreFormatsBound known (with_behind id (Element new tag) fs)
  with_behind-bound id new tag fs i a = formats-append (later_than id fs) (Element new tag ∷ entry_on id fs) (later_than-bound id fs a) (i, entry_on-bound id fs a)

-- what was bound stays bound where more is
module _ (known known' : NodeId → Bool) (more : (id : NodeId) → IsTrue (known id) → IsTrue (known' id)) where
  pub open-more : (es : List OpenElement) → AreOpenBound known es → AreOpenBound known' es
  open-more [] a = tt
  open-more (e ∷ es) a = (more e.id a.0, open-more es a.1)

  pub formats-more : (fs : List FormattingEntry) → AreFormatsBound known fs → AreFormatsBound known' fs
  formats-more [] a = tt
  formats-more (Marker ∷ fs) a = formats-more fs a
  formats-more (Element id tag ∷ fs) a = (more id a.0, formats-more fs a.1)

  pub pointer-more : (h : Option NodeId) → IsBoundIfAny known h → IsBoundIfAny known' h
  pointer-more None a = tt
  pointer-more (Some id) a = more id a

  pub place-more : (p : Place) → IsPlaceBound known p → IsPlaceBound known' p
  place-more Page a = tt
  place-more (Inside id) a = more id a
  place-more (Contents id) a = more id a
  place-more (Foster table above) a = (more table a.0, more above a.1)
