-- The next id stays or comes later behind the adoption agency algorithm.
use Rattle.std.proofs.Common.{ℕ, zero, suc, ◌-◌, Bool, true, false, not, List, [], ◌∷◌, Option, Some, None}
use Rattle.std.specs.Prelude.{if◌then◌else◌}
use Rattle.html_types.specs.Operations.{later}
use Rattle.html_types.specs.declared.word.Word.{Word}
use Rattle.html_types.specs.declared.name.Name.{Name}
use Rattle.html_types.specs.declared.instruction.Scope.TheVariants as scope
use Rattle.html_types.specs.declared.instruction.Turn.{Turn}
use Rattle.html_types.specs.declared.instruction.Turn.TheVariants.{More, Over, Other}
use Rattle.html_types.specs.declared.token.Tag.{Tag}
use Rattle.html_types.specs.declared.operation.NodeId.{NodeId}
use Rattle.html_types.specs.declared.operation.Op.{Op}
use Rattle.html_types.specs.declared.open.OpenElement.{OpenElement}
use Rattle.html_types.specs.declared.open.Open.{Open}
use Rattle.standard.specs.Elements.{is_word}
use Rattle.standard.specs.Stack.{is_open, current_id, pop, open_in_scope, below, above, block_below}
use Rattle.standard.specs.Formatting.{entry_named, tag_of_entry, without_entry}
use Rattle.standard.specs.Adoption.{Climb, climb_at, climb_clone, climb_drop, climb_one, climb, Turned, turned, turn_with, turn_at, turn, turns, Adopted, adopted, adopted_by, is_plain, adopt}

module _ (P : NodeId → Type 0) (one : (id : NodeId) → P id → P (later 1 id)) where
  climb_clone-grows : (id : NodeId) (tag : Option Tag) (c : Climb) → P c.next → P (climb_clone id tag c).next
  climb_clone-grows id None c h = h
  climb_clone-grows id (Some tag) c h = one c.next h

  pub climb_one-grows : (left : ℕ) (id : NodeId) (c : Climb) → P c.next → P (climb_one left id c).next
  climb_one-grows left id c h =
      let fs = climb_drop left id c.formats in climb_clone-grows id (tag_of_entry id fs) (climb_at fs c.next c.ops c.kept c.last c.bookmark) h

  pub climb-grows : (left : ℕ) (es : List OpenElement) (c : Climb) → P c.next → P (climb left es c).next
  climb-grows left [] c h = h
  climb-grows left (e ∷ es) c h = climb-grows (left - 1) es (climb_one left e.id c) (climb_one-grows left e.id c h)

  turn_with-grows : (f : NodeId) (tag : Option Tag) (block : Option NodeId) (b : Open) (o : List Op) → P b.next → P (turn_with f tag block b o).open_state.next
  turn_with-grows f None block b o h = h
  turn_with-grows f (Some tag) None b o h = h
  turn_with-grows f (Some tag) (Some block) b o h = one _ (climb-grows 3 (below f (above block b.stack)) (climb_at b.formats b.next o [] block None) h)

  of_two : (v : Bool) (x y : Turned) → P x.open_state.next → P y.open_state.next → P (if v then x else y).open_state.next
  of_two true x y a b = a
  of_two false x y a b = b

  turn_at-grows : (f : Option NodeId) (b : Open) (o : List Op) → P b.next → P (turn_at f b o).open_state.next
  turn_at-grows None b o h = h
  turn_at-grows (Some f) b o h =
      of_two (not (is_open f b.stack)) (turned (record b { formats = without_entry f b.formats }) o Over) _ h
      (of_two (not (open_in_scope scope.Default f b.stack)) (turned b o Over) (turn_with f (tag_of_entry f b.formats) (block_below f None b.stack) b o) h
      (turn_with-grows f (tag_of_entry f b.formats) (block_below f None b.stack) b o h))

  pub turn-grows : (is : Name → Bool) (b : Open) (o : List Op) → P b.next → P (turn is b o).open_state.next
  turn-grows is b o h = turn_at-grows (entry_named is b.formats) b o h

  turns-grow : (n : ℕ) (is : Name → Bool) (b : Open) (o : List Op) (t : Turn) → P b.next → P (turns n is (turned b o t)).open_state.next
  turns-grow zero is b o t h = h
  turns-grow (suc n) is b o More h =
      let c : Turned = turn is b o in
      turns-grow n is c.open_state c.ops c.turn (turn-grows is b o h)
  turns-grow (suc n) is b o Over h = h
  turns-grow (suc n) is b o Other h = h

  of_both : (v : Bool) (x y : Adopted) → P x.open_state.next → P y.open_state.next → P (if v then x else y).open_state.next
  of_both true x y a b = a
  of_both false x y a b = b

  pub adopt-grows : (w : Word) (b : Open) (o : List Op) → P b.next → P (adopt w b o).open_state.next
  unfolding adopt
  adopt-grows w b o h =
      of_both (is_plain (is_word w) (current_id b.stack) b) (adopted (record b { stack = pop b.stack }) o false) (adopted_by (turns 8 (is_word w) (turned b o More))) h
      (turns-grow 8 (is_word w) b o More h)
