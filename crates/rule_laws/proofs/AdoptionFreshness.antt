-- The adoption agency algorithm names ids that are bound, and makes clones under ids that aren't.
use Rattle.std.proofs.Common.{◌≡◌, sym, ap, subst, ℕ, zero, suc, ◌-◌, ◌==◌, Bool, true, false, not, ◌||◌, List, [], ◌∷◌, ◌++◌, Option, Some, None}
use Rattle.std.specs.Prelude.{if◌then◌else◌, IsTrue}
use Rattle.html_types.specs.Operations.{later}
use Rattle.html_types.specs.declared.word.Word.{Word}
use Rattle.html_types.specs.declared.name.Name.{Name}
use Rattle.html_types.specs.declared.instruction.Scope.TheVariants as scope
use Rattle.html_types.specs.declared.instruction.Turn.{Turn}
use Rattle.html_types.specs.declared.instruction.Turn.TheVariants.{More, Over, Other}
use Rattle.html_types.specs.declared.token.Tag.{Tag}
use Rattle.html_types.specs.declared.operation.NodeId.{NodeId}
use Rattle.html_types.specs.declared.operation.Place.{Place}
use Rattle.html_types.specs.declared.operation.Place.TheVariants.{Inside}
use Rattle.html_types.specs.declared.operation.Op.{Op}
use Rattle.html_types.specs.declared.operation.Op.TheVariants as op
use Rattle.html_types.specs.declared.open.OpenElement.{OpenElement}
use Rattle.html_types.specs.declared.open.FormattingEntry.{FormattingEntry}
use Rattle.html_types.specs.declared.open.FormattingEntry.TheVariants.{Element}
use Rattle.html_types.specs.declared.open.Open.{Open}
use Rattle.standard.specs.Elements.{is_word}
use Rattle.standard.specs.Foreign.{opened}
use Rattle.standard.specs.Stack.{is_open, current_id, pop, without_open, open_in_scope, below, from_on, through, above, block_below, place_for}
use Rattle.standard.specs.Formatting.{entry_named, tag_of_entry, without_entry, with_behind}
use Rattle.standard.specs.Adoption.{Climb, climb_at, climb_clone, climb_drop, climb_one, climb, Turned, turned, put_at_bookmark, joined, rebuilt, turn_with, turn_at, turn, turns, Adopted, adopted, adopted_by, is_plain, adopt}
use Rattle.standard.specs.Act.{IsPlaceBound, IsOpBound, AreOpsBound, known_after}
use Rattle.rule_laws.specs.Naming.{AreOpenBound, AreFormatsBound, IsBoundIfAny, Serves, known_after_all}
use Rattle.rule_laws.proofs.FreshnessOps.{known-append, bound-append, same-itself, Follows, known-grows}
use Rattle.rule_laws.proofs.FreshnessWalks.{pop-bound, without_open-bound, open-append, from_on-bound, through-bound, above-bound, with_below-bound, block_below-bound, place_for-bound, without_entry-bound, with_id-bound, with_behind-bound, open-more, formats-more, pointer-more}

module _ (Coming : (NodeId → Bool) → NodeId → Type 0) (law : Follows Coming) (known : NodeId → Bool) where
  abbrev after : List Op → NodeId → Bool
  after o = known_after_all known o

  -- ---- an operation more

  last-known : (o : List Op) (x : Op) → after (o ++ x ∷ []) ≡ known_after (after o) x
  unfolding known_after_all
  last-known o x = known-append known o (x ∷ [])

  last-bound : (o : List Op) (x : Op) → AreOpsBound known o → IsOpBound (after o) x → AreOpsBound known (o ++ x ∷ [])
  unfolding AreOpsBound
  last-bound o x a i = bound-append known o (x ∷ []) a (i, tt)

  more-known : (o more : List Op) (id : NodeId) → IsTrue (after o id) → IsTrue (after (o ++ more) id)
  more-known o more id h = subst (λ k. IsTrue (k id)) (sym (known-append known o more)) (known-grows (after o) more id h)

  -- operations that are bound, with what is asked of the next id behind them
  record Bound (o : List Op) (id : NodeId) : Type 0 where
    ops_bound : AreOpsBound known o
    coming : Coming (after o) id

  -- an element is made
  make : NodeId → Tag → Op
  make id tag = op.Make id tag.name tag.attributes

  made-known : (o : List Op) (id : NodeId) (tag : Tag) → IsTrue (after (o ++ make id tag ∷ []) id)
  unfolding make
  made-known o id tag =
      subst (λ k. IsTrue (k id)) (sym (last-known o (make id tag))) (ap (λ v. v || after o id) (same-itself id))

  made-bound : (o : List Op) (id : NodeId) (tag : Tag) → Bound o id → Bound (o ++ make id tag ∷ []) (later 1 id)
  unfolding make
  made-bound o id tag b = record {
    ops_bound = last-bound o (make id tag) b.ops_bound (law.fresh (after o) id b.coming);
    coming = subst (λ k. Coming k (later 1 id)) (sym (last-known o (make id tag))) (law.made_next (after o) id b.coming);
  }

  put-bound : (o : List Op) (id i : NodeId) (at : Place) → Bound o id → IsTrue (after o i) → IsPlaceBound (after o) at → Bound (o ++ op.Put i at ∷ []) id
  put-bound o id i at b h p = record {
    ops_bound = last-bound o (op.Put i at) b.ops_bound (h, p);
    coming = subst (λ k. Coming k id) (sym (last-known o (op.Put i at))) b.coming;
  }

  moved-bound : (o : List Op) (id from to : NodeId) → Bound o id → IsTrue (after o from) → IsTrue (after o to) → Bound (o ++ op.MoveChildren from to ∷ []) id
  moved-bound o id from to b h g = record {
    ops_bound = last-bound o (op.MoveChildren from to) b.ops_bound (h, g);
    coming = subst (λ k. Coming k id) (sym (last-known o (op.MoveChildren from to))) b.coming;
  }

  -- ---- a climb that began behind the operations o

  record ClimbFits (o : List Op) (c : Climb) : Type 0 where
    bound : Bound c.ops c.next
    more : (id : NodeId) → IsTrue (after o id) → IsTrue (after c.ops id)
    formats_bound : AreFormatsBound (after c.ops) c.formats
    kept_bound : AreOpenBound (after c.ops) c.kept
    last_bound : IsTrue (after c.ops c.last)

  clone-fits : (o : List Op) (id : NodeId) (tag : Option Tag) (c : Climb) → ClimbFits o c → ClimbFits o (climb_clone id tag c)
  unfolding make
  clone-fits o id None c f = f
  clone-fits o id (Some tag) c f =
      let o1 : List Op = c.ops ++ make c.next tag ∷ [] in
      let o2 : List Op = o1 ++ op.Put c.last (Inside c.next) ∷ [] in
      let on : (i : NodeId) → IsTrue (after c.ops i) → IsTrue (after o2 i) = λ i h. more-known o1 _ i (more-known c.ops _ i h) in
      let here : IsTrue (after o1 c.next) = made-known c.ops c.next tag in
      let there : IsTrue (after o2 c.next) = more-known o1 _ c.next here in
      record {
        bound = put-bound o1 (later 1 c.next) c.last (Inside c.next) (made-bound c.ops c.next tag f.bound) (more-known c.ops _ c.last f.last_bound) here;
        more = λ i h. on i (f.more i h);
        formats_bound = with_id-bound (after o2) id c.next c.formats there (formats-more (after c.ops) (after o2) on c.formats f.formats_bound);
        kept_bound = open-append (after o2) c.kept (opened c.next tag ∷ []) (open-more (after c.ops) (after o2) on c.kept f.kept_bound) (there, tt);
        last_bound = there;
      }

  drop-bound : (k : NodeId → Bool) (left : ℕ) (id : NodeId) (fs : List FormattingEntry) → AreFormatsBound k fs → AreFormatsBound k (climb_drop left id fs)
  drop-bound k left id fs a = by (left == 0)
    where
      by : (v : Bool) → AreFormatsBound k (if v then without_entry id fs else fs)
      by true = without_entry-bound k id fs a
      by false = a

  climb-fits : (o : List Op) (left : ℕ) (es : List OpenElement) (c : Climb) → ClimbFits o c → ClimbFits o (climb left es c)
  climb-fits o left [] c f = f
  climb-fits o left (e ∷ es) c f =
      let fs : List FormattingEntry = climb_drop left e.id c.formats in
      climb-fits o (left - 1) es (climb_one left e.id c) (clone-fits o e.id (tag_of_entry e.id fs) (climb_at fs c.next c.ops c.kept c.last c.bookmark) (record {
        bound = f.bound;
        more = f.more;
        formats_bound = drop-bound (after c.ops) left e.id c.formats f.formats_bound;
        kept_bound = f.kept_bound;
        last_bound = f.last_bound;
      }))

  -- ---- a turn

  abbrev TurnFits : Turned → Type 0
  TurnFits c = AreOpsBound known c.ops × Serves Coming (after c.ops) c.open_state

  bookmark-bound : (k : NodeId → Bool) (f clone : NodeId) (tag : Tag) (m : Option NodeId) (fs : List FormattingEntry) → IsTrue (k clone) → AreFormatsBound k fs → AreFormatsBound k (put_at_bookmark f clone tag m fs)
  bookmark-bound k f clone tag None fs i a = with_id-bound k f clone fs i a
  bookmark-bound k f clone tag (Some m) fs i a = without_entry-bound k f (with_behind m (Element clone tag) fs) (with_behind-bound k m clone tag fs i a)

  joined-bound : (k : NodeId → Bool) (f block : NodeId) (st kept : List OpenElement) → AreOpenBound k st → AreOpenBound k kept → AreOpenBound k (joined f block st kept)
  joined-bound k f block st kept a b =
      open-append k (through block st ++ kept) (from_on f (above block st)) (open-append k (through block st) kept (through-bound k block st a) b)
      (from_on-bound k f (above block st) (above-bound k block st a))

  rebuilt-fits : (o : List Op) (f : NodeId) (tag : Tag) (block : NodeId) (b : Open) (c : Climb) (st : List OpenElement)
      → Serves Coming (after o) b → IsTrue (after o block) → ClimbFits o c → AreOpenBound (after c.ops) st → TurnFits (rebuilt f tag block b c st)
  unfolding make
  rebuilt-fits o f tag block b c st s i g a =
      let at : Place = place_for b.foster (above f st) st in
      let o1 : List Op = c.ops ++ op.Put c.last at ∷ [] in
      let o2 : List Op = o1 ++ make c.next tag ∷ [] in
      let o3 : List Op = o2 ++ op.MoveChildren block c.next ∷ [] in
      let o4 : List Op = o3 ++ op.Put c.next (Inside block) ∷ [] in
      let second : (j : NodeId) → IsTrue (after c.ops j) → IsTrue (after o2 j) = λ j h. more-known o1 _ j (more-known c.ops _ j h) in
      let third : (j : NodeId) → IsTrue (after c.ops j) → IsTrue (after o3 j) = λ j h. more-known o2 _ j (second j h) in
      let on : (j : NodeId) → IsTrue (after c.ops j) → IsTrue (after o4 j) = λ j h. more-known o3 _ j (third j h) in
      let all : (j : NodeId) → IsTrue (after o j) → IsTrue (after o4 j) = λ j h. on j (g.more j h) in
      let clone : IsTrue (after o2 c.next) = made-known o1 c.next tag in
      let clone3 : IsTrue (after o3 c.next) = more-known o2 _ c.next clone in
      let clone4 : IsTrue (after o4 c.next) = more-known o3 _ c.next clone3 in
      let put : Bound o1 c.next = put-bound c.ops c.next c.last at g.bound g.last_bound (place_for-bound (after c.ops) b.foster (above f st) st (above-bound (after c.ops) f st a) a) in
      let moved : Bound o3 (later 1 c.next) = moved-bound o2 (later 1 c.next) block c.next (made-bound o1 c.next tag put) (second block (g.more block i)) clone in
      let done : Bound o4 (later 1 c.next) = put-bound o3 (later 1 c.next) c.next (Inside block) moved clone3 (third block (g.more block i)) in (
        done.ops_bound,
        record {
          stack_bound = with_below-bound (after o4) block (opened c.next tag) (without_open (Some f) st) clone4
              (without_open-bound (after o4) (Some f) st (open-more (after c.ops) (after o4) on st a));
          formats_bound = bookmark-bound (after o4) f c.next tag c.bookmark c.formats clone4 (formats-more (after c.ops) (after o4) on c.formats g.formats_bound);
          head_bound = pointer-more (after o) (after o4) all b.head s.head_bound;
          form_bound = pointer-more (after o) (after o4) all b.form s.form_bound;
          coming = done.coming;
        },
      )

  turn_with-fits : (f : NodeId) (tag : Option Tag) (block : Option NodeId) (b : Open) (o : List Op)
      → AreOpsBound known o → Serves Coming (after o) b → IsBoundIfAny (after o) block → TurnFits (turn_with f tag block b o)
  turn_with-fits f None block b o a s i = (a, s)
  turn_with-fits f (Some tag) None b o a s i = (
    a,
    record {
      stack_bound = above-bound (after o) f b.stack s.stack_bound;
      formats_bound = without_entry-bound (after o) f b.formats s.formats_bound;
      head_bound = s.head_bound;
      form_bound = s.form_bound;
      coming = s.coming;
    },
  )
  turn_with-fits f (Some tag) (Some block) b o a s i =
      let start : Climb = climb_at b.formats b.next o [] block None in
      let es : List OpenElement = below f (above block b.stack) in
      let c : Climb = climb 3 es start in
      let g : ClimbFits o c = climb-fits o 3 es start (record {
        bound = record { ops_bound = a; coming = s.coming };
        more = λ j h. h;
        formats_bound = s.formats_bound;
        kept_bound = tt;
        last_bound = i;
      }) in
      rebuilt-fits o f tag block b c (joined f block b.stack c.kept) s i g
      (joined-bound (after c.ops) f block b.stack c.kept (open-more (after o) (after c.ops) g.more b.stack s.stack_bound) g.kept_bound)

  of_two : (v : Bool) (x y : Turned) → TurnFits x → TurnFits y → TurnFits (if v then x else y)
  of_two true x y a b = a
  of_two false x y a b = b

  pub turn_at-fits : (f : Option NodeId) (b : Open) (o : List Op) → AreOpsBound known o → Serves Coming (after o) b → TurnFits (turn_at f b o)
  turn_at-fits None b o a s = (a, s)
  turn_at-fits (Some f) b o a s =
      of_two (not (is_open f b.stack)) (turned (record b { formats = without_entry f b.formats }) o Over) _ (
        a,
        record {
          stack_bound = s.stack_bound;
          formats_bound = without_entry-bound (after o) f b.formats s.formats_bound;
          head_bound = s.head_bound;
          form_bound = s.form_bound;
          coming = s.coming;
        },
      )
      (of_two (not (open_in_scope scope.Default f b.stack)) (turned b o Over) (turn_with f (tag_of_entry f b.formats) (block_below f None b.stack) b o) (a, s)
      (turn_with-fits f (tag_of_entry f b.formats) (block_below f None b.stack) b o a s (block_below-bound (after o) f None b.stack tt s.stack_bound)))

  turns-fit : (n : ℕ) (is : Name → Bool) (b : Open) (o : List Op) (t : Turn) → AreOpsBound known o → Serves Coming (after o) b → TurnFits (turns n is (turned b o t))
  turns-fit zero is b o t a s = (a, s)
  turns-fit (suc n) is b o More a s =
      let c : Turned = turn is b o in
      let g : TurnFits c = turn_at-fits (entry_named is b.formats) b o a s in
      turns-fit n is c.open_state c.ops c.turn g.0 g.1
  turns-fit (suc n) is b o Over a s = (a, s)
  turns-fit (suc n) is b o Other a s = (a, s)

  abbrev pub AdoptedFits : Adopted → Type 0
  AdoptedFits a = AreOpsBound known a.ops × Serves Coming (known_after_all known a.ops) a.open_state

  of_both : (v : Bool) (x y : Adopted) → AdoptedFits x → AdoptedFits y → AdoptedFits (if v then x else y)
  of_both true x y a b = a
  of_both false x y a b = b

  pub adopt-fits : (w : Word) (b : Open) (o : List Op) → AreOpsBound known o → Serves Coming (known_after_all known o) b → AdoptedFits (adopt w b o)
  unfolding adopt
  adopt-fits w b o a s =
      of_both (is_plain (is_word w) (current_id b.stack) b) (adopted (record b { stack = pop b.stack }) o false) (adopted_by (turns 8 (is_word w) (turned b o More))) (
        a,
        record {
          stack_bound = pop-bound (after o) b.stack s.stack_bound;
          formats_bound = s.formats_bound;
          head_bound = s.head_bound;
          form_bound = s.form_bound;
          coming = s.coming;
        },
      )
      (turns-fit 8 (is_word w) b o More a s)
