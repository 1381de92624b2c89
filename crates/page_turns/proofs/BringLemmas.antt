-- What holds between two turns holds where a script was awaited, and brought or not.
use Rattle.std.proofs.Common.{◌≡◌, ℕ, ◌≤◌, ◌<◌, ◌+◌, true, false, List, [], Option, None, refl, sym, ap, subst, ◌∙◌, inr, arith}
use Rattle.std.specs.Prelude.{not, ◌&&◌}
use Rattle.outside.specs.Outside.{Seen, KeepsOthers}
use Rattle.outside.specs.declared.traits.Port.TheVariants as port
use Rattle.standard.specs.Entities.{Entities}
use Rattle.core_definitions.specs.declared.event.Event.TheVariants as event
use Rattle.core_definitions.specs.Desk.{Desk, is_done, is_among, can_arrive}
use Rattle.core_steps.specs.Fetches.{names_of}
use Rattle.core_steps.specs.Sides.{Shown, IsReplayed}
use Rattle.speculation.specs.Asking.{Asked}
use Rattle.page_turns.specs.declared.reader.PageReader.{PageReader}
use Rattle.page_turns.specs.Along.{IsSentSoFar, Stays, Goes}
use Rattle.page_turns.specs.declared.prefetch.Early.{Early}
use Rattle.page_turns.specs.Early.{IsNew, TakesNext, FailsToBring, none_given, one_given}
use Rattle.page_turns.specs.Messages.{Message, TakenSoFar}
use Rattle.page_turns.specs.Scripts.{Folder, Met, folder_with}
use Rattle.page_turns.specs.Turns.{Load, Answers, Brings, from_file, came_early, said_nothing, BeginsTheAwaited, Holds, turns_to_come, Leaves, GivesUp}
use Rattle.page_turns.proofs.AlongLemmas.{stays_read, goes_more, goes_arrived}
use Rattle.page_turns.proofs.GiveLemmas.{leaves_now, alone_now, part_none, front-of, left-stays, gives_up_fetching, goes_fetched, arrived_less, early_less}
use Rattle.page_turns.proofs.MessageLemmas.{taken_same, taken_kept}
use Rattle.page_turns.proofs.TextLemmas.{none-among}
use Rattle.page_turns.proofs.TurnLemmas.{holds_arrived, holds_early, holds_same, fetches_given}

-- what came next, as it is told
pub next_as : (early early' : Early) (met met' old new : Met) (n n' : ℕ) → early ≡ early' → met ≡ met' → TakesNext early met old new n n' → TakesNext early' met' old new n n'
next_as early early' met met' old new n n' one same next = subst (λ e. TakesNext e met' old new n n') one (subst (λ m. TakesNext early m old new n n') same next)

-- a script that wasn't met may arrive
pub can_come : (name : List ℕ) (d : Desk) (met : Met) → d.arrived ≡ names_of met → IsNew name met → can_arrive name d ≡ true
can_come name d met same new =
    let apart : is_among name d.arrived ≡ false = subst (λ names. is_among name names ≡ false) (sym same) (none-among name met new.1) in
    ap (λ b. b && not (is_among name d.arrived)) new.0 ∙ ap not apart

module _ (dir : List ℕ) (given given' : Met) (now after : Seen) (n n' : ℕ) (s s' : Shown) where
  -- the page is as it was
  pub pieces_brought : Brings (folder_with dir given') now after given n n' s s' → s'.journal.pieces ≡ s.journal.pieces
  pieces_brought (from_file arr same le) = ap (λ (z : Shown). z.journal.pieces) arr.arrived
  pieces_brought (came_early name f one new still is less) = ap (λ (z : Shown). z.journal.pieces) is
  pieces_brought (said_nothing still same is less) = ap (λ (z : Shown). z.journal.pieces) is

  pub ending_brought : Brings (folder_with dir given') now after given n n' s s' → s'.journal.ending ≡ s.journal.ending
  ending_brought (from_file arr same le) = ap (λ (z : Shown). z.journal.ending) arr.arrived
  ending_brought (came_early name f one new still is less) = ap (λ (z : Shown). z.journal.ending) is
  ending_brought (said_nothing still same is less) = ap (λ (z : Shown). z.journal.ending) is

  -- and no reply was taken
  pub taken_brought : (taken : Option (List Message)) → Brings (folder_with dir given') now after given n n' s s' → TakenSoFar taken s.journal.events → TakenSoFar taken s'.journal.events
  taken_brought taken (from_file arr same le) so_far = taken_same taken taken s.journal.events s'.journal.events (event.Arrive arr.name) refl refl (ap (λ (z : Shown). z.journal.events) arr.arrived) so_far
  taken_brought taken (came_early name f one new still is less) so_far = taken_same taken taken s.journal.events s'.journal.events (event.Arrive name) refl refl (ap (λ (z : Shown). z.journal.events) is) so_far
  taken_brought taken (said_nothing still same is less) so_far = taken_kept taken taken s.journal.events s'.journal.events refl (ap (λ (z : Shown). z.journal.events) is) so_far

-- where memory ran out
pub goes_failed : (met given given' : Met) (now after : Seen) (asks : Option (List Asked)) (s : Shown) → FailsToBring met given given' now after → Goes given asks s → Goes given' asks s
goes_failed met given given' now after asks s (none_given same) g = subst (λ x. Goes x asks s) (sym same) g
goes_failed met given given' now after asks s (one_given name f one new still) g = goes_more given given' asks s one.more g

module _ (es : Entities) (ahead : ℕ) (dir : List ℕ) (given given' : Met) (before now after : Seen) (t t' : Option (List ℕ)) (reader : PageReader) (l : Load) (s s' : Shown)
    (h : Holds es ahead (folder_with dir given) before now t t' reader l s) (begins : BeginsTheAwaited dir now after s.desk) (keeps : KeepsOthers port.Script now after) where
  abbrev folder' : Folder
  folder' = folder_with dir given'

  module _ (m : Load) (none : Answers false l m) where
    with_same : Holds es ahead (folder_with dir given) before now t t' reader m s
    with_same = subst (λ x. Holds es ahead (folder_with dir given) before now t t' reader x s) (sym none.0) h

    still-given : given' ≡ given → Holds es ahead folder' before now t t' reader m s
    still-given same = holds_same es ahead dir given given' before now t t' reader m s same with_same

    pub after_brought : (n n' : ℕ) → Brings folder' now after given n n' s s' → Holds es ahead folder' before after t t' reader m s'
    after_brought n n' (from_file arr same le) = holds_arrived es ahead folder' before t now after t' reader m s s' arr begins keeps (still-given same)
    after_brought n n' (came_early name f one new still is less) =
        subst (λ z. Holds es ahead folder' before after t t' reader m z) (sym is)
        (holds_early es ahead dir given given' before now after t t' reader m s name f one new still keeps with_same begins)
    after_brought n n' (said_nothing still same is less) =
        subst (λ z. Holds es ahead folder' before after t t' reader m z) (sym is) (subst (λ a. Holds es ahead folder' before a t t' reader m s) (sym still) (still-given same))

    pub goes_brought : (n n' : ℕ) (asks : Option (List Asked)) → Goes given asks s → is_done s.desk.phase ≡ false → IsSentSoFar s.ahead s.journal.ending s.desk → Brings folder' now after given n n' s s' → Goes given' asks s'
    goes_brought n n' asks g going looks (from_file arr same le) =
        goes_fetched es ahead folder' before t now t' reader l s (holds_same es ahead dir given given' before now t t' reader l s same h) m none asks after s' (subst (λ x. Goes x asks s) (sym same) g) going looks arr
    goes_brought n n' asks g going looks (came_early name f one new still is less) =
        goes_arrived asks s (goes_more given given' asks s one.more g) name f s' going (can_come name s.desk s.journal.fetches h.inside.arrived new) (inr (f, one.here)) looks is
    goes_brought n n' asks g going looks (said_nothing still same is less) = subst (Goes given' asks) (sym is) (subst (λ x. Goes x asks s) (sym same) g)

    -- fewer turns are to come
    brought-less : (n n' : ℕ) → Brings folder' now after given n n' s s' → turns_to_come reader m s' + n' < turns_to_come reader m s + n
    brought-less n n' (from_file arr same le) = let less = arrived_less folder' now after reader m s s' arr in omega (arith, less, le)
    brought-less n n' (came_early name f one new still is less) =
        let le : turns_to_come reader m s' ≤ turns_to_come reader m s = subst (λ z. turns_to_come reader m z ≤ turns_to_come reader m s) (sym is) (early_less reader m s name begins.0 f begins.1) in
        omega (arith, le, less)
    brought-less n n' (said_nothing still same is less) = let still_here : turns_to_come reader m s' ≡ turns_to_come reader m s = ap (λ z. turns_to_come reader m z) is in omega (arith, still_here, less)

    pub after_brought_less : (n n' : ℕ) → Brings folder' now after given n n' s s' → turns_to_come reader m s' + n' < turns_to_come reader l s + n
    after_brought_less n n' brings = subst (λ x. turns_to_come reader m s' + n' < turns_to_come reader x s + n) none.0 (brought-less n n' brings)

  -- Memory ran out.
  pub gives_up_bringing : IsReplayed s → Goes given None s → FailsToBring s.journal.fetches given given' now after → Stays s s' → GivesUp es ahead folder' before after t t' s'
  gives_up_bringing replayed goes (none_given same) stays =
      gives_up_fetching es ahead folder' before t now t' reader l s (holds_same es ahead dir given given' before now t t' reader l s same h) replayed (subst (λ x. Goes x None s) (sym same) goes) after s' stays begins keeps
  gives_up_bringing replayed goes (one_given name f one new still) stays = subst (λ a. GivesUp es ahead folder' before a t t' s') (sym still) here
    where
      was : Leaves es ahead (folder_with dir given) before now s
      was = leaves_now es ahead (folder_with dir given) before t now t' reader l s h

      leaves : Leaves es ahead folder' before now s
      leaves = record {
        entities = was.entities;
        ahead_is = was.ahead_is;
        page = was.page;
        unmet = [];
        fetches = fetches_given es ahead dir given given' before now after t t' reader l s name f one new still keeps h;
        awaited = tt;
        known = was.known;
      }

      left : Leaves es ahead folder' before now s'
      left = left-stays es ahead folder' before t now s s' (stays_read s s' stays) leaves tt

      here : GivesUp es ahead folder' before now t t' s'
      here = record {
        left = left;
        shown = s;
        replayed = λ _. replayed;
        leaves = leaves;
        goes = goes_more given given' None s one.more goes;
        alone = alone_now es ahead (folder_with dir given) before t now t' reader l s h;
        front = front-of es ahead folder' before t t' s h.inside.lines h.took;
        part = part_none es ahead (folder_with dir given) before t now t' reader l s h replayed s' left.entities left.ahead_is (ap (λ (z : Shown). z.desk.own.side.lines) stays);
      }
