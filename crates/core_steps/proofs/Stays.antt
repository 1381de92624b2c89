-- What is known of a side: at the beginning, and behind the events but Do.
use Rattle.std.proofs.Common.{◌≡◌, ◌≤◌, ◌+◌, ℕ, suc, nat_lt, Bool, true, false, List, [], ◌∷◌, ◌++◌, length, Option, Some, None, refl, sym, ◌∙◌, ap, subst, IsTrue, arith, append-nil, append_assoc}
use Rattle.std.specs.Prelude.{◌&&◌}
use Rattle.std.specs.declared.snapshot.Snapshot.{Snapshot}
use Rattle.std.proofs.lemmas.Bool.{and_parts, false≢true}
use Rattle.html_types.specs.declared.ending.Ending.{Ending}
use Rattle.serial.specs.declared.script.Line.{Line}
use Rattle.standard.specs.Entities.{Entities}
use Rattle.standard.specs.Parser.{Parser, new_parser}
use Rattle.core_definitions.specs.Batches.{Piece, Batch, answer}
use Rattle.core_definitions.specs.Core.{joined}
use Rattle.core_definitions.specs.Desk.{Phase, free, Desk, first_desk, is_free, wants_reply}
use Rattle.core_definitions.specs.Journal.{Journal}
use Rattle.core_definitions.specs.Settling.{is_empty}
use Rattle.moment_laws.proofs.Served.{first-room}
use Rattle.page_pieces.specs.Keeping.{Kept, first_kept, keeps, keeps_first, took}
use Rattle.write_parser.specs.Writing.{View, first_view, serial_of}
use Rattle.speculation.specs.Asking.{page_limit}
use Rattle.core_steps.specs.declared.stage.Stage.{Stage}
use Rattle.core_steps.specs.declared.stage.Stage.TheVariants.{Free, Tagged, Waits, Done}
use Rattle.core_steps.specs.declared.side.Counts.{Counts}
use Rattle.core_steps.specs.declared.side.Side.{Side}
use Rattle.core_steps.specs.Journals.{empty_journal}
use Rattle.core_steps.specs.Sides.{Shown, first_shown, lines_given, phase_of, desk_of, shown_of, hand_of, IsIdle, IsHolding, IsTagged, IsWaiting, IsFree, StandsIn, AreAhead, IsPlaced, IsSound}
use Rattle.core_steps.proofs.Hands.{nothing-alone}
use Rattle.core_steps.proofs.Events.{placed-sent, placed-more, placed-took, left-none, pieces-more}

-- ---- before any event

first-free : IsFree 1 (first_view 0)
first-free = record { idle = record { rest = refl; pending = refl; halted = refl }; room = first-room 0 }

first-placed : (ahead : ℕ) → IsPlaced 0 0 (first_kept ahead) empty_journal
first-placed ahead = record { asked = refl; to_send = refl; within = omega arith }

abbrev first_counts : Counts
first_counts = record { epoch = 1; realm = 1; place = 0; sent_to = 0 }

pub first-sound : (s : Side) (ahead : ℕ) → s.writer ≡ first_view 0 → s.ledger ≡ first_kept ahead → s.stage ≡ Free → s.ready ≡ [] → s.counts ≡ first_counts → s.journal ≡ empty_journal → IsSound s
first-sound s ahead writer ledger stage ready counts journal = record {
  going = ap (λ (v : View). v.spent) writer;
  stands =
      subst (λ t. StandsIn t s.counts.realm s.writer) (sym stage)
      (subst (λ (n : Counts). IsFree n.realm s.writer) (sym counts) (subst (λ v. IsFree 1 v) (sym writer) first-free));
  ahead = subst (λ bs. AreAhead bs (hand_of s.table s.stage s.writer.parser s.ledger.left)) (sym ready) tt;
  placed =
      subst (λ (n : Counts). IsPlaced n.place n.sent_to s.ledger s.journal) (sym counts)
      (subst (λ k. IsPlaced 0 0 k s.journal) (sym ledger) (subst (λ j. IsPlaced 0 0 (first_kept ahead) j) (sym journal) (first-placed ahead)));
}

-- what a side shows, with those lines given
abbrev told : List Line → Side → Shown
told given s = record {
  desk = record (desk_of s) { own = serial_of s.writer given [] };
  given = given;
  journal = s.journal;
  entities = s.table;
  ahead = s.ledger.ahead;
  spent = false;
}

pub first-told : (s : Side) (es : Entities) (ahead : ℕ) → s.table ≡ es → s.writer ≡ first_view 0 → s.given.items ≡ [] → s.ledger ≡ first_kept ahead → s.stage ≡ Free → s.begins ≡ Some (new_parser 0) → s.counts ≡ first_counts → s.journal ≡ empty_journal →
    shown_of s false ≡ first_shown es ahead
first-told s es ahead table writer given ledger stage begins counts journal =
    ap (λ (gs : List (Snapshot (List Line))). told (lines_given gs) s) given
    ∙ (ap (λ e. told [] (record s { table = e })) table
    ∙ (ap (λ v. told [] (record s { table = es; writer = v })) writer
    ∙ (ap (λ k. told [] (record s { table = es; writer = first_view 0; ledger = k })) ledger
    ∙ (ap (λ t. told [] (record s { table = es; writer = first_view 0; ledger = first_kept ahead; stage = t })) stage
    ∙ (ap (λ b. told [] (record s { table = es; writer = first_view 0; ledger = first_kept ahead; stage = Free; begins = b })) begins
    ∙ (ap (λ n. told [] (record s { table = es; writer = first_view 0; ledger = first_kept ahead; stage = Free; begins = Some (new_parser 0); counts = n })) counts
    ∙ (ap (λ j. told [] (record s { table = es; writer = first_view 0; ledger = first_kept ahead; stage = Free; begins = Some (new_parser 0); counts = first_counts; journal = j })) journal
    ∙ ap (λ h. record (first_shown es ahead) { desk = record (first_desk []) { hand = h } }) (nothing-alone es (new_parser 0)))))))))

-- ---- what is handed in

-- a piece more is to be sent
pub sound-more : (s : Side) (k : Kept) (j : Journal) (x : Piece) → IsSound s → k ≡ record s.ledger { to_send = s.ledger.to_send ++ x ∷ [] } → length (joined j.pieces) ≡ length (joined s.journal.pieces) + length x.text →
    length (joined s.journal.pieces) + length x.text ≤ page_limit → IsSound (record s { ledger = k; journal = j })
sound-more s k j x h is more fits = record {
  going = h.going;
  stands = h.stands;
  ahead = subst (λ (z : Kept). AreAhead s.ready (hand_of s.table s.stage s.writer.parser z.left)) (sym is) h.ahead;
  placed = placed-more s.counts.place s.counts.sent_to s.ledger k x s.journal j h.placed is more fits;
}

pub piece-sound : (s : Side) (k : Kept) (j : Journal) (x : Piece) (o : Option Ending) (text copy whole : List ℕ) → IsSound s → k ≡ record s.ledger { to_send = s.ledger.to_send ++ x ∷ [] } → x ≡ record { text = text; ending = o } →
    copy ≡ text → text ≡ whole → j ≡ record s.journal { pieces = s.journal.pieces ++ copy ∷ [] } → length (joined s.journal.pieces) + length whole ≤ page_limit → IsSound (record s { ledger = k; journal = j })
piece-sound s k j x o text copy whole h is piece same read more fits =
    let here : x.text ≡ whole = ap (λ (p : Piece). p.text) piece ∙ read in
    sound-more s k j x h is
    (pieces-more s.journal.pieces j.pieces copy (ap (λ (z : Journal). z.pieces) more) ∙ ap (λ (t : List ℕ). length (joined s.journal.pieces) + length t) (same ∙ (read ∙ sym here)))
    (subst (λ (t : List ℕ). length (joined s.journal.pieces) + length t ≤ page_limit) (sym here) fits)

pub ending-sound : (s : Side) (k : Kept) (j : Journal) (x : Piece) (o : Option Ending) (text : List ℕ) → IsSound s → k ≡ record s.ledger { to_send = s.ledger.to_send ++ x ∷ [] } → x ≡ record { text = text; ending = o } → text ≡ [] →
    j.pieces ≡ s.journal.pieces → IsSound (record s { ledger = k; journal = j })
ending-sound s k j x o text h is piece none same =
    let here : x.text ≡ [] = ap (λ (p : Piece). p.text) piece ∙ none in
    let size : length x.text ≡ 0 = ap length here in
    let pieces : length (joined j.pieces) ≡ length (joined s.journal.pieces) = ap (λ (ps : List (List ℕ)). length (joined ps)) same in
    let within : length (joined s.journal.pieces) ≤ page_limit = h.placed.within in
    sound-more s k j x h is (omega (arith, size, pieces)) (omega (arith, size, within))

-- ---- Send

placed-journal : (place sent_to : ℕ) (k : Kept) (j j' : Journal) → IsPlaced place sent_to k j → j'.pieces ≡ j.pieces → IsPlaced place sent_to k j'
placed-journal place sent_to k j j' h same = record {
  asked = h.asked;
  to_send = h.to_send ∙ ap (λ (ps : List (List ℕ)). length (joined ps)) (sym same);
  within = subst (λ (ps : List (List ℕ)). length (joined ps) ≤ page_limit) (sym same) h.within;
}

pub sound-sent : (s : Side) (k : Kept) (begins : Option Parser) (n m : ℕ) (x : Piece) (xs : List Piece) (j : Journal) → IsSound s → s.ledger.to_send ≡ x ∷ xs → k ≡ keeps s.ledger → m ≡ s.counts.sent_to + n → n ≡ length x.text →
    j.pieces ≡ s.journal.pieces → IsSound (record s { ledger = k; begins = begins; counts = record s.counts { sent_to = m }; journal = j })
sound-sent s k begins n m x xs j h some is to size same = record {
  going = h.going;
  stands = h.stands;
  ahead = subst (λ (z : Kept). AreAhead s.ready (hand_of s.table s.stage s.writer.parser z.left)) (sym (is ∙ ap (λ l. keeps_first l s.ledger) some)) h.ahead;
  placed =
      subst (λ t. IsPlaced s.counts.place t k j) (sym to)
      (placed-sent s.counts.place s.counts.sent_to n s.ledger k x xs j (placed-journal s.counts.place s.counts.sent_to s.ledger s.journal j h.placed same) some is size);
}

-- ---- Take

-- a reply is wanted where no script is in hand
stage-free : (t : Stage) → IsTrue (is_free (phase_of t)) → t ≡ Free
stage-free Free h = refl
stage-free (Tagged i held) h = absurd (false≢true h)
stage-free (Waits name held) h = absurd (false≢true h)
stage-free (Done w in_hand) h = absurd (false≢true h)

pub wants-stage : (s : Side) → IsTrue (wants_reply (desk_of s)) → s.stage ≡ Free
wants-stage s wants = stage-free s.stage (and_parts _ _ (and_parts _ _ wants).0).0

-- and no batch
wants-none : (s : Side) → IsTrue (wants_reply (desk_of s)) → is_empty (answer s.table (Some s.writer.parser) s.ledger.left).batches ≡ true
wants-none s wants = subst (λ t. is_empty (hand_of s.table t s.writer.parser s.ledger.left) ≡ true) (wants-stage s wants) (and_parts _ _ (and_parts _ _ wants).0).1

pub sound-took : (s : Side) (k : Kept) (ready : List Batch) (j : Journal) → IsSound s → IsTrue (wants_reply (desk_of s)) → k ≡ took s.ledger → AreAhead ready (answer s.table (Some s.writer.parser) k.left).batches → j.pieces ≡ s.journal.pieces →
    IsSound (record s { ledger = k; ready = ready; journal = j })
sound-took s k ready j h wants is ahead same = record {
  going = h.going;
  stands = h.stands;
  ahead = subst (λ t. AreAhead ready (hand_of s.table t s.writer.parser k.left)) (sym (wants-stage s wants)) ahead;
  placed =
      placed-journal s.counts.place s.counts.sent_to k s.journal j
      (placed-took s.counts.place s.counts.sent_to s.ledger k s.journal h.placed (left-none s.table s.writer.parser s.ledger.left (wants-none s wants)) is)
      same;
}

-- ---- Arrive

pub sound-arrived : (s : Side) (j : Journal) → IsSound s → j.pieces ≡ s.journal.pieces → IsSound (record s { journal = j })
sound-arrived s j h same = record {
  going = h.going;
  stands = h.stands;
  ahead = h.ahead;
  placed = placed-journal s.counts.place s.counts.sent_to s.ledger s.journal j h.placed same;
}

-- ---- lines that are taken

lines-more : (gs : List (Snapshot (List Line))) (g : Snapshot (List Line)) → lines_given (gs ++ g ∷ []) ≡ lines_given gs ++ g.value
lines-more [] g = append-nil g.value
lines-more (f ∷ gs) g = ap (λ ls. f.value ++ ls) (lines-more gs g) ∙ sym (append_assoc f.value (lines_given gs) g.value)

pub lines-taken : (s s' : Side) (g : Snapshot (List Line)) → s' ≡ record s { writer = record s.writer { lines = [] }; given = s'.given } → s'.given.items ≡ s.given.items ++ g ∷ [] → g.value ≡ s.writer.lines →
    shown_of s' false ≡ record (shown_of s false) { given = lines_given s.given.items ++ s.writer.lines }
lines-taken s s' g is more value =
    let all : lines_given s'.given.items ≡ lines_given s.given.items ++ s.writer.lines = ap lines_given more ∙ (lines-more s.given.items g ∙ ap (λ ls. lines_given s.given.items ++ ls) value) in
    let stays : Side = record s { writer = record s.writer { lines = [] } } in
    ap (λ z. told (lines_given s'.given.items) z) is
    ∙ (ap (λ ls. told ls stays) all
    ∙ ap (λ ls. record (shown_of s false) { desk = record (desk_of s) { own = record (desk_of s).own { side = record (desk_of s).own.side { lines = ls } } }; given = lines_given s.given.items ++ s.writer.lines })
    (append-nil (lines_given s.given.items ++ s.writer.lines)))

stands-taken : (t : Stage) (realm : ℕ) (v : View) → StandsIn t realm v → StandsIn t realm (record v { lines = [] })
stands-taken Free realm v h = record { idle = record { rest = h.idle.rest; pending = h.idle.pending; halted = h.idle.halted }; room = h.room }
stands-taken (Tagged i held) realm v h = record {
  idle = record { rest = h.idle.rest; pending = h.idle.pending; halted = h.idle.halted };
  bound = h.bound;
  holding = record { room = h.holding.room; held_room = h.holding.held_room; apart = h.holding.apart };
}
stands-taken (Waits name held) realm v h = record {
  pending = h.pending;
  halted = h.halted;
  holding = record { room = h.holding.room; held_room = h.holding.held_room; apart = h.holding.apart };
}
stands-taken (Done w in_hand) realm v h = tt

pub sound-taken : (s s' : Side) → s' ≡ record s { writer = record s.writer { lines = [] }; given = s'.given } → IsSound s → IsSound s'
sound-taken s s' is h = subst IsSound (sym is) (record { going = h.going; stands = stands-taken s.stage s.counts.realm s.writer h.stands; ahead = h.ahead; placed = h.placed })

-- room for more was asked for
pub given-same : (s s' : Side) → s' ≡ record s { given = s'.given } → s'.given.items ≡ s.given.items → shown_of s' false ≡ shown_of s false
given-same s s' is same = ap (λ z. told (lines_given s'.given.items) z) is ∙ ap (λ (gs : List (Snapshot (List Line))). told (lines_given gs) s) same

pub sound-given : (s s' : Side) → s' ≡ record s { given = s'.given } → IsSound s → IsSound s'
sound-given s s' is h = subst IsSound (sym is) (record { going = h.going; stands = h.stands; ahead = h.ahead; placed = h.placed })
