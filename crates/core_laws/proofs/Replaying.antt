-- A run of the document's side is one of the core, in which each reply is picked and given just before it is taken.
use Rattle.std.proofs.Common.{◌≡◌, true≢false, ℕ, ◌-◌, nat_lt, true, List, [], ◌∷◌, ◌++◌, length, Option, Some, None, refl, subst, sym, ◌∙◌, ap, arith}
use Rattle.std.proofs.lemmas.Bool.{and_parts}
use Rattle.std.specs.Prelude.{IsTrue, not, ◌&&◌, is_some}
use Rattle.html_types.specs.declared.ending.Ending.{Ending}
use Rattle.standard.specs.Entities.{Entities}
use Rattle.serial.specs.Serial.{Serial}
use Rattle.core_definitions.specs.declared.event.Event.{Event}
use Rattle.core_definitions.specs.declared.event.Event.TheVariants.{Send, Pick, Give, Take, Do, Arrive}
use Rattle.core_definitions.specs.Batches.{Piece}
use Rattle.core_definitions.specs.Settling.{is_empty}
use Rattle.core_definitions.specs.Desk.{Desk, first_desk, pieces_with, with_more, is_free, arrives, Moves, MovesBy}
use Rattle.core_definitions.specs.Core.{Setup, Request, Reply, Core, first_core, answer_to, reply_to, enabled, sent_from, picked_from, given_to, taken_from, Steps, Runs}
use Rattle.core_definitions.specs.Journal.{with_replies, IsPageOf}
use Rattle.core_laws.specs.DeskLaws.{IsReached}
use Rattle.core_laws.specs.Replaying.{DeskIsCore, JournalsReplay, JournalsAreReached}
use Rattle.core_laws.proofs.InStep.{in_hand, replies_to, under_way, to_come, end_to_come, InStep, UnlessDone}
use Rattle.core_laws.proofs.Together.{Together, steps-together, first-together, both, free-of, sent-desk}
use Rattle.core_laws.proofs.Handing.{more-may_follow}

none-waits : (sent taken : ℕ) → taken ≡ sent → nat_lt 0 (sent - taken) ≡ true → ⊥
none-waits sent taken q h = true≢false (sym h ∙ grind (arith, q))

module _ (x : Setup) where
  abbrev es : Entities
  es = x.world.entities

  runs-then : (vs us : List Event) (a b c : Core) → Runs x vs a b → Runs x us b c → Runs x (vs ++ us) a c
  runs-then [] us a b c p q = subst (λ z. Runs x us z c) p q
  runs-then (v ∷ vs) us a b c (d, can, step, p) q = (d, can, step, runs-then vs us d b c p q)

  reply-one : (v : Event) (vs : List Event) → with_replies (v ∷ []) ++ with_replies vs ≡ with_replies (v ∷ vs)
  reply-one Send vs = refl
  reply-one Pick vs = refl
  reply-one Give vs = refl
  reply-one Take vs = refl
  reply-one Do vs = refl
  reply-one (Arrive name) vs = refl

  -- the parser's side has nothing in hand, and no reply stands
  record Quiet (c : Core) : Type 0 where
    hand : c.work.hand ≡ None
    replies : c.replies ≡ []

  abbrev Replayed : Event → Core → Desk → Type 0
  Replayed v c d' = (c' : Core) × Runs x (with_replies (v ∷ [])) c c' × (c'.desk ≡ d') × Quiet c' × Together x c'

  one : (v : Event) (c c' : Core) (d' : Desk) → with_replies (v ∷ []) ≡ v ∷ [] → IsTrue (enabled x v c) → Steps x v c c' → c'.desk ≡ d' → Quiet c' → Together x c → Replayed v c d'
  one v c c' d' q can step is quiet t = (c', subst (λ vs. Runs x vs c c') (sym q) (c', can, step, refl), is, quiet, (steps-together x v c c' can step t).1)

  sent-quiet : (c : Core) (ps : List Piece) → Quiet c → Quiet (sent_from ps c)
  sent-quiet c [] q = q
  sent-quiet c (y ∷ ys) q = record { hand = q.hand; replies = q.replies }

  -- Pick, Give, Take
  takes-replayed : (c : Core) (rs : List Request) (d' : Desk) → c.requests ≡ rs → Quiet c → Together x c → Moves x.ahead x.world Take c.desk d' → Replayed Take c d'
  takes-replayed c [] d' q quiet t (can, is) =
      let d : Desk = c.desk in
      let idle = (and_parts _ _ can).0 in
      let s : InStep es d (to_come es c) (end_to_come es c) = subst (λ p. UnlessDone p (InStep es d (to_come es c) (end_to_come es c))) (free-of x d.phase (and_parts _ _ idle).0) t.follows in
      let way : under_way c ≡ [] = ap (λ h. in_hand h ++ c.requests) quiet.hand ∙ ap (λ ys. [] ++ ys) q in
      let all : to_come es c ≡ [] = ap (λ ys. ys ++ replies_to es c.work.parser (under_way c)) quiet.replies ∙ ap (λ u. [] ++ replies_to es c.work.parser u) way in
      let zero_ : length (to_come es c) ≡ 0 = ap (λ ys. length ys) all in
      let same : d.taken ≡ d.sent = omega (arith, s.count, zero_) in
      absurd (none-waits d.sent d.taken same (and_parts _ _ can).1)
  takes-replayed c (r ∷ rs) d' q quiet t (can, is) =
      let d : Desk = c.desk in
      let a = answer_to es c.work.parser r in
      let reply : Reply = reply_to r a.batches in
      let c1 : Core = record c { requests = rs; work = record c.work { hand = Some r } } in
      let c2 : Core = record c { requests = rs; work = record { hand = None; parser = a.parser }; replies = reply ∷ [] } in
      let c3 : Core = taken_from (reply ∷ []) c2 in
      let can1 : IsTrue (enabled x Pick c) = both x (not (is_some c.work.hand)) (not (is_empty c.requests)) (ap (λ h. not (is_some h)) quiet.hand) (ap (λ ys. not (is_empty ys)) q) in
      let step1 : c1 ≡ picked_from c.requests c = ap (λ ys. picked_from ys c) (sym q) in
      let step2 : c2 ≡ given_to (Some r) es c1 = ap (λ ys. record c2 { replies = ys ++ reply ∷ [] }) (sym quiet.replies) in
      let t1 : Together x c1 = (steps-together x Pick c c1 can1 step1 t).1 in
      let t2 : Together x c2 = (steps-together x Give c1 c2 refl step2 t1).1 in
      let idle : IsTrue (is_free d.phase && is_empty d.hand) = (and_parts _ _ can).0 in
      let can3 : IsTrue (enabled x Take c2) = both x (is_free d.phase && is_empty d.hand) true idle refl in
      let took = steps-together x Take c2 c3 can3 refl t2 in
      let (d1, moves, same) = took.0 in (
        c3,
        (c1, can1, step1, (c2, refl, step2, (c3, can3, refl, refl))),
        same ∙ (moves.1 ∙ sym is),
        record { hand = refl; replies = refl },
        took.1,
      )

  replays-one : (v : Event) (c : Core) (d' : Desk) → Quiet c → Together x c → Moves x.ahead x.world v c.desk d' → Replayed v c d'
  replays-one Send c d' quiet t (can, is) =
      let some : IsTrue (not (is_empty c.desk.to_send)) = (and_parts _ _ can).1 in
      one Send c (sent_from c.desk.to_send c) d' refl can refl (sent-desk x c c.desk.to_send some ∙ sym is) (sent-quiet c c.desk.to_send quiet) t
  replays-one Pick c d' quiet t m = absurd m
  replays-one Give c d' quiet t m = absurd m
  replays-one Take c d' quiet t m = takes-replayed c c.requests d' refl quiet t m
  replays-one Do c d' quiet t (can, does) = one Do c (record c { desk = d' }) d' refl can (d', does, refl) refl (record { hand = quiet.hand; replies = quiet.replies }) t
  replays-one (Arrive name) c d' quiet t (can, is) =
      one (Arrive name) c (record c { desk = arrives name c.desk }) d' refl can refl (sym is) (record { hand = quiet.hand; replies = quiet.replies }) t

  replays : (vs : List Event) (c : Core) (d' : Desk) → Quiet c → Together x c → MovesBy x.ahead x.world vs c.desk d' → (c' : Core) × Runs x (with_replies vs) c c' × (c'.desk ≡ d')
  replays [] c d' quiet t is = (c, refl, sym is)
  replays (v ∷ vs) c d' quiet t (d1, moves, rest) =
      let (c1, run, is, quiet1, t1) = replays-one v c d1 quiet t moves in
      let more = replays vs c1 d' quiet1 t1 (subst (λ z. MovesBy x.ahead x.world vs z d') (sym is) rest) in
      (more.0, subst (λ us. Runs x us c more.0) (reply-one v vs) (runs-then (with_replies (v ∷ [])) (with_replies vs) c c1 more.0 run more.1), more.2)

pub desk-is_core : DeskIsCore
desk-is_core x vs d h = replays x vs (first_core x) d (record { hand = refl; replies = refl }) (first-together x) h

-- ---- journals

pieces-more : (ts us : List (List ℕ)) (e : Ending) → pieces_with ts None ++ pieces_with us (Some e) ≡ pieces_with (ts ++ us) (Some e)
pieces-more [] us e = refl
pieces-more (t ∷ ts) us e = ap (λ ps. record { text = t; ending = None } ∷ ps) (pieces-more ts us e)

abbrev Reaches : Setup → List Event → Desk → Type 0
Reaches x vs d = (d' : Desk) × IsReached x vs d' × (d'.own ≡ d.own) × (d'.phase ≡ d.phase)

journal-reaches : (ahead : ℕ) (x : Setup) (o : Option Ending) (pieces : List (List ℕ)) (vs : List Event) (d : Desk) → x.ahead ≡ ahead → IsPageOf o pieces x →
    MovesBy ahead x.world vs (first_desk (pieces_with pieces o)) d → Reaches x vs d
journal-reaches ahead x None pieces vs d q (more, all) h =
    let behind : List Piece = pieces_with more (Some x.ending) in
    let moved : MovesBy ahead x.world vs (first_desk (pieces_with pieces None ++ behind)) (with_more behind d) = more-may_follow ahead x.world vs behind (first_desk (pieces_with pieces None)) d h in
    let whole : pieces_with pieces None ++ behind ≡ pieces_with x.pieces (Some x.ending) = pieces-more pieces more x.ending ∙ ap (λ ts. pieces_with ts (Some x.ending)) (sym all) in (
      with_more behind d,
      subst (λ n. MovesBy n x.world vs (first_desk (pieces_with x.pieces (Some x.ending))) (with_more behind d)) (sym q)
          (subst (λ ps. MovesBy ahead x.world vs (first_desk ps) (with_more behind d)) whole moved),
      refl,
      refl,
    )
journal-reaches ahead x (Some e) pieces vs d q (all, end) h =
    let whole : pieces_with pieces (Some e) ≡ pieces_with x.pieces (Some x.ending) = ap (λ ts. pieces_with ts (Some e)) (sym all) ∙ ap (λ y. pieces_with x.pieces (Some y)) (sym end) in
    (d, subst (λ n. MovesBy n x.world vs (first_desk (pieces_with x.pieces (Some x.ending))) d) (sym q) (subst (λ ps. MovesBy ahead x.world vs (first_desk ps) d) whole h), refl, refl)

pub journals-are_reached : JournalsAreReached
journals-are_reached es ahead j d h x run = journal-reaches ahead x j.ending j.pieces j.events d run.credit run.page (h x.world run.entities run.fetches)

pub journals-replay : JournalsReplay
journals-replay es ahead j d h x run =
    let (d', reached, own, phase) = journals-are_reached es ahead j d h x run in
    let (c, core_run, is) = desk-is_core x j.events d' reached in
    (c, core_run, ap (λ (z : Desk). z.own.side) is ∙ ap (λ (o : Serial). o.side) own, ap (λ (z : Desk). z.phase) is ∙ phase)
