-- The document's side of the core is the desk.
use Rattle.std.proofs.Common.{◌≡◌, ◌<◌, true≢false, ℕ, suc, ◌+◌, ◌-◌, nat_lt, Bool, true, false, List, [], ◌∷◌, ◌++◌, length, Option, Some, None, refl, subst, sym, ◌∙◌, ap, append_assoc, arith}
use Rattle.std.proofs.lemmas.Bool.{and_parts}
use Rattle.std.proofs.lemmas.List.{length-append}
use Rattle.std.specs.Prelude.{IsTrue, not, ◌&&◌, is_some}
use Rattle.html_types.specs.declared.ending.Ending.{Ending}
use Rattle.standard.specs.Entities.{Entities}
use Rattle.standard.specs.Parser.{Parser, new_parser}
use Rattle.serial.specs.Serial.{first, reading}
use Rattle.core_definitions.specs.declared.event.Event.{Event}
use Rattle.core_definitions.specs.declared.event.Event.TheVariants.{Send, Pick, Give, Take, Do, Arrive}
use Rattle.core_definitions.specs.Batches.{Piece, Batch}
use Rattle.core_definitions.specs.Verdict.{first_watch}
use Rattle.core_definitions.specs.Settling.{is_empty}
use Rattle.core_definitions.specs.Desk.{Phase, free, tagged, waits, done, Desk, is_free, is_done, outstanding, can_do_in, has_arrived, sends_first, takes, arrives, Moves, MovesBy}
use Rattle.core_definitions.specs.Core.{Setup, whole_page, Request, Reply, Core, first_core, answer_to, reply_to, request_for, enabled, sent_from, picked_from, given_to, takes_reply, taken_from, Steps, Runs}
use Rattle.core_definitions.specs.Journal.{own_events}
use Rattle.core_laws.specs.DeskLaws.{IsReached}
use Rattle.core_laws.specs.CoreLaws.{CoreIsDesk, AlwaysStandsFor, EndsAsSerial, EndStays, LinesBegin, IsIdle, IsOverOrAwaits, NeverStuck}
use Rattle.core_laws.proofs.Cutting.{blank-end, ending-answered}
use Rattle.core_laws.proofs.Ledger.{Piped, Pipe, EndsWith, EndsAt}
use Rattle.core_laws.proofs.Moving.{Holding, moves-hold}
use Rattle.core_laws.proofs.Standing.{first-holds, always-stands_for, ends-as-serial, end-stays, lines-begin}
use Rattle.core_laws.proofs.InStep.{in_hand, replies_to, end_of, under_way, to_come, end_to_come, InStep, UnlessDone, map-unless, unless, in-step-with, replies-more, end-more, sends-in-step, takes-in-step, does-in-step, called-length, ends_at}

some-wait : (k sent taken : ℕ) → suc k + taken ≡ sent → nat_lt 0 (sent - taken) ≡ true
some-wait k sent taken h = grind (arith, h)

module _ (x : Setup) where
  abbrev es : Entities
  es = x.world.entities

  abbrev pub Follows : Core → Type 0
  Follows c = UnlessDone c.desk.phase (InStep es c.desk (to_come es c) (end_to_come es c))

  pub record Together (c : Core) : Type 0 where
    pub holds : Holding x.ending x.world (reading (first (whole_page x))) (first_watch (whole_page x)) c.desk
    pub follows : Follows c

  moved : (c c' : Core) (v : Event) → Together c → Moves x.ahead x.world v c.desk c'.desk → Follows c' → Together c'
  moved c c' v t m f = record { holds = moves-hold x.ending x.world (reading (first (whole_page x))) (first_watch (whole_page x)) x.ahead v c.desk c'.desk m t.holds; follows = f }

  -- ---- Send

  sent-follows : (c : Core) (ps : List Piece) → c.desk.to_send ≡ ps → IsTrue (not (is_empty ps)) → Follows c → Follows (sent_from ps c)
  sent-follows c [] q some f = absurd (true≢false (sym some))
  sent-follows c (y ∷ ys) q some f =
      let d : Desk = c.desk in
      let r : Request = request_for d y in
      let d' : Desk = record d { asked = d.asked ++ y ∷ []; to_send = ys; begins = None; sent = suc d.sent } in
      let is : sends_first d.to_send d ≡ d' = ap (λ ps. sends_first ps d) q in
      let last : Option Parser = end_to_come es c in
      let more : in_hand c.work.hand ++ (c.requests ++ r ∷ []) ≡ under_way c ++ r ∷ [] = sym (append_assoc (in_hand c.work.hand) c.requests (r ∷ [])) in
      let reply : Reply = reply_to r (answer_to es last r).batches in
      let all : to_come es c ++ reply ∷ [] ≡ c.replies ++ replies_to es c.work.parser (in_hand c.work.hand ++ (c.requests ++ r ∷ [])) =
      append_assoc c.replies (replies_to es c.work.parser (under_way c)) (reply ∷ [])
      ∙ (ap (λ rs. c.replies ++ rs) (sym (replies-more es c.work.parser (under_way c) r)) ∙ ap (λ rs. c.replies ++ replies_to es c.work.parser rs) (sym more)) in
      let end : (answer_to es last r).parser ≡ end_of es c.work.parser (in_hand c.work.hand ++ (c.requests ++ r ∷ [])) =
      sym (end-more es c.work.parser (under_way c) r) ∙ ap (end_of es c.work.parser) (sym more) in
      subst (λ z. UnlessDone z.phase (InStep es z (to_come es (sent_from (y ∷ ys) c)) (end_to_come es (sent_from (y ∷ ys) c)))) (sym is)
      (map-unless d.phase _ _ (λ s. subst (λ l. InStep es d' (to_come es (sent_from (y ∷ ys) c)) l) end (subst (λ rs. InStep es d' rs (answer_to es last r).parser) all (sends-in-step es d (to_come es c) last y ys s))) f)

  pub sent-desk : (c : Core) (ps : List Piece) → IsTrue (not (is_empty ps)) → (sent_from ps c).desk ≡ sends_first c.desk.to_send c.desk
  sent-desk c [] some = absurd (true≢false (sym some))
  sent-desk c (y ∷ ys) some = refl

  -- ---- Pick

  picked-follows : (c : Core) (h : Option Request) (rs : List Request) → c.work.hand ≡ h → c.requests ≡ rs → IsTrue (not (is_some h)) → IsTrue (not (is_empty rs)) → Follows c → Follows (picked_from rs c)
  picked-follows c None [] q q' none some f = absurd (true≢false (sym some))
  picked-follows c None (r ∷ rs) q q' none some f =
      let is : under_way c ≡ r ∷ rs = ap (λ h. in_hand h ++ c.requests) q ∙ ap (λ ys. [] ++ ys) q' in
      subst (λ u. UnlessDone c.desk.phase (InStep es c.desk (c.replies ++ replies_to es c.work.parser u) (end_of es c.work.parser u))) is f
  picked-follows c (Some y) rs q q' none some f = absurd (true≢false (sym none))

  picked-desk : (c : Core) (rs : List Request) → (picked_from rs c).desk ≡ c.desk
  picked-desk c [] = refl
  picked-desk c (r ∷ rs) = refl

  -- ---- Give

  given-follows : (c : Core) (h : Option Request) → c.work.hand ≡ h → Follows c → Follows (given_to h es c)
  given-follows c None q f = f
  given-follows c (Some r) q f =
      let a = answer_to es c.work.parser r in
      let here : UnlessDone c.desk.phase (InStep es c.desk (c.replies ++ (reply_to r a.batches ∷ replies_to es a.parser c.requests)) (end_of es a.parser c.requests)) =
      subst (λ h. UnlessDone c.desk.phase (InStep es c.desk (c.replies ++ replies_to es c.work.parser (in_hand h ++ c.requests)) (end_of es c.work.parser (in_hand h ++ c.requests)))) q f in
      subst (λ all. UnlessDone c.desk.phase (InStep es c.desk all (end_of es a.parser c.requests))) (sym (append_assoc c.replies (reply_to r a.batches ∷ []) (replies_to es a.parser c.requests))) here

  given-desk : (c : Core) (h : Option Request) → (given_to h es c).desk ≡ c.desk
  given-desk c None = refl
  given-desk c (Some r) = refl

  -- ---- Take

  pub free-of : (p : Phase) → is_free p ≡ true → p ≡ free
  free-of free q = refl
  free-of (tagged i held) q = absurd (true≢false (sym q))
  free-of (waits name held) q = absurd (true≢false (sym q))
  free-of (done r) q = absurd (true≢false (sym q))

  nil-of : {A : Type 0} (bs : List A) → is_empty bs ≡ true → bs ≡ []
  nil-of [] q = refl
  nil-of (b ∷ bs) q = absurd (true≢false (sym q))

  pub both : (a b : Bool) → a ≡ true → b ≡ true → (a && b) ≡ true
  both a b p q = ap (λ y. y && b) p ∙ q

  abbrev Took : Core → Core → Type 0
  Took c c' = Moves x.ahead x.world Take c.desk c'.desk × Follows c'

  taken : (c : Core) (rs : List Reply) → c.replies ≡ rs → IsTrue (is_free c.desk.phase && is_empty c.desk.hand) → IsTrue (not (is_empty rs)) → Together c → Took c (taken_from rs c)
  taken c [] q idle some t = absurd (true≢false (sym some))
  taken c (r ∷ rs) q idle some t =
      let d : Desk = c.desk in
      let at_free : d.phase ≡ free = free-of d.phase (and_parts _ _ idle).0 in
      let nil : d.hand ≡ [] = nil-of d.hand (and_parts _ _ idle).1 in
      let rest : List Reply = rs ++ replies_to es c.work.parser (under_way c) in
      let s : InStep es d (r ∷ rest) (end_to_come es c) =
      subst (λ ys. InStep es d (ys ++ replies_to es c.work.parser (under_way c)) (end_to_come es c)) q (subst (λ p. UnlessDone p (InStep es d (to_come es c) (end_to_come es c))) at_free t.follows) in
      let took = takes-in-step es x.ending d r rest (end_to_come es c) at_free nil (subst (λ p. Pipe es x.ending p d) at_free t.holds.pipe) s in
      let count : length (r ∷ rest) + d.taken ≡ d.sent = s.count in
      let waits_ : nat_lt 0 (outstanding d) ≡ true = some-wait (length rest) d.sent d.taken count in
      let back : takes es d ≡ takes_reply r d = sym took.0 in (
        (both (is_free d.phase && is_empty d.hand) (nat_lt 0 (outstanding d)) idle waits_, took.0),
        subst (λ z. UnlessDone z.phase (InStep es z rest (end_to_come es c))) back (unless (takes es d).phase (InStep es (takes es d) rest (end_to_come es c)) took.1),
      )

  -- ---- each event

  abbrev Moved : Event → Core → Core → Type 0
  Moved v c c' = MovesBy x.ahead x.world (own_events (v ∷ [])) c.desk c'.desk × Together c'

  one-move : (v : Event) (c c' : Core) → own_events (v ∷ []) ≡ v ∷ [] → Moves x.ahead x.world v c.desk c'.desk → Together c → Follows c' → Moved v c c'
  one-move v c c' own m t f = (subst (λ vs. MovesBy x.ahead x.world vs c.desk c'.desk) (sym own) (c'.desk, m, refl), moved c c' v t m f)

  same-desk : (v : Event) (c c' : Core) → own_events (v ∷ []) ≡ [] → c'.desk ≡ c.desk → Together c → Follows c' → Moved v c c'
  same-desk v c c' own q t f = (
    subst (λ vs. MovesBy x.ahead x.world vs c.desk c'.desk) (sym own) q,
    record { holds = subst (λ z. Holding x.ending x.world (reading (first (whole_page x))) (first_watch (whole_page x)) z) (sym q) t.holds; follows = f },
  )

  pub steps-together : (v : Event) (c c' : Core) → IsTrue (enabled x v c) → Steps x v c c' → Together c → Moved v c c'
  steps-together Send c c' can is t =
      let some : IsTrue (not (is_empty c.desk.to_send)) = (and_parts _ _ can).1 in
      subst (Moved Send c) (sym is) (one-move Send c (sent_from c.desk.to_send c) refl (can, sent-desk c c.desk.to_send some) t (sent-follows c c.desk.to_send refl some t.follows))
  steps-together Pick c c' can is t =
      subst (Moved Pick c) (sym is) (same-desk Pick c (picked_from c.requests c) refl (picked-desk c c.requests) t (picked-follows c c.work.hand c.requests refl refl (and_parts _ _ can).0 (and_parts _ _ can).1 t.follows))
  steps-together Give c c' can is t =
      subst (Moved Give c) (sym is) (same-desk Give c (given_to c.work.hand es c) refl (given-desk c c.work.hand) t (given-follows c c.work.hand refl t.follows))
  steps-together Take c c' can is t =
      let took = taken c c.replies refl (and_parts _ _ can).0 (and_parts _ _ can).1 t in
      subst (Moved Take c) (sym is) (one-move Take c (taken_from c.replies c) refl took.0 t took.1)
  steps-together Do c c' can (d, does, is) t =
      subst (Moved Do c) (sym is)
      (one-move Do c (record c { desk = d }) refl (can, does) t (does-in-step es (to_come es c) (end_to_come es c) x.ending x.world c.desk.phase c.desk d refl t.holds.pipe t.follows does))
  steps-together (Arrive name) c c' can is t =
      subst (Moved (Arrive name) c) (sym is) (one-move (Arrive name) c (record c { desk = arrives name c.desk }) refl (can, refl) t
      (map-unless c.desk.phase _ _ (λ s. in-step-with es c.desk (to_come es c) (end_to_come es c) c.desk.phase c.desk.own c.desk.hand c.desk.left c.desk.to_send c.desk.realm c.desk.dropped (name ∷ c.desk.arrived) s refl) t.follows))

  -- ---- a run

  moves-then : (vs us : List Event) (a b c : Desk) → MovesBy x.ahead x.world vs a b → MovesBy x.ahead x.world us b c → MovesBy x.ahead x.world (vs ++ us) a c
  moves-then [] us a b c p q = subst (λ z. MovesBy x.ahead x.world us z c) p q
  moves-then (v ∷ vs) us a b c (d, m, p) q = (d, m, moves-then vs us d b c p q)

  own-one : (v : Event) (vs : List Event) → own_events (v ∷ []) ++ own_events vs ≡ own_events (v ∷ vs)
  own-one Send vs = refl
  own-one Pick vs = refl
  own-one Give vs = refl
  own-one Take vs = refl
  own-one Do vs = refl
  own-one (Arrive name) vs = refl

  pub runs-together : (vs : List Event) (c c' : Core) → Runs x vs c c' → Together c → MovesBy x.ahead x.world (own_events vs) c.desk c'.desk × Together c'
  runs-together [] c c' is t = (ap (λ (z : Core). z.desk) is, subst Together (sym is) t)
  runs-together (v ∷ vs) c c' (c1, can, step, rest) t =
      let one = steps-together v c c1 can step t in
      let more = runs-together vs c1 c' rest one.1 in
      (subst (λ us. MovesBy x.ahead x.world us c.desk c'.desk) (own-one v vs) (moves-then (own_events (v ∷ [])) (own_events vs) c.desk c1.desk c'.desk one.0 more.0), more.1)

  pub first-together : Together (first_core x)
  first-together = record {
    holds = first-holds x;
    follows = record { count = refl; old = []; new = []; are = refl; ended = tt; called = tt; next = sym (blank-end es (new_parser 0)) };
  }

  pub reached-together : (vs : List Event) (c : Core) → Runs x vs (first_core x) c → IsReached x (own_events vs) c.desk × Together c
  reached-together vs c h = runs-together vs (first_core x) c h first-together

pub core-is_desk : CoreIsDesk
core-is_desk x vs c h = (reached-together x vs c h).0

-- ---- the desk's laws

pub core-stands_for : AlwaysStandsFor
core-stands_for x vs us c c' h g =
    let here = reached-together x vs c h in
    always-stands_for x (own_events vs) (own_events us) c.desk c'.desk here.0 (runs-together x us c c' g here.1).0

pub core-ends : EndsAsSerial
core-ends x vs c r o h q is = ends-as-serial x (own_events vs) c.desk r o (core-is_desk x vs c h) q is

pub core-end_stays : EndStays
core-end_stays x vs us c c' r h q g = end-stays x.ahead x.world (own_events us) c.desk c'.desk r q (runs-together x us c c' g (reached-together x vs c h).1).0

pub core-lines : LinesBegin
core-lines x vs c o h is = lines-begin x (own_events vs) c.desk o (core-is_desk x vs c h) is

-- ---- never stuck

is_arrival : Event → Bool
is_arrival (Arrive name) = true
is_arrival v = false

module _ (x : Setup) (c : Core) (some : 0 < x.ahead) (t : Together x c) (idle : IsIdle x c) where
  -- an event that isn't an arrival is not enabled
  disabled : (v : Event) → is_arrival v ≡ false → IsTrue (enabled x v c) → ⊥
  unfolding is_arrival
  disabled v q can =
      let arrival = idle v can in
      true≢false (sym (ap is_arrival arrival.1) ∙ q)

  no-batch : (bs : List Batch) → c.desk.phase ≡ free → c.desk.hand ≡ bs → bs ≡ []
  unfolding is_arrival
  no-batch [] at_free q = refl
  no-batch (b ∷ bs) at_free q = absurd (disabled Do refl (ap (λ p. can_do_in p c.desk) at_free ∙ ap (λ h. not (is_empty h)) q))

  no-reply : (rs : List Reply) → c.desk.phase ≡ free → c.desk.hand ≡ [] → c.replies ≡ rs → rs ≡ []
  unfolding is_arrival
  no-reply [] at_free nil q = refl
  no-reply (r ∷ rs) at_free nil q =
      absurd (disabled Take refl (both x (is_free c.desk.phase && is_empty c.desk.hand) (not (is_empty c.replies)) (both x (is_free c.desk.phase) (is_empty c.desk.hand) (ap is_free at_free) (ap is_empty nil)) (ap (λ ys. not (is_empty ys)) q)))

  no-hand : (h : Option Request) → c.work.hand ≡ h → h ≡ None
  unfolding is_arrival
  no-hand None q = refl
  no-hand (Some r) q = absurd (disabled Give refl (ap is_some q))

  no-request : (rs : List Request) → c.work.hand ≡ None → c.requests ≡ rs → rs ≡ []
  unfolding is_arrival
  no-request [] none q = refl
  no-request (r ∷ rs) none q =
      absurd (disabled Pick refl (both x (not (is_some c.work.hand)) (not (is_empty c.requests)) (ap (λ h. not (is_some h)) none) (ap (λ ys. not (is_empty ys)) q)))

  no-piece : (ps : List Piece) → c.desk.phase ≡ free → outstanding c.desk ≡ 0 → c.desk.to_send ≡ ps → ps ≡ []
  unfolding is_arrival
  no-piece [] at_free none q = refl
  no-piece (p ∷ ps) at_free none q =
      let credit : nat_lt (outstanding c.desk) x.ahead ≡ true = grind (arith, none, some) in
      absurd (disabled Send refl (both x (not (is_done c.desk.phase) && nat_lt (outstanding c.desk) x.ahead) (not (is_empty c.desk.to_send)) (both x (not (is_done c.desk.phase)) (nat_lt (outstanding c.desk) x.ahead) (ap (λ f. not (is_done f)) at_free) credit) (ap (λ ys. not (is_empty ys)) q)))

  nothing-asked : (ps : List Piece) (k : ℕ) → length ps ≡ k → k ≡ 0 → ps ≡ []
  nothing-asked [] k q z = refl
  nothing-asked (p ∷ ps) k q z = absurd (grind (arith, q, z))

  no-ending : (o : Option Ending) → c.desk.left.ending ≡ o → c.desk.hand ≡ [] → Piped (es x) x.ending c.desk.own.parser c.desk → EndsAt o [] x.ending ⊥ → ⊥
  no-ending None q nil p ends = ends
  no-ending (Some e) q nil p ends = ending-answered (es x) c.desk.own.parser c.desk.left e q (sym nil ∙ p.hand)

  never-free : c.desk.phase ≡ free → ⊥
  never-free at_free =
      let d : Desk = c.desk in
      let nil : d.hand ≡ [] = no-batch d.hand at_free refl in
      let replies : c.replies ≡ [] = no-reply c.replies at_free nil refl in
      let none : c.work.hand ≡ None = no-hand c.work.hand refl in
      let requests : c.requests ≡ [] = no-request c.requests none refl in
      let way : under_way c ≡ [] = ap (λ h. in_hand h ++ c.requests) none ∙ ap (λ rs. [] ++ rs) requests in
      let all : to_come (es x) c ≡ [] = ap (λ rs. rs ++ replies_to (es x) c.work.parser (under_way c)) replies ∙ ap (λ u. [] ++ replies_to (es x) c.work.parser u) way in
      let s : InStep (es x) d (to_come (es x) c) (end_to_come (es x) c) = subst (λ p. UnlessDone p (InStep (es x) d (to_come (es x) c) (end_to_come (es x) c))) at_free t.follows in
      let zero_ : length (to_come (es x) c) ≡ 0 = ap (λ rs. length rs) all in
      let quiet : outstanding d ≡ 0 = omega (arith, s.count, zero_) in
      let parts : length (to_come (es x) c) ≡ length s.old + length s.new = ap (λ rs. length rs) s.are ∙ length-append s.old s.new in
      let none_new : length s.new ≡ 0 = omega (arith, parts, zero_) in
      let asked : d.asked ≡ [] = nothing-asked d.asked (length s.new) (called-length (es x) d.epoch (ends_at (es x) d) d.asked s.new s.called) none_new in
      let to_send : d.to_send ≡ [] = no-piece d.to_send at_free quiet refl in
      let p : Piped (es x) x.ending d.own.parser d = subst (λ f. Pipe (es x) x.ending f d) at_free t.holds.pipe in
      let last : d.asked ++ d.to_send ≡ [] = ap (λ ps. ps ++ d.to_send) asked ∙ ap (λ ps. [] ++ ps) to_send in
      no-ending d.left.ending refl nil p (subst (λ ps. EndsWith (d.left ∷ ps) x.ending) last p.pieces)

  never : (p : Phase) → c.desk.phase ≡ p → IsOverOrAwaits p c.desk
  unfolding is_arrival
  never free q = never-free q
  never (tagged i held) q = disabled Do refl (ap (λ p. can_do_in p c.desk) q)
  never (waits name held) q = by (has_arrived name c.desk) refl
    where
      by : (b : Bool) → has_arrived name c.desk ≡ b → b ≡ false
      by false e = refl
      by true e = absurd (disabled Do refl (ap (λ p. can_do_in p c.desk) q ∙ e))
  never (done r) q = tt

pub never-stuck : NeverStuck
never-stuck x vs c some h idle = never x c some (reached-together x vs c h).1 idle c.desk.phase refl
