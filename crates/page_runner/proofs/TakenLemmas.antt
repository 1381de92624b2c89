-- Each Take of a journal takes the reply that stands at its place among those that came.
use Rattle.std.proofs.Common.{◌≡◌, ◌≤◌, ◌<◌, true≢false, ℕ, zero, suc, ◌+◌, ◌-◌, nat_lt, Bool, true, false, List, [], ◌∷◌, ◌++◌, length, map, Option, Some, None, refl, sym, ◌∙◌, ap, subst, inl, inr, append-nil, append_assoc, length-append, arith}
use Rattle.std.specs.Prelude.{◌⊎◌, IsTrue, not, ◌&&◌, is_some, slice_get, if◌then◌else◌}
use Rattle.std.proofs.lemmas.Bool.{and_parts}
use Rattle.std.proofs.lemmas.List.{map-append}
use mathlib.Core.List.{IsPrefix}
use Rattle.standard.specs.Entities.{Entities}
use Rattle.standard.specs.Parser.{Parser}
use Rattle.core_definitions.specs.declared.event.Event.{Event}
use Rattle.core_definitions.specs.declared.event.Event.TheVariants.{Send, Pick, Give, Take, Do, Arrive}
use Rattle.core_definitions.specs.Batches.{Piece}
use Rattle.core_definitions.specs.Core.{Setup, Request, Reply, Core, first_core, first_work, answer_to, reply_to, request_for, enabled, sent_from, picked_from, taken_from, takes_reply}
use Rattle.core_definitions.specs.Desk.{Desk, first_desk, pieces_with, is_free, outstanding, stale, can_send, wants_reply, sends_first, sends, with_batches, drops, answer_called_for, takes, arrives, Moves}
use Rattle.core_definitions.specs.Settling.{is_empty}
use Rattle.core_definitions.specs.Journal.{Journal}
use Rattle.core_laws.proofs.Together.{Together, steps-together, first-together, both}
use Rattle.run_laws.specs.Along.{MovesWith, HoldsAlong, IsForFirst, takes_in}
use Rattle.speculation.specs.declared.in_force.InForce as InForce
use Rattle.speculation.specs.Asking.{Asked, Told}
use Rattle.parser_thread.specs.declared.messages.ToParser.{ToParser}
use Rattle.parser_thread.specs.declared.messages.ToParser.TheVariants.{Ask, Stop}
use Rattle.parser_thread.specs.declared.running.Lanes.{Lanes}
use Rattle.parser_thread.specs.Answers.{told_to, end_of, answers, after, said, Worked}
use Rattle.page_turns.specs.Along.{AsksOf, requests_of}
use Rattle.page_turns.specs.Messages.{Message, AreReplies}
use Rattle.page_turns.proofs.DeskLemmas.{does-keeps}
use Rattle.page_runner.specs.declared.status.Status.{Status}
use Rattle.page_runner.specs.OnTwo.{TakesOf, AreRepliesAt, InOrder, IsAnswered}

-- ---- lists

get-behind : {A : Type 0} (xs ys : List A) → slice_get (xs ++ ys) (length xs) ≡ slice_get ys 0
get-behind [] ys = refl
get-behind (x ∷ xs) ys = get-behind xs ys

get-front : {A : Type 0} (xs ys : List A) (k : ℕ) (x : A) → slice_get xs k ≡ Some x → slice_get (xs ++ ys) k ≡ Some x
get-front [] ys k x at = absurd (cc at)
get-front (z ∷ xs) ys zero x at = at
get-front (z ∷ xs) ys (suc k) x at = get-front xs ys k x at

get-there : {A : Type 0} (xs : List A) (k : ℕ) → k < length xs → (x : A) × (slice_get xs k ≡ Some x)
get-there [] k less = absurd (omega (arith, less))
get-there (x ∷ xs) zero less = (x, refl)
get-there (x ∷ xs) (suc k) less = get-there xs k (omega (arith, less))

get-some : {A : Type 0} (xs : List A) (more : List (Option A)) (k : ℕ) (x : A) → slice_get xs k ≡ Some x → slice_get (map Some xs ++ more) k ≡ Some (Some x)
get-some [] more k x at = absurd (cc at)
get-some (z ∷ xs) more zero x at = ap Some at
get-some (z ∷ xs) more (suc k) x at = get-some xs more k x at

some-same : {A : Type 0} (a b : A) → Some a ≡ Some b → a ≡ b
some-same a b e = cc e

head-same : {A : Type 0} (a b : A) (xs ys : List A) → a ∷ xs ≡ b ∷ ys → a ≡ b
head-same a b xs ys e = cc e

tail-same : {A : Type 0} (a b : A) (xs ys : List A) → a ∷ xs ≡ b ∷ ys → xs ≡ ys
tail-same a b xs ys e = cc e

-- ---- what the parser's side answers

module _ (es : Entities) where
  pub answers-at : (last : Option Parser) (done : List Asked) (a : Asked) (rest : List Asked) → slice_get (answers es last (done ++ a ∷ rest)) (length done) ≡ Some (told_to es (after es last done) a)
  answers-at last [] a rest = refl
  answers-at last (q ∷ qs) a rest = answers-at (end_of es last q) qs a rest

  after-more : (last : Option Parser) (done : List Asked) (a : Asked) → after es last (done ++ a ∷ []) ≡ end_of es (after es last done) a
  after-more last [] a = refl
  after-more last (q ∷ qs) a = after-more (end_of es last q) qs a

  answers-front : (last : Option Parser) (qs more : List Asked) (k : ℕ) (t : Told) → slice_get (answers es last qs) k ≡ Some t → slice_get (answers es last (qs ++ more)) k ≡ Some t
  answers-front last [] more k t at = absurd (cc at)
  answers-front last (q ∷ qs) more zero t at = at
  answers-front last (q ∷ qs) more (suc k) t at = answers-front (end_of es last q) qs more k t at

-- ---- a run of both sides, in which each reply is given just before it is taken

module _ (x : Setup) (pieces : List (List ℕ)) (asks : List Asked) where
  abbrev es : Entities
  es = x.world.entities

  -- These requests are answered, these wait, and these come after.
  record Stands (c : Core) : Type 0 where
    done : List Asked
    waiting : List Asked
    more : List Asked
    together : Together x c
    hand : c.work.hand ≡ None
    replies : c.replies ≡ []
    requests : c.requests ≡ requests_of waiting
    parser : c.work.parser ≡ after es first_work.parser done
    all : asks ≡ done ++ (waiting ++ more)
    taken : c.desk.taken ≡ length done
    sent : c.desk.sent ≡ length done + length waiting

  -- the answer at its place is what the Take takes
  abbrev Answers : Event → Desk → Type 0
  Answers Take d = (t : Told) × (slice_get (answers es first_work.parser asks) d.taken ≡ Some t) × (takes es d ≡ takes_reply t.reply d)
  Answers _ d = Unit {0}

  -- so many replies are taken by it
  abbrev counted : Event → ℕ
  counted v = takes_in (v ∷ [])

  abbrev Next : Event → Core → Desk → Type 0
  Next v c d' = (c' : Core) × (c'.desk ≡ d') × Stands c' × Answers v c.desk × (d'.taken ≡ c.desk.taken + counted v)

  first-stands : Stands (first_core x)
  first-stands = record { done = []; waiting = []; more = asks; together = first-together x; hand = refl; replies = refl; requests = refl; parser = refl; all = refl; taken = refl; sent = refl }

  -- ---- Send

  next-ask : (done waiting more : List Asked) (k : ℕ) (a : Asked) → asks ≡ done ++ (waiting ++ more) → k ≡ length done + length waiting → slice_get asks k ≡ Some a → slice_get more 0 ≡ Some a
  next-ask done waiting more k a all place at =
      let long : length (done ++ waiting) ≡ length done + length waiting = length-append done waiting in
      let whole : asks ≡ (done ++ waiting) ++ more = all ∙ sym (append_assoc done waiting more) in
      sym (get-behind (done ++ waiting) more)
      ∙ (ap (λ n. slice_get ((done ++ waiting) ++ more) n) (long ∙ sym place) ∙ (ap (λ l. slice_get l k) (sym whole) ∙ at))

  sent-stands : (c : Core) (y : Piece) (ys : List Piece) (a : Asked) (s : Stands c) → c.desk.to_send ≡ y ∷ ys → a.request ≡ request_for c.desk y → IsTrue (can_send x.ahead c.desk) →
      (more : List Asked) → s.more ≡ more → slice_get more 0 ≡ Some a → Stands (sent_from (y ∷ ys) c)
  sent-stands c y ys a s q for can [] is at = absurd (cc at)
  sent-stands c y ys a s q for can (b ∷ more) is at =
      let same : b ≡ a = some-same b a at in
      let now : Together x (sent_from c.desk.to_send c) = (steps-together x Send c (sent_from c.desk.to_send c) can refl s.together).1 in
      let longer : length (s.waiting ++ a ∷ []) ≡ length s.waiting + length (a ∷ []) = length-append s.waiting (a ∷ []) in
      let was = s.sent in
      let rose : (sends c.desk).sent ≡ suc c.desk.sent = ap (λ ps. (sends_first ps c.desk).sent) q in
      record {
        done = s.done;
        waiting = s.waiting ++ a ∷ [];
        more = more;
        together = subst (λ ps. Together x (sent_from ps c)) q now;
        hand = s.hand;
        replies = s.replies;
        requests = ap (λ rs. rs ++ request_for c.desk y ∷ []) s.requests ∙ (ap (λ r. requests_of s.waiting ++ r ∷ []) (sym for) ∙ sym (map-append (λ (z : Asked). z.request) s.waiting (a ∷ [])));
        parser = s.parser;
        all = s.all ∙ ap (λ l. s.done ++ l) (ap (λ m. s.waiting ++ m) (is ∙ ap (λ z. z ∷ more) same) ∙ sym (append_assoc s.waiting (a ∷ []) more));
        taken = ap (λ ps. (sends_first ps c.desk).taken) q ∙ s.taken;
        sent = omega (arith, longer, was, rose);
      }

  sent-next : (c : Core) (ps : List Piece) (a : Asked) (s : Stands c) → c.desk.to_send ≡ ps → IsForFirst ps c.desk a.request → slice_get asks c.desk.sent ≡ Some a → IsTrue (can_send x.ahead c.desk) → Next Send c (sends c.desk)
  sent-next c [] a s q for at can = absurd for
  sent-next c (y ∷ ys) a s q for at can =
      let taken : (sends c.desk).taken ≡ c.desk.taken = ap (λ ps. (sends_first ps c.desk).taken) q in
      (sent_from (y ∷ ys) c, refl, sent-stands c y ys a s q for can s.more refl (next-ask s.done s.waiting s.more c.desk.sent a s.all s.sent at), tt, omega (arith, taken))

  -- ---- Take

  took-count : (ps : List Piece) (d : Desk) → d.asked ≡ ps → nat_lt 0 (outstanding d) ≡ true → (b : Bool) → nat_lt 0 (stale d) ≡ b → ((takes es d).taken ≡ suc d.taken) × ((takes es d).sent ≡ d.sent)
  took-count ps d q some true is =
      let dropped : takes es d ≡ drops d = ap (λ b. if b then drops d else with_batches (answer_called_for es d d.asked) d.asked d) is in
      (ap (λ (z : Desk). z.taken) dropped, ap (λ (z : Desk). z.sent) dropped)
  took-count [] d q some false is =
      let none : length d.asked ≡ 0 = ap (λ l. length l) q in
      let not_some : nat_lt 0 (outstanding d) ≡ false = grind (arith, none, is) in
      absurd (true≢false (sym some ∙ not_some))
  took-count (y ∷ ys) d q some false is =
      let kept : takes es d ≡ with_batches (answer_called_for es d (y ∷ ys)) (y ∷ ys) d =
      ap (λ b. if b then drops d else with_batches (answer_called_for es d d.asked) d.asked d) is ∙ ap (λ ps. with_batches (answer_called_for es d ps) ps d) q in
      (ap (λ (z : Desk). z.taken) kept, ap (λ (z : Desk). z.sent) kept)

  none-waits : (sent taken : ℕ) → taken ≡ sent → nat_lt 0 (sent - taken) ≡ true → ⊥
  none-waits sent taken q h = true≢false (sym h ∙ grind (arith, q))

  took-next : (c : Core) (ws : List Asked) (s : Stands c) → s.waiting ≡ ws → IsTrue (wants_reply c.desk) → Next Take c (takes es c.desk)
  took-next c [] s q can =
      let none : length s.waiting ≡ 0 = ap (λ l. length l) q in
      let sent = s.sent in
      let taken = s.taken in
      absurd (none-waits c.desk.sent c.desk.taken (omega (arith, none, sent, taken)) (and_parts (is_free c.desk.phase && is_empty c.desk.hand) (nat_lt 0 (outstanding c.desk)) can).1)
  took-next c (a ∷ ws) s q can = (c3, is, stands, (told_to es (after es first_work.parser s.done) a, place, taken_by), rose)
    where
      d : Desk
      d = c.desk

      r : Request
      r = a.request

      reply : Reply
      reply = reply_to r (answer_to es c.work.parser r).batches

      c1 : Core
      c1 = record c { requests = requests_of ws; work = record c.work { hand = Some r } }

      c2 : Core
      c2 = record c { requests = requests_of ws; work = record { hand = None; parser = (answer_to es c.work.parser r).parser }; replies = reply ∷ [] }

      c3 : Core
      c3 = taken_from (reply ∷ []) c2

      waits_ : c.requests ≡ r ∷ requests_of ws
      waits_ = s.requests ∙ ap requests_of q

      can1 : IsTrue (enabled x Pick c)
      can1 = both x (not (is_some c.work.hand)) (not (is_empty c.requests)) (ap (λ h. not (is_some h)) s.hand) (ap (λ rs. not (is_empty rs)) waits_)

      t1 : Together x c1
      t1 = (steps-together x Pick c c1 can1 (ap (λ rs. picked_from rs c) (sym waits_)) s.together).1

      t2 : Together x c2
      t2 = (steps-together x Give c1 c2 refl (ap (λ rs. record c2 { replies = rs ++ reply ∷ [] }) (sym s.replies)) t1).1

      idle : IsTrue (is_free d.phase && is_empty d.hand)
      idle = (and_parts (is_free d.phase && is_empty d.hand) (nat_lt 0 (outstanding d)) can).0

      can3 : IsTrue (enabled x Take c2)
      can3 = both x (is_free d.phase && is_empty d.hand) true idle refl

      is : c3.desk ≡ takes es d
      is =
          let took = steps-together x Take c2 c3 can3 refl t2 in
          let (d1, moves, same) = took.0 in
          same ∙ moves.1

      t3 : Together x c3
      t3 = (steps-together x Take c2 c3 can3 refl t2).1

      counts : ((takes es d).taken ≡ suc d.taken) × ((takes es d).sent ≡ d.sent)
      counts = took-count d.asked d refl (and_parts (is_free d.phase && is_empty d.hand) (nat_lt 0 (outstanding d)) can).1 (nat_lt 0 (stale d)) refl

      rose : (takes es d).taken ≡ d.taken + counted Take
      rose = let one = counts.0 in omega (arith, one)

      all_ : asks ≡ s.done ++ a ∷ (ws ++ s.more)
      all_ = s.all ∙ ap (λ w. s.done ++ (w ++ s.more)) q

      place : slice_get (answers es first_work.parser asks) d.taken ≡ Some (told_to es (after es first_work.parser s.done) a)
      place =
          ap (λ l. slice_get (answers es first_work.parser l) d.taken) all_
          ∙ (ap (λ n. slice_get (answers es first_work.parser (s.done ++ a ∷ (ws ++ s.more))) n) s.taken ∙ answers-at es first_work.parser s.done a (ws ++ s.more))

      taken_by : takes es d ≡ takes_reply (told_to es (after es first_work.parser s.done) a).reply d
      taken_by = sym is ∙ ap (λ p. takes_reply (reply_to r (answer_to es p r).batches) d) s.parser

      stands : Stands c3
      stands =
          let longer : length (s.done ++ a ∷ []) ≡ length s.done + length (a ∷ []) = length-append s.done (a ∷ []) in
          let waited : length s.waiting ≡ suc (length ws) = ap (λ l. length l) q in
          let taken = s.taken in
          let sent = s.sent in
          let taken_ : c3.desk.taken ≡ suc d.taken = ap (λ (z : Desk). z.taken) is ∙ counts.0 in
          let sent_ : c3.desk.sent ≡ d.sent = ap (λ (z : Desk). z.sent) is ∙ counts.1 in
          record {
            done = s.done ++ a ∷ [];
            waiting = ws;
            more = s.more;
            together = t3;
            hand = refl;
            replies = refl;
            requests = refl;
            parser = ap (λ p. (answer_to es p r).parser) s.parser ∙ sym (after-more es first_work.parser s.done a);
            all = all_ ∙ sym (append_assoc s.done (a ∷ []) (ws ++ s.more));
            taken = omega (arith, longer, taken, taken_);
            sent = omega (arith, longer, waited, sent, sent_);
          }

  -- ---- each event

  same-next : (v : Event) (c c' : Core) (d' : Desk) (s : Stands c) → c' ≡ record c { desk = d' } → Together x c' → d'.sent ≡ c.desk.sent → d'.taken ≡ c.desk.taken → Stands c'
  same-next v c c' d' s is t sent taken = subst Stands (sym is) (record {
    done = s.done;
    waiting = s.waiting;
    more = s.more;
    together = subst (Together x) is t;
    hand = s.hand;
    replies = s.replies;
    requests = s.requests;
    parser = s.parser;
    all = s.all;
    taken = taken ∙ s.taken;
    sent = sent ∙ s.sent;
  })

  one-next : (v : Event) (c : Core) (d' : Desk) (s : Stands c) → AsksOf asks pieces v c.desk → Moves x.ahead x.world v c.desk d' → Next v c d'
  one-next Send c d' s (a, at, for, from) (can, is) = subst (Next Send c) (sym is) (sent-next c c.desk.to_send a s refl for at can)
  one-next Pick c d' s asked m = absurd m
  one-next Give c d' s asked m = absurd m
  one-next Take c d' s asked (can, is) = subst (Next Take c) (sym is) (took-next c s.waiting s refl can)
  one-next Do c d' s asked (can, does) =
      let keeps = does-keeps x.world c.desk.phase c.desk d' does in
      let c' : Core = record c { desk = d' } in
      let taken = keeps.taken in
      (c', refl, same-next Do c c' d' s refl (steps-together x Do c c' can (d', does, refl) s.together).1 keeps.sent keeps.taken, tt, omega (arith, taken))
  one-next (Arrive name) c d' s asked (can, is) =
      let c' : Core = record c { desk = arrives name c.desk } in
      subst (Next (Arrive name) c) (sym is)
      (c', refl, same-next (Arrive name) c c' (arrives name c.desk) s refl (steps-together x (Arrive name) c c' can refl s.together).1 refl refl, tt, omega arith)

  -- ---- along a run

  module _ (messages : List Message) (n : ℕ) (same : (k : ℕ) (t : Told) → k < n → slice_get (answers es first_work.parser asks) k ≡ Some t → slice_get messages k ≡ Some (Some t)) where
    takes-of : (v : Event) (d : Desk) → Answers v d → d.taken + counted v ≤ n → TakesOf messages x v d
    takes-of Send d h le = tt
    takes-of Pick d h le = tt
    takes-of Give d h le = tt
    takes-of Take d (t, at, is) le = (t, same d.taken t (omega (arith, le)) at, is)
    takes-of Do d h le = tt
    takes-of (Arrive name) d h le = tt

    takes-more : (v : Event) (vs : List Event) → takes_in (v ∷ vs) ≡ counted v + takes_in vs
    takes-more Send vs = omega arith
    takes-more Pick vs = omega arith
    takes-more Give vs = omega arith
    takes-more Take vs = omega arith
    takes-more Do vs = omega arith
    takes-more (Arrive name) vs = omega arith

    takes-with : (vs : List Event) (c : Core) (d d' : Desk) → c.desk ≡ d → Stands c → d.taken + takes_in vs ≤ n → MovesWith (AsksOf asks pieces) x.ahead x.world vs d d' → MovesWith (TakesOf messages x) x.ahead x.world vs d d'
    takes-with [] c d d' q s le is = is
    takes-with (v ∷ vs) c d d' q s le (d1, asked, step, rest) =
        let (c1, q1, s1, answered, rose) = one-next v c d1 s (subst (λ z. AsksOf asks pieces v z) (sym q) asked) (subst (λ z. Moves x.ahead x.world v z d1) (sym q) step) in
        let more = takes-more v vs in
        let was : c.desk.taken ≡ d.taken = ap (λ (z : Desk). z.taken) q in
        let less : d.taken + counted v ≤ n = omega (arith, more, le) in
        let behind : d1.taken + takes_in vs ≤ n = omega (arith, more, le, rose, was) in
        (d1, takes-of v d (subst (Answers v) q answered) less, step, takes-with vs c1 d1 d' q1 s1 behind rest)

    pub takes_along : (vs : List Event) (d' : Desk) → takes_in vs ≤ n → MovesWith (AsksOf asks pieces) x.ahead x.world vs (first_desk (pieces_with x.pieces (Some x.ending))) d' →
        MovesWith (TakesOf messages x) x.ahead x.world vs (first_desk (pieces_with x.pieces (Some x.ending))) d'
    takes_along vs d' le with = takes-with vs (first_core x) (first_desk (pieces_with x.pieces (Some x.ending))) d' refl first-stands (omega (arith, le)) with

-- ---- what came through the lanes

-- of these none is a reply
abbrev IsNoReply : List (Option Told) → Type 0
IsNoReply tail = (tail ≡ []) ⊎ (tail ≡ None ∷ [])

nothing-said : (a : Told) (these : List (Option Told)) (tail : List (Option Told)) → IsNoReply tail → Some a ∷ these ≡ tail → ⊥
nothing-said a these tail (inl is) q = nil (q ∙ is)
  where
    nil : Some a ∷ these ≡ [] → ⊥
    nil e = cc e
nothing-said a these tail (inr is) q = none (head-same (Some a) None these [] (q ∙ is))
  where
    none : Some a ≡ None → ⊥
    none e = cc e

replies-front : (these bs : List Told) (more tail : List (Option Told)) → IsNoReply tail → map Some these ++ more ≡ map Some bs ++ tail → IsPrefix these bs
replies-front [] bs more tail none q = (bs, refl)
replies-front (a ∷ these) [] more tail none q = absurd (nothing-said a (map Some these ++ more) tail none q)
replies-front (a ∷ these) (b ∷ bs) more tail none q =
    let (t, is) = replies-front these bs more tail none (tail-same (Some a) (Some b) (map Some these ++ more) (map Some bs ++ tail) q) in
    let same : a ≡ b = some-same a b (head-same (Some a) (Some b) (map Some these ++ more) (map Some bs ++ tail) q) in
    (t, ap (λ l. a ∷ l) is ∙ ap (λ z. z ∷ bs) same)

no-stop : (q : Asked) → Ask q ≡ Stop → ⊥
no-stop q e = cc e

ask-same : (a b : Asked) → Ask a ≡ Ask b → a ≡ b
ask-same a b e = cc e

asks-front : (qs these : List Asked) (more : List ToParser) → map Ask qs ++ more ≡ map Ask these ++ Stop ∷ [] → IsPrefix qs these
asks-front [] these more q = (these, refl)
asks-front (z ∷ qs) [] more q = absurd (no-stop z (head-same (Ask z) Stop (map Ask qs ++ more) [] q))
asks-front (z ∷ qs) (a ∷ these) more q =
    let (t, is) = asks-front qs these more (tail-same (Ask z) (Ask a) (map Ask qs ++ more) (map Ask these ++ Stop ∷ []) q) in
    let same : z ≡ a = ask-same z a (head-same (Ask z) (Ask a) (map Ask qs ++ more) (map Ask these ++ Stop ∷ []) q) in
    (t, ap (λ l. z ∷ l) is ∙ ap (λ y. y ∷ these) same)

-- so many replies, and then perhaps more
replies-of : (outcome : Status) (n : ℕ) (messages : List Message) → AreRepliesAt outcome n messages → (rs : List Told) × (more : List Message) × (messages ≡ map Some rs ++ more) × (length rs ≡ n)
replies-of outcome n messages (inl (rs, is, long)) = (rs, [], is ∙ sym (append-nil (map Some rs)), long)
replies-of outcome n messages (inr (ran_out, before, last, is, (rs, front, long))) = (rs, last ∷ [], is ∙ ap (λ l. l ++ last ∷ []) front, long)

module _ {E : Type 0} (g : InForce.Ghosts E) (l : Lanes E g) (asks : List Asked) (stopped : l.asked.put ≡ map Ask asks ++ Stop ∷ []) (order : InOrder g l) (answered : IsAnswered g l) where
  abbrev told : List Asked → List Told
  told qs = answers g.entities first_work.parser qs

  -- the replies that were given are the answers to a front of the requests, and behind them is no reply
  abbrev Given : Type 0
  Given = (qs : List Asked) × (tail : List (Option Told)) × IsPrefix qs asks × IsNoReply tail × (map (said g) l.answers.put ≡ map Some (told qs) ++ tail)

  front-of : (qs : List Asked) (more : List ToParser) → l.asked.taken ≡ map Ask qs ++ more → IsPrefix qs asks
  front-of qs more is =
      let (rest, whole) = order.asked in
      asks-front qs asks (more ++ rest) (sym (append_assoc (map Ask qs) more rest) ∙ (ap (λ t. t ++ rest) (sym is) ∙ (whole ∙ stopped)))

  given-are : Worked g l.asked.taken l.answers.put → Given
  given-are (qs, inl (taken, given)) = (qs, [], front-of qs (Stop ∷ []) taken, inl refl, given ∙ sym (append-nil (map Some (told qs))))
  given-are (qs, inr (last, taken, given)) = (qs, None ∷ [], front-of qs (Ask last ∷ []) taken, inr refl, given)

  messages-are : (rs : List Told) (more : List Message) → map (said g) l.answers.taken ≡ map Some rs ++ more → Given → IsPrefix rs (told asks)
  messages-are rs more is (qs, tail, (behind, all), none, given) =
      let (rest, whole) = order.answers in
      let said_ : map Some rs ++ (more ++ map (said g) rest) ≡ map Some (told qs) ++ tail =
      sym (append_assoc (map Some rs) more (map (said g) rest)) ∙ (ap (λ t. t ++ map (said g) rest) (sym is) ∙ (sym (map-append (said g) l.answers.taken rest) ∙ (ap (map (said g)) whole ∙ given))) in
      let (end, front) = replies-front rs (told qs) (more ++ map (said g) rest) tail none said_ in
      let (end', longer) = told-front first_work.parser qs behind in
      (end ++ end', sym (append_assoc rs end end') ∙ (ap (λ t. t ++ end') front ∙ (longer ∙ ap told all)))
    where
      told-front : (last : Option Parser) (qs behind : List Asked) → IsPrefix (answers g.entities last qs) (answers g.entities last (qs ++ behind))
      told-front last [] behind = (answers g.entities last behind, refl)
      told-front last (q ∷ qs) behind = let (t, is) = told-front (end_of g.entities last q) qs behind in (t, ap (λ z. told_to g.entities last q ∷ z) is)

  -- at each place of a Take stands the answer to the request at that place
  pub messages_at : (outcome : Status) (n : ℕ) (messages : List Message) → map (said g) l.answers.taken ≡ messages → AreRepliesAt outcome n messages →
      (k : ℕ) (t : Told) → k < n → slice_get (told asks) k ≡ Some t → slice_get messages k ≡ Some (Some t)
  messages_at outcome n messages same are k t less at =
      let (rs, more, is, long) = replies-of outcome n messages are in
      let (behind, front) = messages-are rs more (same ∙ is) (given-are answered.worked) in
      let (u, there) = get-there rs k (omega (arith, less, long)) in
      let same_ : u ≡ t = some-same u t (sym (get-front rs behind k u there) ∙ (ap (λ z. slice_get z k) front ∙ at)) in
      ap (λ z. slice_get z k) is ∙ get-some rs more k t (there ∙ ap Some same_)

  pub takes_follow : (ahead : ℕ) (j : Journal) (outcome : Status) (messages : List Message) → map (said g) l.answers.taken ≡ messages → AreRepliesAt outcome (takes_in j.events) messages →
      HoldsAlong (λ x. AsksOf asks x.pieces) g.entities ahead j → HoldsAlong (TakesOf messages) g.entities ahead j
  takes_follow ahead j outcome messages same are asked x run =
      let (d, with) = asked x run in
      let at = messages_at outcome (takes_in j.events) messages same are in
      let at_x : (k : ℕ) (t : Told) → k < takes_in j.events → slice_get (answers x.world.entities first_work.parser asks) k ≡ Some t → slice_get messages k ≡ Some (Some t) =
      λ k t less here. at k t less (ap (λ es. slice_get (answers es first_work.parser asks) k) (sym run.entities) ∙ here) in
      (d, takes_along x x.pieces asks messages (takes_in j.events) at_x j.events d (omega arith) with)
