-- What stands between the two sides is what the document's side calls for.
use Rattle.std.proofs.Common.{◌≡◌, ◌<◌, inl, inr, ℕ, suc, ◌+◌, ◌==◌, nat_lt, Bool, true, false, List, [], ◌∷◌, ◌++◌, length, drop, Option, Some, None, refl, subst, sym, ◌∙◌, ap, append_assoc, append-nil, arith}
use Rattle.std.proofs.lemmas.List.{length-append, drop_at}
use Rattle.std.specs.Prelude.{if◌then◌else◌}
use Rattle.html_types.specs.declared.operation.NodeId.{NodeId}
use Rattle.html_types.specs.declared.instruction.Stop.TheVariants as stop
use Rattle.html_types.specs.declared.ending.Ending.{Ending}
use Rattle.html_types.specs.declared.ending.Ending.TheVariants as ending
use Rattle.standard.specs.Entities.{Entities}
use Rattle.standard.specs.Parser.{finish, Parser}
use Rattle.serial.specs.Serial.{World, Serial, prepared, Moment, reading, tag_ended, awaits, over}
use Rattle.core_definitions.specs.declared.verdict.Verdict.TheVariants.{Keep, Rewind}
use Rattle.core_definitions.specs.Batches.{Piece, Batch, Halt, at, answer, end_batch, over_with}
use Rattle.core_definitions.specs.Verdict.{runs}
use Rattle.core_definitions.specs.Desk.{Phase, free, tagged, waits, done, Desk, renewed, stale, with_batches, drops, answer_called_for, takes, at_end_tag, behind_halt, with_executed, executes, decided, Concludes, RunsOn, DoesIn}
use Rattle.core_definitions.specs.Core.{Request, Reply, Core, started, answer_to, reply_to, request_for, takes_reply}
use Rattle.core_laws.proofs.Cutting.{GoesOn, IsText, first-batch, answered-by-nothing, blank-end}
use Rattle.core_laws.proofs.Ledger.{Piped, Pipe}

-- ---- the replies that are to come

abbrev pub in_hand : Option Request → List Request
in_hand None = []
in_hand (Some r) = r ∷ []

-- to requests, one behind another from where the last answer ended
abbrev pub replies_to : Entities → Option Parser → List Request → List Reply
replies_to es last [] = []
replies_to es last (r ∷ rs) = reply_to r (answer_to es last r).batches ∷ replies_to es (answer_to es last r).parser rs

abbrev pub end_of : Entities → Option Parser → List Request → Option Parser
end_of es last [] = last
end_of es last (r ∷ rs) = end_of es (answer_to es last r).parser rs

abbrev pub under_way : Core → List Request
under_way c = in_hand c.work.hand ++ c.requests

-- the replies that stand, and those that would, were every request answered now
abbrev pub to_come : Entities → Core → List Reply
to_come es c = c.replies ++ replies_to es c.work.parser (under_way c)

-- and where the parser's side would end
abbrev pub end_to_come : Entities → Core → Option Parser
end_to_come es c = end_of es c.work.parser (under_way c)

-- where the answers to pieces end, each from where the one before it ended
abbrev pub pieces_end : Entities → Option Parser → List Piece → Option Parser
pieces_end es p [] = p
pieces_end es p (x ∷ xs) = pieces_end es (answer es p x).parser xs

-- the replies are of that epoch, and the answers to those pieces
abbrev pub AreCalledFor : Entities → ℕ → Option Parser → List Piece → List Reply → Type 0
AreCalledFor es k p [] [] = Unit {0}
AreCalledFor es k p (x ∷ xs) (r ∷ rs) = (r.epoch ≡ k) × (r.batches ≡ (answer es p x).batches) × AreCalledFor es k (answer es p x).parser xs rs
AreCalledFor es k p _ _ = ⊥

abbrev pub AreEnded : ℕ → List Reply → Type 0
AreEnded k [] = Unit {0}
AreEnded k (r ∷ rs) = (r.epoch < k) × AreEnded k rs

-- ---- in step

-- the state from which the batches in hand go on
abbrev pub held_of : Phase → Parser → Parser
held_of free now = now
held_of (tagged i held) now = held
held_of (waits name held) now = held
held_of (done r) now = now

-- where the answer to the piece in hand ends
abbrev pub ends_at : Entities → Desk → Option Parser
ends_at es d = (answer es (Some (held_of d.phase d.own.parser)) d.left).parser

-- First come replies of epochs that have ended, and then the answers to what was asked in this epoch; and the next request is answered from
-- where those end.
pub record InStep (es : Entities) (d : Desk) (all : List Reply) (last : Option Parser) : Type 0 where
  pub count : length all + d.taken ≡ d.sent
  pub old : List Reply
  pub new : List Reply
  pub are : all ≡ old ++ new
  pub ended : AreEnded d.epoch old
  pub called : AreCalledFor es d.epoch (ends_at es d) d.asked new
  pub next : started d.begins last ≡ pieces_end es (ends_at es d) d.asked

-- where the parse is over nothing is asked
abbrev pub UnlessDone : Phase → Type 0 → Type 0
UnlessDone free C = C
UnlessDone (tagged i held) C = C
UnlessDone (waits name held) C = C
UnlessDone (done r) C = Unit {0}

pub map-unless : (p : Phase) (C D : Type 0) → (C → D) → UnlessDone p C → UnlessDone p D
map-unless free C D f h = f h
map-unless (tagged i held) C D f h = f h
map-unless (waits name held) C D f h = f h
map-unless (done r) C D f h = tt

pub unless : (p : Phase) (C : Type 0) → C → UnlessDone p C
unless free C h = h
unless (tagged i held) C h = h
unless (waits name held) C h = h
unless (done r) C h = tt

-- what is in step stays so where the answer to the piece in hand ends at the same state
pub in-step-with : (es : Entities) (d : Desk) (all : List Reply) (last : Option Parser) (p : Phase) (o : Serial) (h : List Batch) (l : Piece) (t : List Piece) (m x : ℕ) (n : List (List ℕ)) → InStep es d all last →
    (answer es (Some (held_of p o.parser)) l).parser ≡ ends_at es d → InStep es (record d { phase = p; own = o; hand = h; left = l; to_send = t; realm = m; dropped = x; arrived = n }) all last
in-step-with es d all last p o h l t m x n s q = record {
  count = s.count;
  old = s.old;
  new = s.new;
  are = s.are;
  ended = s.ended;
  called = subst (λ e. AreCalledFor es d.epoch e d.asked s.new) (sym q) s.called;
  next = s.next ∙ ap (λ e. pieces_end es e d.asked) (sym q);
}

-- ---- Send

pub replies-more : (es : Entities) (last : Option Parser) (rs : List Request) (q : Request) →
    replies_to es last (rs ++ q ∷ []) ≡ replies_to es last rs ++ reply_to q (answer_to es (end_of es last rs) q).batches ∷ []
replies-more es last [] q = refl
replies-more es last (r ∷ rs) q = ap (λ xs. reply_to r (answer_to es last r).batches ∷ xs) (replies-more es (answer_to es last r).parser rs q)

pub end-more : (es : Entities) (last : Option Parser) (rs : List Request) (q : Request) → end_of es last (rs ++ q ∷ []) ≡ (answer_to es (end_of es last rs) q).parser
end-more es last [] q = refl
end-more es last (r ∷ rs) q = end-more es (answer_to es last r).parser rs q

pieces_end-more : (es : Entities) (p : Option Parser) (xs : List Piece) (x : Piece) → pieces_end es p (xs ++ x ∷ []) ≡ (answer es (pieces_end es p xs) x).parser
pieces_end-more es p [] x = refl
pieces_end-more es p (y ∷ xs) x = pieces_end-more es (answer es p y).parser xs x

called-more : (es : Entities) (k : ℕ) (p : Option Parser) (xs : List Piece) (x : Piece) (rs : List Reply) (r : Reply) → AreCalledFor es k p xs rs → r.epoch ≡ k →
    r.batches ≡ (answer es (pieces_end es p xs) x).batches → AreCalledFor es k p (xs ++ x ∷ []) (rs ++ r ∷ [])
called-more es k p [] x [] r h e b = (e, b, tt)
called-more es k p [] x (s ∷ rs) r h e b = absurd h
called-more es k p (y ∷ xs) x [] r h e b = absurd h
called-more es k p (y ∷ xs) x (s ∷ rs) r h e b = (h.0, h.1, called-more es k (answer es p y).parser xs x rs r h.2 e b)

pub sends-in-step : (es : Entities) (d : Desk) (all : List Reply) (last : Option Parser) (x : Piece) (xs : List Piece) → InStep es d all last →
    let a = answer_to es last (request_for d x) in
    InStep es (record d { asked = d.asked ++ x ∷ []; to_send = xs; begins = None; sent = suc d.sent }) (all ++ reply_to (request_for d x) a.batches ∷ []) a.parser
sends-in-step es d all last x xs s =
    let r : Reply = reply_to (request_for d x) (answer_to es last (request_for d x)).batches in
    let longer : length (all ++ r ∷ []) ≡ length all + length (r ∷ []) = length-append all (r ∷ []) in
    record {
      count = omega (arith, s.count, longer);
      old = s.old;
      new = s.new ++ r ∷ [];
      are = ap (λ ys. ys ++ r ∷ []) s.are ∙ append_assoc s.old s.new (r ∷ []);
      ended = s.ended;
      called = called-more es d.epoch (ends_at es d) d.asked x s.new r s.called refl (ap (λ p. (answer es p x).batches) s.next);
      next = ap (λ p. (answer es p x).parser) s.next ∙ sym (pieces_end-more es (ends_at es d) d.asked x);
    }

-- ---- Take

pub called-length : (es : Entities) (k : ℕ) (p : Option Parser) (xs : List Piece) (rs : List Reply) → AreCalledFor es k p xs rs → length xs ≡ length rs
called-length es k p [] [] h = refl
called-length es k p [] (r ∷ rs) h = absurd h
called-length es k p (x ∷ xs) [] h = absurd h
called-length es k p (x ∷ xs) (r ∷ rs) h = ap suc (called-length es k (answer es p x).parser xs rs h.2)

abbrev reply_or : Reply → List Reply → Reply
reply_or d [] = d
reply_or d (r ∷ rs) = r

abbrev replies_behind : List Reply → List Reply
replies_behind [] = []
replies_behind (r ∷ rs) = rs

-- replies of ended epochs come first, and so many as are stale
pub stale-is : (es : Entities) (d : Desk) (all : List Reply) (last : Option Parser) (s : InStep es d all last) → stale d ≡ length s.old
stale-is es d all last s =
    let a : length all ≡ length s.old + length s.new = ap length s.are ∙ length-append s.old s.new in
    let b : length d.asked ≡ length s.new = called-length es d.epoch (ends_at es d) d.asked s.new s.called in
    omega (arith, s.count, a, b)

abbrev pub Takes : Entities → Desk → Reply → List Reply → Option Parser → Type 0
Takes es d r rest last = (takes_reply r d ≡ takes es d) × InStep es (takes es d) rest last

take-ended : (es : Entities) (d : Desk) (r : Reply) (rest old new : List Reply) (last : Option Parser) → r.epoch < d.epoch → nat_lt 0 (stale d) ≡ true → InStep es (drops d) rest last → Takes es d r rest last
take-ended es d r rest old new last older some s =
    let other : (r.epoch == d.epoch) ≡ false = grind (arith, older) in
    let is : takes es d ≡ drops d = ap (λ b. if b then drops d else with_batches (answer_called_for es d d.asked) d.asked d) some in
    (ap (λ b. if b then with_batches r.batches d.asked d else drops d) other ∙ sym is, subst (λ x. InStep es x rest last) (sym is) s)

take-called : (es : Entities) (d : Desk) (r : Reply) (rest : List Reply) (last : Option Parser) (ps : List Piece) → d.asked ≡ ps → d.phase ≡ free → ends_at es d ≡ Some d.own.parser →
    length (r ∷ rest) + d.taken ≡ d.sent → nat_lt 0 (stale d) ≡ false → AreCalledFor es d.epoch (ends_at es d) ps (r ∷ rest) → started d.begins last ≡ pieces_end es (ends_at es d) ps → Takes es d r rest last
take-called es d r rest last [] q at_free e count none called next = absurd called
take-called es d r rest last (x ∷ xs) q at_free e count none (epoch, batches, called) next =
    let a = answer es (Some d.own.parser) x in
    let is_ : answer es (ends_at es d) x ≡ a = ap (λ p. answer es p x) e in
    let d' : Desk = record d { hand = a.batches; left = x; asked = xs; taken = suc d.taken } in
    let taken_ : takes es d ≡ d' =
    ap (λ b. if b then drops d else with_batches (answer_called_for es d d.asked) d.asked d) none ∙ ap (λ ps. with_batches (answer_called_for es d ps) ps d) q in
    let own : (r.epoch == d.epoch) ≡ true = grind (arith, epoch) in
    let reply : takes_reply r d ≡ d' =
    ap (λ b. if b then with_batches r.batches d.asked d else drops d) own ∙ (ap (λ ps. with_batches r.batches ps d) q ∙ ap (λ bs. record d' { hand = bs }) (batches ∙ ap (λ z. z.batches) is_)) in
    let held : held_of d.phase d.own.parser ≡ d.own.parser = ap (λ p. held_of p d.own.parser) at_free in
    let ends : (answer es (ends_at es d) x).parser ≡ ends_at es d' = ap (λ z. z.parser) is_ ∙ ap (λ p. (answer es (Some p) x).parser) (sym held) in (
      reply ∙ sym taken_,
      subst (λ y. InStep es y rest last) (sym taken_) (record {
        count = omega (arith, count);
        old = [];
        new = rest;
        are = refl;
        ended = tt;
        called = subst (λ p. AreCalledFor es d.epoch p xs rest) ends called;
        next = next ∙ ap (λ p. pieces_end es p xs) ends;
      }),
    )

pub takes-in-step : (es : Entities) (e : Ending) (d : Desk) (r : Reply) (rest : List Reply) (last : Option Parser) → d.phase ≡ free → d.hand ≡ [] → Piped es e d.own.parser d → InStep es d (r ∷ rest) last → Takes es d r rest last
takes-in-step es e d r rest last at_free nil p s = by s.old refl
  where
    ends : ends_at es d ≡ Some d.own.parser
    ends =
        ap (λ f. (answer es (Some (held_of f d.own.parser)) d.left).parser) at_free
        ∙ (answered-by-nothing es d.own.parser d.left (sym nil ∙ p.hand)).stays

    by : (old : List Reply) → s.old ≡ old → Takes es d r rest last
    by [] q =
        let new : s.new ≡ r ∷ rest = sym (s.are ∙ ap (λ o. o ++ s.new) q) in
        let none : stale d ≡ 0 = stale-is es d (r ∷ rest) last s ∙ ap (λ o. length o) q in
        take-called es d r rest last d.asked refl at_free ends s.count (grind (arith, none)) (subst (λ n. AreCalledFor es d.epoch (ends_at es d) d.asked n) new s.called) s.next
    by (o ∷ os) q =
        let are : r ∷ rest ≡ o ∷ (os ++ s.new) = s.are ∙ ap (λ x. x ++ s.new) q in
        let first : r ≡ o = ap (reply_or r) are in
        let ended : AreEnded d.epoch (o ∷ os) = subst (AreEnded d.epoch) q s.ended in
        let some : stale d ≡ suc (length os) = stale-is es d (r ∷ rest) last s ∙ ap (λ x. length x) q in
        take-ended es d r rest os s.new last (subst (λ x. x.epoch < d.epoch) (sym first) ended.0) (grind (arith, some)) (record {
          count = omega (arith, s.count);
          old = os;
          new = s.new;
          are = ap replies_behind are;
          ended = ended.1;
          called = s.called;
          next = s.next;
        })

-- ---- Do

ended-append : (k : ℕ) (xs ys : List Reply) → AreEnded k xs → AreEnded k ys → AreEnded k (xs ++ ys)
ended-append k [] ys h g = g
ended-append k (x ∷ xs) ys h g = (h.0, ended-append k xs ys h.1 g)

ended-later : (k : ℕ) (xs : List Reply) → AreEnded k xs → AreEnded (suc k) xs
ended-later k [] h = tt
ended-later k (x ∷ xs) h = (let l : x.epoch < k = h.0 in omega (arith, l), ended-later k xs h.1)

called-ended : (es : Entities) (k : ℕ) (p : Option Parser) (xs : List Piece) (rs : List Reply) → AreCalledFor es k p xs rs → AreEnded (suc k) rs
called-ended es k p [] [] h = tt
called-ended es k p [] (r ∷ rs) h = absurd h
called-ended es k p (x ∷ xs) [] h = absurd h
called-ended es k p (x ∷ xs) (r ∷ rs) h = (let l : r.epoch ≡ k = h.0 in omega (arith, l), called-ended es k (answer es p x).parser xs rs h.2)

module _ (es : Entities) (all : List Reply) (last : Option Parser) where
  abbrev pub Tracks : Desk → Type 0
  Tracks d = UnlessDone d.phase (InStep es d all last)

  rewinds : (held : Parser) (s : Serial) (d : Desk) → InStep es d all last → InStep es (decided Rewind held s d) all last
  rewinds held s d h = record {
    count = h.count;
    old = all;
    new = [];
    are = sym (append-nil all);
    ended = subst (AreEnded (suc d.epoch)) (sym h.are) (ended-append (suc d.epoch) h.old h.new (ended-later d.epoch h.old h.ended) (called-ended es d.epoch (ends_at es d) d.asked h.new h.called));
    called = tt;
    next = sym (blank-end es (renewed d.realm s.parser));
  }

  concludes : (held : Parser) (m : Moment) (d d' : Desk) → held_of d.phase d.own.parser ≡ held → InStep es d all last → Concludes held m d d' → Tracks d'
  concludes held (reading s) d d' q h (Keep, verdict, is) =
      subst Tracks (sym is) (in-step-with es d all last free (record s { parser = held }) d.hand d.left d.to_send d.realm d.dropped d.arrived h (ap (λ p. (answer es (Some p) d.left).parser) (sym q)))
  concludes held (reading s) d d' q h (Rewind, verdict, is) = subst Tracks (sym is) (rewinds held s d h)
  concludes held (tag_ended i s) d d' q h is = absurd is
  concludes held (awaits name s) d d' q h is =
      subst Tracks (sym is) (in-step-with es d all last (waits name held) s d.hand d.left d.to_send d.realm d.dropped d.arrived h (ap (λ p. (answer es (Some p) d.left).parser) (sym q)))
  concludes held (over o) d d' q h is = subst Tracks (sym is) tt

  runs-in-step : (w : World) (held : Parser) (m : Moment) (d d' : Desk) → held_of d.phase d.own.parser ≡ held → InStep es d all last → RunsOn w held m d d' → Tracks d'
  runs-in-step w held m d d' q h (m', settles, concluded) = concludes held m' d d' q h concluded

  -- a batch
  abbrev at_rest : Phase → Desk → Desk
  at_rest p d = record d { phase = p }

  tag-in-step : (i : NodeId) (d : Desk) (run : Bool) → InStep es (at_rest free d) all last → Tracks (at_end_tag run i (at_rest free d))
  tag-in-step i d false h = h
  tag-in-step i d true h =
      in-step-with es (at_rest free d) all last (tagged i d.own.parser) (record d.own { parser = renewed d.realm d.own.parser }) d.hand d.left d.to_send (suc d.realm) d.dropped d.arrived h refl

  halt-in-step : (h : Halt) (d : Desk) → GoesOn h (InStep es (at_rest free d) all last) → Tracks (behind_halt h (at_rest free d))
  halt-in-step (at stop.InputEnd) d s = s
  halt-in-step (at (stop.Script i)) d s = tag-in-step i d (runs (prepared i d.own)) s
  halt-in-step (at stop.Deep) d s = tt
  halt-in-step (over_with y) d s = tt

  map-goes : (h : Halt) (C D : Type 0) → (C → D) → GoesOn h C → GoesOn h D
  map-goes (at stop.InputEnd) C D f x = f x
  map-goes (at (stop.Script i)) C D f x = f x
  map-goes (at stop.Deep) C D f x = tt
  map-goes (over_with y) C D f x = tt

  text-in-step : (d : Desk) (b : Batch) (bs : List Batch) → InStep es (at_rest free d) all last → IsText es d.own.parser d.left b bs → Tracks (executes (b ∷ bs) (at_rest free d))
  text-in-step d b bs h t =
      let d1 : Desk = with_executed b bs d in
      let left : drop (length b.text) d.left.text ≡ t.rest = ap (drop (length b.text)) t.text ∙ drop_at b.text t.rest (length b.text) refl in
      halt-in-step b.halt d1 (map-goes b.halt _ _
      (λ ends. in-step-with es (at_rest free d) all last free d1.own bs d1.left d.to_send d.realm d.dropped d.arrived h
      (ap (λ x. (answer es (Some b.after) (record d.left { text = x })).parser) left ∙ sym ends)) t.ends)

  end-in-step : (x : Ending) (p : Parser) (d : Desk) → Tracks (behind_halt (end_batch es p x).halt d)
  end-in-step ending.End p d = tt
  end-in-step ending.Bad p d = tt
  end-in-step ending.Long p d = tt
  end-in-step ending.Fault p d = tt

  executes-in-step : (d : Desk) (bs : List Batch) → bs ≡ (answer es (Some d.own.parser) d.left).batches → InStep es (at_rest free d) all last → Tracks (executes bs (at_rest free d))
  executes-in-step d [] q h = h
  executes-in-step d (b ∷ bs) q h = elim (first-batch es d.own.parser d.left b bs q) [
    | inl t ↦ text-in-step d b bs h t
    | inr t ↦ subst (λ (y : Halt). Tracks (behind_halt y (with_executed b bs (at_rest free d)))) (ap (λ (x : Batch). x.halt) (sym t.is)) (end-in-step t.ending d.own.parser (with_executed b bs (at_rest free d)))
  ]

  pub does-in-step : (e : Ending) (w : World) (p : Phase) (d d' : Desk) → d.phase ≡ p → Pipe es e p d → Tracks d → DoesIn w p d d' → Tracks d'
  does-in-step e w free d d' q pipe h is =
      let s : InStep es (at_rest free d) all last = subst (λ f. UnlessDone f (InStep es (at_rest f d) all last)) q h in
      subst Tracks (sym is) (subst (λ f. Tracks (executes d.hand (at_rest f d))) (sym q) (executes-in-step d d.hand pipe.hand s))
  does-in-step e w (tagged i held) d d' q pipe h runs_on =
      runs-in-step w held (tag_ended i d.own) d d' (ap (λ f. held_of f d.own.parser) q) (subst (λ f. UnlessDone f (InStep es d all last)) q h) runs_on
  does-in-step e w (waits name held) d d' q pipe h runs_on =
      runs-in-step w held (awaits name d.own) d d' (ap (λ f. held_of f d.own.parser) q) (subst (λ f. UnlessDone f (InStep es d all last)) q h) runs_on
  does-in-step e w (done r) d d' q pipe h is = absurd is
