-- Each event of the document's side keeps it standing for a moment of the serial parse, and what is left of the page in its pieces.
use Rattle.std.proofs.Common.{◌≡◌, inl, inr, true≢false, ℕ, suc, nat_lt, Bool, true, false, List, [], ◌∷◌, ◌++◌, length, drop, Option, Some, None, refl, subst, sym, ◌∙◌, ap, append_assoc, arith}
use Rattle.std.proofs.lemmas.List.{drop_at, drop_all}
use Rattle.std.proofs.lemmas.Bool.{and_parts}
use Rattle.std.specs.Prelude.{IsTrue, if◌then◌else◌}
use Rattle.html_types.specs.declared.operation.NodeId.{NodeId}
use Rattle.html_types.specs.declared.instruction.Stop.TheVariants as stop
use Rattle.html_types.specs.declared.ending.Ending.{Ending}
use Rattle.html_types.specs.declared.ending.Ending.TheVariants as ending
use Rattle.standard.specs.Entities.{Entities}
use Rattle.standard.specs.Parser.{finish, Parser}
use Rattle.serial.specs.Serial.{World, Serial, prepared, Moment, reading, tag_ended, awaits, over}
use Rattle.core_definitions.specs.declared.event.Event.{Event}
use Rattle.core_definitions.specs.declared.event.Event.TheVariants.{Send, Pick, Give, Take, Do, Arrive}
use Rattle.core_definitions.specs.declared.verdict.Verdict.{Verdict}
use Rattle.core_definitions.specs.declared.verdict.Verdict.TheVariants.{Keep, Rewind}
use Rattle.core_definitions.specs.Batches.{Piece, Batch, Halt, at, answer, end_batch, over_with}
use Rattle.core_definitions.specs.Verdict.{Watch, runs}
use Rattle.core_definitions.specs.Settling.{is_empty}
use Rattle.core_definitions.specs.Desk.{Phase, free, tagged, waits, done, Desk, blank, is_free, stale, wants_reply, sends_first, with_batches, drops, answer_called_for, takes, at_end_tag, behind_halt, with_executed, executes, decided, Concludes, RunsOn, DoesIn, Moves, MovesBy, renewed}
use Rattle.core_definitions.specs.StandsFor.{own_moment, text_of, page_left}
use Rattle.core_laws.specs.Alike.{AreAlike}
use Rattle.core_laws.proofs.Cutting.{GoesOn, IsText, IsLast, first-batch, answered-by-nothing, blank-answer}
use Rattle.core_laws.proofs.Known.{InPhase, InHand, InWatch, Stood, Reads, reads}
use Rattle.core_laws.proofs.Doing.{do-text, do-ending}
use Rattle.core_laws.proofs.Running.{do-script, tag-next, fetch-next}
use Rattle.core_laws.proofs.Ledger.{EndsWith, EndsAt, Piped, Pipe, again-text, again-ends, last-piece}

pub record Holding (e : Ending) (w : World) (m0 : Moment) (v0 : Watch) (d : Desk) : Type 0 where
  pub stood : Stood e w m0 v0 (page_left d) d
  pub pipe : Pipe w.entities e d.phase d

-- what is known of it says nothing of pieces, batches and counts
pub stood-with : (e : Ending) (w : World) (m0 : Moment) (v0 : Watch) (page : List ℕ) (d : Desk) (h : List Batch) (l : Piece) (a t : List Piece) (b : Option Parser) (s k x : ℕ) (n : List (List ℕ)) →
    Stood e w m0 v0 page d → Stood e w m0 v0 page (record d { hand = h; left = l; asked = a; to_send = t; begins = b; sent = s; taken = k; dropped = x; arrived = n })
stood-with e w m0 v0 page d h l a t b s k x n (m, v, r, seen, known) =
    (m, v, r, seen, record { names = known.names; alike = known.alike; in_phase = known.in_phase; failed = known.failed; watch = known.watch })

-- and what is in its pieces says nothing of the counts
pub pipe-with : (es : Entities) (e : Ending) (p : Phase) (d : Desk) (b : Option Parser) (s k x : ℕ) (n : List (List ℕ)) → Pipe es e p d →
    Pipe es e p (record d { begins = b; sent = s; taken = k; dropped = x; arrived = n })
pipe-with es e free d b s k x n h = record { hand = h.hand; pieces = h.pieces }
pipe-with es e (tagged i held) d b s k x n h = record { hand = h.hand; pieces = h.pieces }
pipe-with es e (waits name held) d b s k x n h = record { hand = h.hand; pieces = h.pieces }
pipe-with es e (done r) d b s k x n h = tt

pub free-of : (p : Phase) → is_free p ≡ true → p ≡ free
free-of free q = refl
free-of (tagged i held) q = absurd (true≢false (sym q))
free-of (waits name held) q = absurd (true≢false (sym q))
free-of (done r) q = absurd (true≢false (sym q))

pub nil-of : (bs : List Batch) → is_empty bs ≡ true → bs ≡ []
nil-of [] q = refl
nil-of (b ∷ bs) q = absurd (true≢false (sym q))

module _ (e : Ending) (w : World) (m0 : Moment) (v0 : Watch) where
  abbrev Holds : Desk → Type 0
  Holds d = Holding e w m0 v0 d

  -- ---- Send

  sent-pieces : (x : Piece) (xs a : List Piece) → (a ++ x ∷ []) ++ xs ≡ a ++ x ∷ xs
  sent-pieces x xs a = append_assoc a (x ∷ []) xs

  sent-pipe : (p : Phase) (d : Desk) (x : Piece) (xs : List Piece) → d.to_send ≡ x ∷ xs → Pipe w.entities e p d →
      Pipe w.entities e p (record d { asked = d.asked ++ x ∷ []; to_send = xs; begins = None; sent = suc d.sent })
  sent-pipe free d x xs q h = record { hand = h.hand; pieces = subst (λ ys. EndsWith (d.left ∷ ys) e) (ap (λ ys. d.asked ++ ys) q ∙ sym (sent-pieces x xs d.asked)) h.pieces }
  sent-pipe (tagged i held) d x xs q h = record { hand = h.hand; pieces = subst (λ ys. EndsWith (d.left ∷ ys) e) (ap (λ ys. d.asked ++ ys) q ∙ sym (sent-pieces x xs d.asked)) h.pieces }
  sent-pipe (waits name held) d x xs q h = record { hand = h.hand; pieces = subst (λ ys. EndsWith (d.left ∷ ys) e) (ap (λ ys. d.asked ++ ys) q ∙ sym (sent-pieces x xs d.asked)) h.pieces }
  sent-pipe (done r) d x xs q h = tt

  sends-hold : (d : Desk) (ps : List Piece) → d.to_send ≡ ps → Holds d → Holds (sends_first ps d)
  sends-hold d [] q h = h
  sends-hold d (x ∷ xs) q h = record {
    stood = subst (λ t. Stood e w m0 v0 t (record d { asked = d.asked ++ x ∷ []; to_send = xs; begins = None; sent = suc d.sent }))
        (ap (λ ys. text_of (d.left ∷ ys)) (ap (λ ys. d.asked ++ ys) q ∙ sym (sent-pieces x xs d.asked)))
        (stood-with e w m0 v0 (page_left d) d d.hand d.left (d.asked ++ x ∷ []) xs None (suc d.sent) d.taken d.dropped d.arrived h.stood);
    pipe = sent-pipe d.phase d x xs q h.pipe;
  }

  -- ---- Take

  drops-hold : (d : Desk) → Holds d → Holds (drops d)
  drops-hold d h = record {
    stood = stood-with e w m0 v0 (page_left d) d d.hand d.left d.asked d.to_send d.begins d.sent (suc d.taken) (suc d.dropped) d.arrived h.stood;
    pipe = pipe-with w.entities e d.phase d d.begins d.sent (suc d.taken) (suc d.dropped) d.arrived h.pipe;
  }

  takes-first : (d : Desk) (ps : List Piece) → d.asked ≡ ps → d.phase ≡ free → d.hand ≡ [] → Holds d → Holds (with_batches (answer_called_for w.entities d ps) ps d)
  takes-first d [] q at_free nil h = h
  takes-first d (x ∷ xs) q at_free nil h =
      let p : Piped w.entities e d.own.parser d = subst (λ f. Pipe w.entities e f d) at_free h.pipe in
      let used = answered-by-nothing w.entities d.own.parser d.left (sym nil ∙ p.hand) in
      let page : page_left d ≡ text_of (x ∷ xs ++ d.to_send) =
      ap (λ ps. d.left.text ++ text_of (ps ++ d.to_send)) q ∙ ap (λ t. t ++ text_of (x ∷ xs ++ d.to_send)) used.text in
      let pieces : EndsWith (x ∷ xs ++ d.to_send) e =
      subst (λ o. EndsAt o (x ∷ xs ++ d.to_send) e (EndsWith (x ∷ xs ++ d.to_send) e)) used.ending (subst (λ ps. EndsWith (d.left ∷ ps ++ d.to_send) e) q p.pieces) in
      let bs : List Batch = (answer w.entities (Some d.own.parser) x).batches in
      let d' : Desk = record d { hand = bs; left = x; asked = xs; taken = suc d.taken } in
      record {
        stood = subst (λ t. Stood e w m0 v0 t d') page (stood-with e w m0 v0 (page_left d) d bs x xs d.to_send d.begins d.sent (suc d.taken) d.dropped d.arrived h.stood);
        pipe = subst (λ f. Pipe w.entities e f d') (sym at_free) (record { hand = refl; pieces = pieces });
      }

  takes-hold : (d : Desk) → IsTrue (wants_reply d) → Holds d → Holds (takes w.entities d)
  takes-hold d can h = by (nat_lt 0 (stale d))
    where
      by : (b : Bool) → Holds (if b then drops d else with_batches (answer_called_for w.entities d d.asked) d.asked d)
      by true = drops-hold d h
      by false = takes-first d d.asked refl (free-of d.phase (and_parts _ _ (and_parts _ _ can).0).0) (nil-of d.hand (and_parts _ _ (and_parts _ _ can).0).1) h

  -- ---- Arrive

  arrives-hold : (d : Desk) (name : List ℕ) → Holds d → Holds (record d { arrived = name ∷ d.arrived })
  arrives-hold d name h = record {
    stood = stood-with e w m0 v0 (page_left d) d d.hand d.left d.asked d.to_send d.begins d.sent d.taken d.dropped (name ∷ d.arrived) h.stood;
    pipe = pipe-with w.entities e d.phase d d.begins d.sent d.taken d.dropped (name ∷ d.arrived) h.pipe;
  }

  -- ---- Do over a batch

  abbrev at_free : Desk → Desk
  at_free d = record d { phase = free }

  tag-pipe : (d : Desk) (i : NodeId) (run : Bool) → Piped w.entities e d.own.parser d → Pipe w.entities e (at_end_tag run i (at_free d)).phase (at_end_tag run i (at_free d))
  tag-pipe d i true h = record { hand = h.hand; pieces = h.pieces }
  tag-pipe d i false h = record { hand = h.hand; pieces = h.pieces }

  halt-pipe : (h : Halt) (d : Desk) → EndsWith (d.left ∷ d.asked ++ d.to_send) e → GoesOn h (d.hand ≡ (answer w.entities (Some d.own.parser) d.left).batches) →
      Pipe w.entities e (behind_halt h (at_free d)).phase (behind_halt h (at_free d))
  halt-pipe (at stop.InputEnd) d ps g = record { hand = g; pieces = ps }
  halt-pipe (at (stop.Script i)) d ps g = tag-pipe d i (runs (prepared i d.own)) (record { hand = g; pieces = ps })
  halt-pipe (at stop.Deep) d ps g = tt
  halt-pipe (over_with y) d ps g = tt

  tag-page : (d : Desk) (i : NodeId) (run : Bool) → page_left (at_end_tag run i d) ≡ page_left d
  tag-page d i true = refl
  tag-page d i false = refl

  halt-page : (h : Halt) (d : Desk) → page_left (behind_halt h d) ≡ page_left d
  halt-page (at stop.InputEnd) d = refl
  halt-page (at (stop.Script i)) d = tag-page d i (runs (prepared i d.own))
  halt-page (at stop.Deep) d = refl
  halt-page (over_with y) d = refl

  text-holds : (d : Desk) (b : Batch) (bs : List Batch) → d.phase ≡ free → d.hand ≡ b ∷ bs → Piped w.entities e d.own.parser d → Stood e w m0 v0 (page_left d) d → IsText w.entities d.own.parser d.left b bs →
      Holds (executes (b ∷ bs) d)
  text-holds d b bs q hand p (m, v, r, seen, known) t =
      let tail : List ℕ = text_of (d.asked ++ d.to_send) in
      let rest : List ℕ = t.rest ++ tail in
      let page : page_left d ≡ b.text ++ rest = ap (λ x. x ++ tail) t.text ∙ append_assoc b.text t.rest tail in
      let left : drop (length b.text) d.left.text ≡ t.rest = ap (drop (length b.text)) t.text ∙ drop_at b.text t.rest (length b.text) refl in
      let k : Reads r (page_left d) m d.own = reads r (page_left d) m d.own (subst (λ f. AreAlike r (page_left d) m (own_moment f d.own)) q known.alike) (subst (λ f. InPhase f r d.own.input d.realm) q known.in_phase) in
      let i : InWatch free r (page_left d) v = subst (λ f. InWatch f r (page_left d) v) q known.watch in
      let d1 : Desk = with_executed b bs d in
      let page' : page_left (behind_halt b.halt d1) ≡ rest = halt-page b.halt d1 ∙ ap (λ x. x ++ tail) left in
      let onward : GoesOn b.halt (bs ≡ (answer w.entities (Some b.after) (record d.left { text = drop (length b.text) d.left.text })).batches) =
      subst (λ x. GoesOn b.halt (bs ≡ (answer w.entities (Some b.after) (record d.left { text = x })).batches)) (sym left) t.more in
      record {
        stood = subst (λ x. Stood e w m0 v0 x (executes (b ∷ bs) d)) (sym page') (do-text e w m0 v0 r (page_left d) rest d d.left b bs m v q known.names k t page known.failed i seen);
        pipe = subst (λ (f : Phase). Pipe w.entities e (behind_halt b.halt (record d1 { phase = f })).phase (behind_halt b.halt (record d1 { phase = f }))) (sym q) (halt-pipe b.halt d1 p.pieces onward);
      }

  end-pipe : (x : Ending) (p : Parser) (d : Desk) → Pipe w.entities e (behind_halt (end_batch w.entities p x).halt d).phase (behind_halt (end_batch w.entities p x).halt d)
  end-pipe ending.End p d = tt
  end-pipe ending.Bad p d = tt
  end-pipe ending.Long p d = tt
  end-pipe ending.Fault p d = tt

  ending-holds : (d : Desk) (b : Batch) (bs : List Batch) → d.phase ≡ free → Piped w.entities e d.own.parser d → Stood e w m0 v0 (page_left d) d → IsLast w.entities d.own.parser d.left b bs → Holds (executes (b ∷ bs) d)
  ending-holds d b bs q p (m, v, r, seen, known) t =
      let tail : List ℕ = text_of (d.asked ++ d.to_send) in
      let only : (t.ending ≡ e) × (d.asked ++ d.to_send ≡ []) = last-piece d.left.ending (d.asked ++ d.to_send) e t.ending t.carries p.pieces in
      let nothing : tail ≡ [] = ap text_of only.1 in
      let page : page_left d ≡ [] = ap (λ x. x ++ tail) t.text ∙ nothing in
      let k : Reads r (page_left d) m d.own = reads r (page_left d) m d.own (subst (λ f. AreAlike r (page_left d) m (own_moment f d.own)) q known.alike) (subst (λ f. InPhase f r d.own.input d.realm) q known.in_phase) in
      let is : b ≡ end_batch w.entities d.own.parser e = t.is ∙ ap (end_batch w.entities d.own.parser) only.0 in
      let d1 : Desk = with_executed b bs d in
      let left : drop (length b.text) d.left.text ≡ [] = ap (drop (length b.text)) t.text ∙ drop_all (length b.text) [] (omega arith) in
      let page' : page_left (behind_halt b.halt d1) ≡ [] = halt-page b.halt d1 ∙ (ap (λ x. x ++ tail) left ∙ nothing) in
      record {
        stood = subst (λ x. Stood e w m0 v0 x (executes (b ∷ bs) d)) (sym page') (do-ending e w m0 v0 r (page_left d) d b bs m v q known.names k page is known.failed seen);
        pipe = subst (λ (h : Halt). Pipe w.entities e (behind_halt h d1).phase (behind_halt h d1)) (ap (λ (x : Batch). x.halt) (sym is)) (end-pipe e d.own.parser d1);
      }

  executes-hold : (d : Desk) (bs : List Batch) → d.phase ≡ free → d.hand ≡ bs → Holds d → Holds (executes bs d)
  executes-hold d [] q hand h = h
  executes-hold d (b ∷ bs) q hand h =
      let p : Piped w.entities e d.own.parser d = subst (λ f. Pipe w.entities e f d) q h.pipe in
      elim (first-batch w.entities d.own.parser d.left b bs (sym hand ∙ p.hand)) [
        | inl t ↦ text-holds d b bs q hand p h.stood t
        | inr t ↦ ending-holds d b bs q p h.stood t
      ]

  -- ---- Do with a script in hand

  -- what is left of the page is the same, and in order
  abbrev Onward : Desk → Desk → Type 0
  Onward d d' = (page_left d' ≡ page_left d) × Pipe w.entities e d'.phase d'

  decided-onward : (held : Parser) (c : Verdict) (s : Serial) (d : Desk) → Piped w.entities e held d → Onward d (decided c held s d)
  decided-onward held Keep s d h = (refl, record { hand = h.hand; pieces = h.pieces })
  decided-onward held Rewind s d h = (again-text (d.left ∷ d.asked) d.to_send, record { hand = nothing; pieces = again-ends (d.left ∷ d.asked) d.to_send e h.pieces })
    where
      nothing : [] ≡ (answer w.entities (Some (renewed d.realm s.parser)) blank).batches
      nothing = blank-answer w.entities (renewed d.realm s.parser)

  concluded-onward : (held : Parser) (own : Moment) (d d' : Desk) → Piped w.entities e held d → Concludes held own d d' → Onward d d'
  concluded-onward held (reading s) d d' h (c, verdict, is) = subst (Onward d) (sym is) (decided-onward held c s d h)
  concluded-onward held (tag_ended i s) d d' h is = absurd is
  concluded-onward held (awaits name s) d d' h is = subst (Onward d) (sym is) (refl, record { hand = h.hand; pieces = h.pieces })
  concluded-onward held (over o) d d' h is = subst (Onward d) (sym is) (refl, tt)

  script-holds : (held : Parser) (own : Moment) (d d' : Desk) → Piped w.entities e held d → Stood e w m0 v0 (page_left d) d' → RunsOn w held own d d' → Holds d'
  script-holds held own d d' h stood (own', settles, concluded) =
      let o : Onward d d' = concluded-onward held own' d d' h concluded in
      record { stood = subst (λ x. Stood e w m0 v0 x d') (sym o.0) stood; pipe = o.1 }

  does-hold : (d d' : Desk) (p : Phase) → d.phase ≡ p → Holds d → DoesIn w p d d' → Holds d'
  does-hold d d' free q h is = subst Holds (sym is) (executes-hold d d.hand q refl h)
  does-hold d d' (tagged i held) q h runs_on =
      let (m, v, r, seen, known) = h.stood in
      let page : List ℕ = page_left d in
      let hand : InHand r page held v = subst (λ f. InWatch f r page v) q known.watch in
      let alike : AreAlike r page m (tag_ended i d.own) = subst (λ f. AreAlike r page m (own_moment f d.own)) q known.alike in
      script-holds held (tag_ended i d.own) d d' (subst (λ f. Pipe w.entities e f d) q h.pipe)
      (do-script e w m0 v0 r page v hand.1 held d d' m (tag_ended i d.own) hand known.failed known.names (subst (λ f. InPhase f r d.own.input d.realm) q known.in_phase) seen (tag-next e w r page m i d.own alike) runs_on)
      runs_on
  does-hold d d' (waits name held) q h runs_on =
      let (m, v, r, seen, known) = h.stood in
      let page : List ℕ = page_left d in
      let hand : InHand r page held v = subst (λ f. InWatch f r page v) q known.watch in
      let alike : AreAlike r page m (awaits name d.own) = subst (λ f. AreAlike r page m (own_moment f d.own)) q known.alike in
      script-holds held (awaits name d.own) d d' (subst (λ f. Pipe w.entities e f d) q h.pipe)
      (do-script e w m0 v0 r page v hand.1 held d d' m (awaits name d.own) hand known.failed known.names (subst (λ f. InPhase f r d.own.input d.realm) q known.in_phase) seen (fetch-next e w r page m name d.own alike) runs_on)
      runs_on
  does-hold d d' (done x) q h is = absurd is

  -- ---- events

  pub moves-hold : (ahead : ℕ) (v : Event) (d d' : Desk) → Moves ahead w v d d' → Holds d → Holds d'
  moves-hold ahead Send d d' (can, is) h = subst Holds (sym is) (sends-hold d d.to_send refl h)
  moves-hold ahead Pick d d' moves h = absurd moves
  moves-hold ahead Give d d' moves h = absurd moves
  moves-hold ahead Take d d' (can, is) h = subst Holds (sym is) (takes-hold d can h)
  moves-hold ahead Do d d' (can, does) h = does-hold d d' d.phase refl h does
  moves-hold ahead (Arrive name) d d' (can, is) h = subst Holds (sym is) (arrives-hold d name h)

  pub moves-by-hold : (ahead : ℕ) (vs : List Event) (d d' : Desk) → MovesBy ahead w vs d d' → Holds d → Holds d'
  moves-by-hold ahead [] d d' is h = subst Holds (sym is) h
  moves-by-hold ahead (v ∷ vs) d d' (d1, moves, rest) h = moves-by-hold ahead vs d1 d' rest (moves-hold ahead v d d1 moves h)
