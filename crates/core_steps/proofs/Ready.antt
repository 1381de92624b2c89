-- The first batch in hand is there, can be executed, and is executed.
use Rattle.std.proofs.Common.{◌≡◌, ℕ, Bool, true, false, true≢false, List, [], ◌∷◌, Option, Some, None, refl, sym, ◌∙◌, ap, subst, IsTrue}
use Rattle.std.specs.Prelude.{◌↔◌}
use Rattle.html_types.specs.declared.operation.NodeId.{NodeId}
use Rattle.html_types.specs.declared.operation.Op.{Op}
use Rattle.html_types.specs.declared.instruction.Stop.TheVariants as stop
use Rattle.standard.specs.Act.{acts, is_bound, AreOpsBound}
use Rattle.standard.specs.Parser.{Parser}
use Rattle.core_definitions.specs.Batches.{Batch}
use Rattle.core_definitions.specs.Settling.{is_empty}
use Rattle.moment_laws.specs.Served.{IsRoomy}
use Rattle.moment_laws.proofs.Served.{room-serves}
use Rattle.write_parser.specs.Parsing.{IsServed}
use Rattle.write_parser.specs.Writing.{View}
use Rattle.speculation.specs.declared.batch.Halt as code
use Rattle.speculation.specs.declared.batch.Halt.TheVariants as halt
use Rattle.speculation.specs.Halting.{halt_of}
use Rattle.core_steps.specs.declared.stage.Stage.{Stage}
use Rattle.core_steps.specs.declared.stage.Stage.TheVariants.{Free}
use Rattle.core_steps.specs.declared.side.Side.{Side}
use Rattle.core_steps.specs.Sides.{hand_of, IsFree, StandsIn, AreAhead, IsSound}
use Rattle.core_steps.specs.Acting.{free_hand, behind_first, IsHaltBound, Executed, Halts, RunsBatch}
use Rattle.core_steps.proofs.Hands.{IsServed as CanServe, next-of}
use Rattle.core_steps.proofs.Executes.{behind}

-- ---- it is there

module _ (s : Side) (free : s.stage ≡ Free) (sound : IsSound s) where
  pub is-free : IsFree s.counts.realm s.writer
  is-free = subst (λ t. StandsIn t s.counts.realm s.writer) free sound.stands

  are-ahead : AreAhead s.ready (free_hand s)
  are-ahead = subst (λ t. AreAhead s.ready (hand_of s.table t s.writer.parser s.ledger.left)) free sound.ahead

  -- where batches were made ahead
  pub first-ready : (b : Batch) (bs : List Batch) → s.ready ≡ b ∷ bs → free_hand s ≡ b ∷ bs
  first-ready b bs is = sym (subst (λ r. AreAhead r (free_hand s)) is are-ahead)

pub none-ahead : (bs hand : List Batch) → bs ≡ [] → AreAhead bs hand
none-ahead bs hand is = subst (λ r. AreAhead r hand) (sym is) tt

-- those behind the first
pub rest-ahead : (hand : List Batch) (b : Batch) (bs : List Batch) → hand ≡ b ∷ bs → AreAhead bs (behind_first hand)
rest-ahead hand b bs is = subst (λ h. AreAhead bs (behind_first h)) (sym is) (by bs)
  where
    by : (cs : List Batch) → AreAhead cs cs
    by [] = tt
    by (c ∷ cs) = refl

pub not-empty : (t u : List ℕ) (b : Bool) → u ≡ t → IsTrue b ↔ (u ≡ []) → b ≡ false → is_empty t ≡ false
not-empty [] u b is h failed = absurd (true≢false (sym (h.1 is) ∙ failed))
not-empty (c ∷ cs) u b is h failed = refl

-- ---- it can be executed

module _ (old : Side) (b : Batch) (bs : List Batch) (hand : free_hand old ≡ b ∷ bs) (free : IsFree old.counts.realm old.writer) (ops : List Op) (p : Parser) (same : ops ≡ b.ops) where
  serves : CanServe old.counts.realm old.writer.doc b
  serves = (next-of old.table old.writer.parser old.ledger.left b bs hand).serves old.counts.realm old.writer.doc free.room

  pub ops-bound : AreOpsBound (is_bound old.writer.doc.bound) ops
  ops-bound = subst (AreOpsBound (is_bound old.writer.doc.bound)) (sym same) serves.ops

  module _ (at : p ≡ b.after) where
    pub machine-served : IsServed p (acts old.writer.doc ops)
    machine-served =
        subst (λ o. IsServed p (acts old.writer.doc o)) (sym same)
        (subst (λ q. IsServed q (acts old.writer.doc b.ops)) (sym at) (room-serves old.counts.realm b.after (acts old.writer.doc b.ops) serves.room))

    pub executed-behind : (v : View) → v ≡ record old.writer { parser = p; doc = acts old.writer.doc ops } → record old { writer = v } ≡ behind b old
    executed-behind v is =
        ap (λ z. record old { writer = z })
        (is ∙ (ap (λ o. record old.writer { parser = p; doc = acts old.writer.doc o }) same ∙ ap (λ q. record old.writer { parser = q; doc = acts old.writer.doc b.ops }) at))

-- ---- it is executed

-- from what is held without it
pub executed-anew : (old : Side) (r : List Batch) (h : code.Halt) (new : Side) → Executed (record old { ready = r }) h new → Executed old h new
executed-anew old r h new x = record {
  batch = x.batch;
  behind = x.behind;
  hand = x.hand;
  halt = x.halt;
  rest = x.rest;
  text = x.text;
  place = x.place;
  is = x.is;
  more = x.more;
  some = x.some;
  ahead = x.ahead;
  room = x.room;
  bound = x.bound;
  placed = x.placed;
}

module _ (old mid : Side) (h : code.Halt) (x : Executed old h mid) where
  pub tag-bound : (i : NodeId) → h ≡ halt.At (stop.Script i) → IsTrue (is_bound mid.writer.doc.bound i)
  tag-bound i is = subst (IsHaltBound (is_bound mid.writer.doc.bound)) (sym x.halt ∙ ap halt_of is) x.bound

  pub tag-room : IsRoomy mid.counts.realm mid.writer.parser mid.writer.doc
  tag-room = subst (λ r. IsRoomy r mid.writer.parser mid.writer.doc) (sym (ap (λ (z : Side). z.counts.realm) x.is)) x.room

  pub runs-batch : (new : Side) (k : code.Halt) → h ≡ k → Halts k mid new → RunsBatch old new
  runs-batch new k is halts = record { halt = k; mid = mid; executed = subst (λ z. Executed old z mid) is x; halts = halts }
