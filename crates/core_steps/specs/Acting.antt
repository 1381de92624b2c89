-- What the parts of Do make of what the document's side holds.
use Rattle.std.specs.Prelude.{◌≡◌, ◌≤◌, ◌+◌, ℕ, suc, Bool, true, false, IsTrue, List, [], ◌∷◌, ◌++◌, length, Option, Some, None}
use Rattle.std.specs.Str.{chars, IsUtf8}
use Rattle.html_types.specs.declared.operation.NodeId.{NodeId}
use Rattle.html_types.specs.declared.instruction.Stop.TheVariants as stop
use Rattle.html_types.specs.declared.ending.Why.{Why}
use Rattle.html_types.specs.declared.ending.Why.TheVariants as why
use Rattle.standard.specs.Act.{acts, is_bound, node_of}
use Rattle.standard.specs.Parser.{Parser}
use Rattle.standard.specs.Prepare.{prepare}
use Rattle.serial.specs.Scripts.{Fetched, got, missing, faulted, file_statements}
use Rattle.core_definitions.specs.declared.verdict.Verdict.{Verdict}
use Rattle.core_definitions.specs.declared.verdict.Verdict.TheVariants.{Keep, Rewind}
use Rattle.core_definitions.specs.Batches.{Batch, Halt, at, answer}
use Rattle.core_definitions.specs.Verdict.{IsVerdict, runs}
use Rattle.core_definitions.specs.Desk.{renewed}
use Rattle.core_laws.proofs.Cutting.{GoesOn}
use Rattle.moment_laws.specs.Served.{IsRoomy}
use Rattle.page_pieces.specs.Keeping.{rewound}
use Rattle.speculation.specs.declared.batch.Halt as code
use Rattle.speculation.specs.declared.batch.Halt.TheVariants as halt
use Rattle.speculation.specs.Halting.{halt_of}
use Rattle.write_parser.specs.declared.left.Left.{Left}
use Rattle.write_parser.specs.declared.left.Left.TheVariants as left
use Rattle.write_parser.specs.Writing.{View, AtTag, Stands, LeadsTo, LeftIs, HasRun, HasMissed, left_to_do}
use Rattle.core_steps.specs.declared.stage.Stage.{Stage}
use Rattle.core_steps.specs.declared.stage.Stage.TheVariants.{Free, Tagged, Waits, Done}
use Rattle.core_steps.specs.declared.side.Side.{Side}
use Rattle.parse_machine.specs.declared.end.End.{End}
use Rattle.parse_machine.specs.declared.end.End.TheVariants as end
use Rattle.core_steps.specs.Journals.{found}
use Rattle.core_steps.specs.Sides.{IsHolding, AreAhead, IsPlaced}

-- the parse is over, perhaps with a script in hand
abbrev pub ended : End → Bool → Side → Side
ended e in_hand s = record s { ready = []; stage = Done e in_hand }

abbrev pub at_stage : Stage → Side → Side
at_stage t s = record s { stage = t }

-- ---- with no script in hand

-- of the piece in hand that text is left, at that place of the page
abbrev pub used_up : List ℕ → ℕ → Side → Side
used_up rest place s = record s { ledger = record s.ledger { left = record s.ledger.left { text = rest } }; counts = record s.counts { place = place } }

-- so many bytes are a front of the text
pub record IsFront (bytes : ℕ) (text : List ℕ) : Type 0 where
  pub front : List ℕ
  pub utf8 : IsUtf8 front
  pub size : bytes ≡ length front
  pub rest : List ℕ
  pub is : text ≡ chars front ++ rest

-- so many bytes of the piece in hand are executed
pub record UsedUp (bytes : ℕ) (old new : Side) : Type 0 where
  pub rest : List ℕ
  pub place : ℕ
  pub is : new ≡ used_up rest place old
  pub same : (front behind : List ℕ) → IsUtf8 front → bytes ≡ length front → old.ledger.left.text ≡ chars front ++ behind → rest ≡ behind
  pub placed : IsPlaced new.counts.place new.counts.sent_to new.ledger new.journal

abbrev pub behind_first : List Batch → List Batch
behind_first [] = []
behind_first (b ∷ bs) = bs

-- the batches that what is left of the piece in hand comes to
abbrev pub free_hand : Side → List Batch
free_hand s = (answer s.table (Some s.writer.parser) s.ledger.left).batches

abbrev pub IsHaltBound : (NodeId → Bool) → Halt → Type 0
IsHaltBound known (at (stop.Script i)) = IsTrue (known i)
IsHaltBound known _ = Unit {0}

-- The first batch in hand was executed.
pub record Executed (old : Side) (h : code.Halt) (new : Side) : Type 0 where
  pub batch : Batch
  pub behind : List Batch
  pub hand : free_hand old ≡ batch ∷ behind
  pub halt : halt_of h ≡ batch.halt
  -- the text behind that of the batch
  pub rest : List ℕ
  pub text : old.ledger.left.text ≡ batch.text ++ rest
  pub place : ℕ
  pub is : new ≡ record old {
    writer = record old.writer { parser = batch.after; doc = acts old.writer.doc batch.ops };
    ledger = record old.ledger { left = record old.ledger.left { text = rest } };
    ready = new.ready;
    counts = record old.counts { place = place };
  }
  pub more : GoesOn batch.halt (behind ≡ free_hand new)
  pub some : GoesOn batch.halt (1 ≤ length batch.text)
  pub ahead : GoesOn batch.halt (AreAhead new.ready (free_hand new))
  pub room : IsRoomy old.counts.realm new.writer.parser new.writer.doc
  pub bound : IsHaltBound (is_bound new.writer.doc.bound) batch.halt
  pub placed : IsPlaced new.counts.place new.counts.sent_to new.ledger new.journal

-- a script that runs is in hand, and what it writes has ids of its own
abbrev pub MeetsTag : Bool → NodeId → Side → Side → Type 0
MeetsTag false i old new = new ≡ old
MeetsTag true i old new = new ≡ record old {
  writer = record old.writer { parser = renewed old.counts.realm old.writer.parser };
  stage = Tagged i old.writer.parser;
  counts = record old.counts { realm = suc old.counts.realm };
}

abbrev pub runs_there : NodeId → Side → Bool
runs_there i s = runs (prepare s.writer.doc.tree (node_of s.writer.doc.bound i))

abbrev pub Halts : code.Halt → Side → Side → Type 0
Halts (halt.At stop.InputEnd) old new = new ≡ old
Halts (halt.At (stop.Script i)) old new = MeetsTag (runs_there i old) i old new
Halts (halt.At stop.Deep) old new = new ≡ ended (end.Refused why.Depth) false old
Halts (halt.Over e) old new = new ≡ ended e false old

-- a batch was executed, and what its end asks for was done
pub record RunsBatch (old new : Side) : Type 0 where
  pub halt : code.Halt
  pub mid : Side
  pub executed : Executed old halt mid
  pub halts : Halts halt mid new

-- ---- with a script in hand

abbrev pub with_writer : View → Side → Side
with_writer v s = record s { writer = v }

abbrev pub JudgedAs : Verdict → Parser → Side → Side → Type 0
JudgedAs Keep held old new = new ≡ record old { writer = record old.writer { parser = held }; stage = Free }
JudgedAs Rewind held old new =
    let now : Parser = renewed old.counts.realm old.writer.parser in
    new ≡ record old {
      writer = record old.writer { parser = now };
      ledger = rewound old.ledger;
      stage = Free;
      ready = [];
      begins = Some now;
      counts = record { epoch = suc old.counts.epoch; realm = suc old.counts.realm; place = old.counts.place; sent_to = old.counts.place };
    }

-- what was made ahead of the script was kept or thrown away
abbrev pub Judged : Parser → Side → Side → Type 0
Judged held old new = (c : Verdict) × IsVerdict held old.writer.parser c × JudgedAs c held old new

abbrev pub LeavesBy : Left → Parser → Side → Side → Type 0
LeavesBy left.Empty held old new = Judged held old new
LeavesBy (left.Awaits name) held old new = new ≡ record old { stage = Waits name held }
LeavesBy (left.Refused l) held old new = new ≡ ended (end.Refused l) true old

-- What was written was parsed as far as it goes.
pub record Settled (held : Parser) (old new : Side) : Type 0 where
  pub mid : View
  pub answer : Left
  pub leads : LeadsTo old.table (Stands old.writer) mid
  pub left : LeftIs mid answer
  pub kept : mid.spent ≡ false
  pub no_more : left_to_do mid ≤ left_to_do old.writer
  pub holding : mid.halted ≡ None → IsHolding old.counts.realm held mid
  pub leaves : LeavesBy answer held (with_writer mid old) new

-- the script whose end tag was met ran
pub record RunsTagged (i : NodeId) (held : Parser) (old new : Side) : Type 0 where
  pub mid : View
  pub leads : LeadsTo old.table (AtTag i old.writer) mid
  pub one_more : left_to_do mid ≤ left_to_do old.writer + 1
  pub settled : Settled held (with_writer mid old) new

-- what came of a script of that name, which has arrived: one that isn't lawful is missing
abbrev pub fetch_or_missing : Option Fetched → Fetched
fetch_or_missing None = missing
fetch_or_missing (Some f) = f

abbrev pub met : Side → List ℕ → Fetched
met s name = fetch_or_missing (found name s.journal.fetches)

-- the script that was awaited ran
pub record RunsText (text : List ℕ) (held : Parser) (old new : Side) : Type 0 where
  pub mid : View
  pub ran : HasRun old.table None old.writer mid (file_statements text)
  pub less : suc (left_to_do mid) ≤ left_to_do old.writer
  pub settled : Settled held (with_writer mid old) new

-- or is missing
pub record Misses (name : List ℕ) (held : Parser) (old new : Side) : Type 0 where
  pub mid : View
  pub missed : HasMissed None (Some name) old.writer mid
  pub less : suc (left_to_do mid) ≤ left_to_do old.writer
  pub settled : Settled held (with_writer mid old) new

abbrev pub RunsFetched : Fetched → List ℕ → Parser → Side → Side → Type 0
RunsFetched (got bytes) name held old new = RunsText bytes held old new
RunsFetched missing name held old new = Misses name held old new
RunsFetched faulted name held old new = new ≡ ended (end.Refused why.Fault) true old

-- ---- by what is in hand

abbrev pub ActsBy : Stage → Side → Side → Type 0
ActsBy Free old new = RunsBatch old new
ActsBy (Tagged i held) old new = RunsTagged i held old new
ActsBy (Waits name held) old new = RunsFetched (met old name) name held old new
ActsBy (Done w in_hand) old new = ⊥
