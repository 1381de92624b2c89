-- A script in hand runs: its parts, one behind another.
use Rattle.std.proofs.Common.{◌≡◌, ◌≤◌, ◌+◌, ◌<◌, ℕ, suc, Bool, false, List, Option, Some, None, refl, sym, ◌∙◌, ap, subst, arith}
use Rattle.std.specs.Prelude.{◌≢◌}
use Rattle.std.proofs.lemmas.Option.{none-some}
use Rattle.html_types.specs.declared.operation.NodeId.{NodeId}
use Rattle.serial.specs.declared.script.Statement.{Statement}
use Rattle.html_types.specs.declared.ending.Why.TheVariants as why
use Rattle.standard.specs.Act.{is_bound}
use Rattle.standard.specs.Parser.{Parser}
use Rattle.serial.specs.Scripts.{Fetched, got, missing, faulted, file_statements}
use Rattle.write_parser.specs.declared.left.Left.{Left}
use Rattle.write_parser.specs.declared.left.Left.TheVariants as left
use Rattle.write_parser.specs.Writing.{View, AtTag, LeadsTo, LeftIs, Feeds, HasRun, HasMissed, left_to_do}
use Rattle.core_steps.specs.declared.side.Side.{Side}
use Rattle.core_steps.specs.Journals.{found}
use Rattle.core_steps.specs.Sides.{IsHolding, IsTagged, IsWaiting}
use Rattle.core_steps.specs.Acting.{ended, with_writer, LeavesBy, Settled, RunsTagged, fetch_or_missing, met, RunsText, Misses, RunsFetched}
use Rattle.core_steps.proofs.Sound.{holding-tag, holding-ran, holding-missed, holding-settled}

-- ---- what was written is parsed as far as it goes

module _ (held : Parser) (old : Side) (mid : View) (answer : Left) (h : old.writer.halted ≡ None → IsHolding old.counts.realm held old.writer) (feeds : Feeds old.table old.writer mid answer) where
  pub still-holding : mid.halted ≡ None → IsHolding old.counts.realm held mid
  still-holding = holding-settled old.table old.counts.realm held old.writer mid h feeds.leads feeds.stays

  pub settled : (k : Left) (new : Side) → answer ≡ k → mid.spent ≡ false → left_to_do mid ≤ left_to_do old.writer → LeavesBy k held (with_writer mid old) new → Settled held old new
  settled k new is kept less leaves = record {
    mid = mid;
    answer = k;
    leads = feeds.leads;
    left = subst (LeftIs mid) is feeds.left;
    kept = kept;
    no_more = less;
    holding = still-holding;
    leaves = leaves;
  }

  -- where nothing is left
  pub holding-empty : answer ≡ left.Empty → IsHolding old.counts.realm held mid
  holding-empty is = let l : LeftIs mid left.Empty = subst (LeftIs mid) is feeds.left in still-holding l.0

-- ---- the script whose end tag was met

module _ (i : NodeId) (held : Parser) (old : Side) (mid : View) (h : IsTagged old.counts.realm held old.writer (is_bound old.writer.doc.bound i)) (leads : LeadsTo old.table (AtTag i old.writer) mid) where
  pub tagged-holding : mid.halted ≡ None → IsHolding old.counts.realm held mid
  tagged-holding going = holding-tag old.table old.counts.realm held old.writer mid i leads going h.holding

  pub runs-tagged : (new : Side) → left_to_do mid ≤ left_to_do old.writer + 1 → Settled held (with_writer mid old) new → RunsTagged i held old new
  runs-tagged new less settles = record { mid = mid; leads = leads; one_more = less; settled = settles }

-- ---- the script that was awaited

module _ (name : List ℕ) (held : Parser) (old : Side) (h : IsWaiting old.counts.realm name held old.writer) where
  some-pending : old.writer.pending ≢ None
  some-pending none = none-some name (sym none ∙ h.pending)

  module _ (bytes : List ℕ) (text : Option (List Statement)) (mid : View) (is : text ≡ file_statements bytes) (ran : HasRun old.table old.writer.halted old.writer mid text) where
    has-run : HasRun old.table None old.writer mid (file_statements bytes)
    has-run = subst (λ t. HasRun old.table None old.writer mid t) is (subst (λ k. HasRun old.table k old.writer mid text) h.halted ran)

    pub ran-holding : mid.halted ≡ None → IsHolding old.counts.realm held mid
    ran-holding going = holding-ran old.table old.counts.realm held bytes old.writer mid has-run going h.holding

    pub runs-text : (new : Side) → (old.writer.halted ≡ None → old.writer.pending ≢ None → left_to_do mid < left_to_do old.writer) → Settled held (with_writer mid old) new → RunsText bytes held old new
    runs-text new less settles = record { mid = mid; ran = has-run; less = let l : left_to_do mid < left_to_do old.writer = less h.halted some-pending in omega (arith, l); settled = settles }

  module _ (mid : View) (missed : HasMissed old.writer.halted old.writer.pending old.writer mid) where
    has-missed : HasMissed None (Some name) old.writer mid
    has-missed = subst (λ p. HasMissed None p old.writer mid) h.pending (subst (λ k. HasMissed k old.writer.pending old.writer mid) h.halted missed)

    pub missed-holding : mid.halted ≡ None → IsHolding old.counts.realm held mid
    missed-holding going = holding-missed old.counts.realm name held old.writer mid has-missed h.holding

    pub runs-missing : (new : Side) → (old.writer.halted ≡ None → old.writer.pending ≢ None → left_to_do mid < left_to_do old.writer) → Settled held (with_writer mid old) new → Misses name held old new
    runs-missing new less settles = record { mid = mid; missed = has-missed; less = let l : left_to_do mid < left_to_do old.writer = less h.halted some-pending in omega (arith, l); settled = settles }

-- what came of it
pub fetched-as : (name : List ℕ) (held : Parser) (old new : Side) (o : Option Fetched) (f : Fetched) → found name old.journal.fetches ≡ o → fetch_or_missing o ≡ f → RunsFetched f name held old new → RunsFetched (met old name) name held old new
fetched-as name held old new o f found is runs = subst (λ g. RunsFetched g name held old new) (sym (ap fetch_or_missing found ∙ is)) runs
