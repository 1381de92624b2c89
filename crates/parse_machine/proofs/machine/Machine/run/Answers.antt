use Rattle.std.proofs.Common.{sym, ◌∙◌, subst, List, ℕ, length}
use Rattle.std.proofs.lemmas.Str.{chars-nil, IsCharBoundary-start}
use Rattle.html_types.specs.declared.instruction.Stop.TheVariants.{InputEnd}
use Rattle.standard.specs.Parser.{parse}
use Rattle.parse_machine.proofs.MachineLemmas.{IsOver, over-nothing, ran-stopped, ran-through}
use Rattle.parse_machine.proofs.Runs.{over-both_taken}
use Rattle.parse_machine.proofs.Tags.{over-taken, over-goes_on, over-same, no_some}
use Rattle.parse_machine.proofs.machine.Machine.run.Goals as goal

pub pieces-init : goal.pieces-init
pieces-init c = record {
  boundary = IsCharBoundary-start c.args.text.now c.utf8.text;
  over = subst (λ (x : List ℕ). IsOver (parse c.args.table.now c.args.self.now x) c.args.ops.now (length x) c.args.self.now c.args.ops.now InputEnd) (sym chars-nil) (over-nothing c.args.table.now c.args.self.now c.args.ops.now);
}

pub pieces-preserved : goal.pieces-preserved
pieces-preserved c =
    let taken = rw c.in-Some.is at c.in_ok-ran.ensures in
    let read = over-both_taken c.args.table.now _ _ c.args.text.now c.pieces.used c.in_ok-read.read _ _ _ _ c.pieces.invariant.over c.in_ok-read.ensures.parsed in
    record {
      boundary = taken.boundary;
      over = over-goes_on c.args.table.now _ _ c.args.text.now c.in_ok-read.read c.in-Some.ran _ _ _ _ (sym c.stops.ensures ∙ c.if-stops.false) read taken.parsed;
    }

pub returns-then-stops-clause-parsed : goal.returns-then-stops-clause-parsed
returns-then-stops-clause-parsed c =
    let taken = rw c.in-Some.is at c.in_ok-ran.ensures in
    let read = over-both_taken c.args.table.now _ _ c.args.text.now c.pieces.used c.in_ok-read.read _ _ _ _ c.pieces.invariant.over c.in_ok-read.ensures.parsed in
    ran-stopped c.args.table.now _ _ c.args.text.now c.in-Some.ran.used _ _ c.in-Some.ran.stop c.utf8.text taken.boundary (sym c.stops.ensures ∙ c.if-stops.true)
    (over-taken c.args.table.now _ _ c.args.text.now c.in_ok-read.read c.in-Some.ran _ _ _ _ read taken.parsed)

pub returns-in_default-clause-parsed : goal.returns-in_default-clause-parsed
returns-in_default-clause-parsed c =
    let none = no_some c.in_ok-ran.field-0 c.in_default.not-Some in
    let read = over-both_taken c.args.table.now _ _ c.args.text.now c.pieces.used c.in_ok-read.read _ _ _ _ c.pieces.invariant.over c.in_ok-read.ensures.parsed in
    ran-through c.args.table.now _ _ _ c.in_ok-read.read _ _ InputEnd c.utf8.text c.in_ok-read.ensures.boundary (c.in_ok-ran.ensures.end none)
    (over-same (c.in_ok-ran.ensures.none none) (c.in_ok-ran.ensures.none_added none) read)
