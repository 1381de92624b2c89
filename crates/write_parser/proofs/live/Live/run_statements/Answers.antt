use Rattle.std.proofs.Common.{rules, ◌≡◌, refl, subst}
use Rattle.write_parser.specs.declared.live.Progress.TheVariants as turn
use Rattle.write_parser.specs.Steps.{at_of, frames_of, Steps}
use Rattle.write_parser.proofs.MadeLemmas.{none_made, turn_made}
use Rattle.write_parser.proofs.NestingLemmas.{moves-nowhere, moves-then, runs-over, turn-on}
use Rattle.write_parser.proofs.live.Live.run_statements.Goals as goal

pub returns-then-eq-clause-does : goal.returns-then-eq-clause-does
returns-then-eq-clause-does c =
    let over : c.in_ok-step.field-0 ≡ turn.Over = search rules in
    runs-over c.args.table.now c.args.self.now c.steps.self c.step.new.self c.args.nesting.now c.steps.nesting c.step.new.nesting c.in_ok-step.field-0 over c.steps.invariant.going c.steps.invariant.moves
    c.in_ok-step.ensures.does

pub steps-init : goal.steps-init
steps-init c = record { going = c.requires; moves = moves-nowhere c.args.table.now c.args.self.now (frames_of c.args.nesting.now) c.requires; logged = none_made c.args.table.now (at_of c.args.self.now (frames_of c.args.nesting.now)) c.args.log.now }

pub steps-preserved : goal.steps-preserved
steps-preserved c =
    let on : c.in_ok-step.field-0 ≡ turn.On = turn-on c.in_ok-step.field-0 (search rules) in
    let step : Steps c.args.table.now c.steps.self c.steps.nesting c.step.new.self c.step.new.nesting turn.On = subst (λ t. Steps c.args.table.now c.steps.self c.steps.nesting c.step.new.self c.step.new.nesting t) on c.in_ok-step.ensures.does in
    record {
      going = record { served = step.moves.served; halted = (step.on refl).0 };
      moves =
          moves-then c.args.table.now c.args.self.now c.steps.self c.step.new.self (frames_of c.args.nesting.now) (frames_of c.steps.nesting) (frames_of c.step.new.nesting)
          c.steps.invariant.going.halted c.steps.invariant.moves step.moves;
      logged = turn_made c.args.table.now c.args.self.now c.steps.self c.step.new.self (frames_of c.args.nesting.now) (frames_of c.steps.nesting) c.step.new.nesting c.in_ok-step.field-0 turn.On
          c.args.log.now c.steps.log c.step.new.log on c.steps.invariant.logged c.in_ok-step.ensures.logged;
    }

pub returns-then-eq-clause-logged : goal.returns-then-eq-clause-logged
returns-then-eq-clause-logged c =
    let over : c.in_ok-step.field-0 ≡ turn.Over = search rules in
    turn_made c.args.table.now c.args.self.now c.steps.self c.step.new.self (frames_of c.args.nesting.now) (frames_of c.steps.nesting) c.step.new.nesting c.in_ok-step.field-0 turn.Over
    c.args.log.now c.steps.log c.step.new.log over c.steps.invariant.logged c.in_ok-step.ensures.logged
