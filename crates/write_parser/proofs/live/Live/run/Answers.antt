use Rattle.std.proofs.Common.{rules, ◌≡◌}
use Rattle.write_parser.specs.declared.live.Progress.TheVariants as turn
use Rattle.write_parser.specs.Steps.{at_of, IsGoing, frames_of, Moves}
use Rattle.write_parser.proofs.MadeLemmas.{none_made, turn_made}
use Rattle.write_parser.proofs.NestingLemmas.{moves-nowhere, turn-on, moves-over, moves-on, runs-going, parses-going, turn-lighter}
use Rattle.write_parser.proofs.live.Live.run.Goals as goal

pub texts-init : goal.texts-init
texts-init c = record { going = c.requires; moves = moves-nowhere c.args.table.now c.args.self.now (frames_of c.args.nesting.now) c.requires; logged = none_made c.args.table.now (at_of c.args.self.now (frames_of c.args.nesting.now)) c.args.log.now }

pub returns-then-eq-clause-does : goal.returns-then-eq-clause-does
returns-then-eq-clause-does c =
    let over : c.in_ok-run_statements.field-0 ≡ turn.Over = search rules in
    moves-over c.args.table.now c.args.self.now c.texts.self c.run_statements.new.self (frames_of c.args.nesting.now) c.texts.nesting c.run_statements.new.nesting c.in_ok-run_statements.field-0 over
    c.texts.invariant.going c.texts.invariant.moves c.in_ok-run_statements.ensures.does.moves

pub parse_written-requires-clause-going : goal.parse_written-requires-clause-going
parse_written-requires-clause-going c =
    let on : c.in_ok-run_statements.field-0 ≡ turn.On = turn-on c.in_ok-run_statements.field-0 (search rules) in
    runs-going c.args.table.now c.texts.self c.run_statements.new.self c.texts.nesting c.run_statements.new.nesting c.in_ok-run_statements.field-0 on c.in_ok-run_statements.ensures.does

pub returns-then-eq-2-clause-does : goal.returns-then-eq-2-clause-does
returns-then-eq-2-clause-does c =
    let on : c.in_ok-run_statements.field-0 ≡ turn.On = turn-on c.in_ok-run_statements.field-0 (search rules) in
    let over : c.in_ok-parse_written.field-0 ≡ turn.Over = search rules in
    let first : Moves c.args.table.now c.args.self.now (frames_of c.args.nesting.now) c.run_statements.new.self (frames_of c.run_statements.new.nesting) =
    moves-on c.args.table.now c.args.self.now c.texts.self c.run_statements.new.self (frames_of c.args.nesting.now) c.texts.nesting c.run_statements.new.nesting c.in_ok-run_statements.field-0 on
    c.texts.invariant.going c.texts.invariant.moves c.in_ok-run_statements.ensures.does.moves in
    moves-over c.args.table.now c.args.self.now c.run_statements.new.self c.parse_written.new.self (frames_of c.args.nesting.now) c.run_statements.new.nesting c.parse_written.new.nesting
    c.in_ok-parse_written.field-0 over
    (runs-going c.args.table.now c.texts.self c.run_statements.new.self c.texts.nesting c.run_statements.new.nesting c.in_ok-run_statements.field-0 on c.in_ok-run_statements.ensures.does) first
    c.in_ok-parse_written.ensures.does.moves

pub texts-smaller : goal.texts-smaller
texts-smaller c =
    let on : c.in_ok-run_statements.field-0 ≡ turn.On = turn-on c.in_ok-run_statements.field-0 (search rules) in
    let on' : c.in_ok-parse_written.field-0 ≡ turn.On = turn-on c.in_ok-parse_written.field-0 (search rules) in
    turn-lighter c.args.table.now c.texts.self c.run_statements.new.self c.parse_written.new.self c.texts.nesting c.run_statements.new.nesting c.parse_written.new.nesting
    c.in_ok-run_statements.field-0 c.in_ok-parse_written.field-0 on on' c.in_ok-run_statements.ensures.does c.in_ok-parse_written.ensures.does

pub texts-preserved : goal.texts-preserved
texts-preserved c =
    let on : c.in_ok-run_statements.field-0 ≡ turn.On = turn-on c.in_ok-run_statements.field-0 (search rules) in
    let on' : c.in_ok-parse_written.field-0 ≡ turn.On = turn-on c.in_ok-parse_written.field-0 (search rules) in
    let going : IsGoing c.run_statements.new.self =
    runs-going c.args.table.now c.texts.self c.run_statements.new.self c.texts.nesting c.run_statements.new.nesting c.in_ok-run_statements.field-0 on c.in_ok-run_statements.ensures.does in
    let first : Moves c.args.table.now c.args.self.now (frames_of c.args.nesting.now) c.run_statements.new.self (frames_of c.run_statements.new.nesting) =
    moves-on c.args.table.now c.args.self.now c.texts.self c.run_statements.new.self (frames_of c.args.nesting.now) c.texts.nesting c.run_statements.new.nesting c.in_ok-run_statements.field-0 on
    c.texts.invariant.going c.texts.invariant.moves c.in_ok-run_statements.ensures.does.moves in
    record {
      going = parses-going c.args.table.now c.run_statements.new.self c.parse_written.new.self c.run_statements.new.nesting c.parse_written.new.nesting c.in_ok-parse_written.field-0 on'
          c.in_ok-parse_written.ensures.does;
      moves = moves-on c.args.table.now c.args.self.now c.run_statements.new.self c.parse_written.new.self (frames_of c.args.nesting.now) c.run_statements.new.nesting
          c.parse_written.new.nesting c.in_ok-parse_written.field-0 on' going first c.in_ok-parse_written.ensures.does.moves;
      logged = turn_made c.args.table.now c.args.self.now c.run_statements.new.self c.parse_written.new.self (frames_of c.args.nesting.now) (frames_of c.run_statements.new.nesting)
          c.parse_written.new.nesting c.in_ok-parse_written.field-0 turn.On c.args.log.now c.run_statements.new.log c.parse_written.new.log on'
          (turn_made c.args.table.now c.args.self.now c.texts.self c.run_statements.new.self (frames_of c.args.nesting.now) (frames_of c.texts.nesting) c.run_statements.new.nesting
          c.in_ok-run_statements.field-0 turn.On c.args.log.now c.texts.log c.run_statements.new.log on c.texts.invariant.logged c.in_ok-run_statements.ensures.logged)
          c.in_ok-parse_written.ensures.logged;
    }

pub returns-then-eq-clause-logged : goal.returns-then-eq-clause-logged
returns-then-eq-clause-logged c =
    let over : c.in_ok-run_statements.field-0 ≡ turn.Over = search rules in
    turn_made c.args.table.now c.args.self.now c.texts.self c.run_statements.new.self (frames_of c.args.nesting.now) (frames_of c.texts.nesting) c.run_statements.new.nesting
    c.in_ok-run_statements.field-0 turn.Over c.args.log.now c.texts.log c.run_statements.new.log over c.texts.invariant.logged c.in_ok-run_statements.ensures.logged

pub returns-then-eq-2-clause-logged : goal.returns-then-eq-2-clause-logged
returns-then-eq-2-clause-logged c =
    let on : c.in_ok-run_statements.field-0 ≡ turn.On = turn-on c.in_ok-run_statements.field-0 (search rules) in
    let over : c.in_ok-parse_written.field-0 ≡ turn.Over = search rules in
    turn_made c.args.table.now c.args.self.now c.run_statements.new.self c.parse_written.new.self (frames_of c.args.nesting.now) (frames_of c.run_statements.new.nesting)
    c.parse_written.new.nesting c.in_ok-parse_written.field-0 turn.Over c.args.log.now c.run_statements.new.log c.parse_written.new.log over
    (turn_made c.args.table.now c.args.self.now c.texts.self c.run_statements.new.self (frames_of c.args.nesting.now) (frames_of c.texts.nesting) c.run_statements.new.nesting
    c.in_ok-run_statements.field-0 turn.On c.args.log.now c.texts.log c.run_statements.new.log on c.texts.invariant.logged c.in_ok-run_statements.ensures.logged)
    c.in_ok-parse_written.ensures.logged
