use Rattle.std.proofs.Common.{[], Some, refl}
use Rattle.html_types.specs.declared.ending.Why.TheVariants as why
use Rattle.html_types.specs.declared.instruction.Stop.TheVariants as stop
use Rattle.write_parser.specs.Steps.{at_of, frames_of}
use Rattle.write_parser.proofs.MadeLemmas.{text-made}
use Rattle.write_parser.proofs.NestingLemmas.{parsed_live, with_rest, parse-ends, parse-deep, parse-nests}
use Rattle.write_parser.proofs.live.Live.parse_written.Goals as goal

pub returns-in-InputEnd-clause-does : goal.returns-in-InputEnd-clause-does
returns-in-InputEnd-clause-does c =
    parse-ends c.args.table.now c.args.self.now (parsed_live c.parse.new.machine c.parse.new.doc c.args.self.now) c.args.nesting.now (with_rest c.parse.new.self c.args.nesting.now)
    c.parse.new.machine c.parse.new.doc c.parse.new.self c.in_ok-parse.field-0 c.requires.going c.requires.goes c.in_ok-parse.ensures.parsed c.in-InputEnd.is refl refl

pub returns-in_ok-nest-in-Script-clause-does : goal.returns-in_ok-nest-in-Script-clause-does
returns-in_ok-nest-in-Script-clause-does c =
    parse-nests c.args.table.now c.args.self.now (parsed_live c.parse.new.machine c.parse.new.doc c.args.self.now) c.nest.new.self c.args.nesting.now (with_rest c.parse.new.self c.args.nesting.now)
    c.nest.new.nesting c.parse.new.machine c.parse.new.doc c.parse.new.self c.in_ok-parse.field-0 c.in-Script.id c.requires.going c.requires.goes c.in_ok-parse.ensures.parsed c.in-Script.is refl refl
    c.in_ok-nest-in-Script.ensures

pub returns-in-Deep-clause-does : goal.returns-in-Deep-clause-does
returns-in-Deep-clause-does c =
    parse-deep c.args.table.now c.args.self.now (record (parsed_live c.parse.new.machine c.parse.new.doc c.args.self.now) { halted = Some why.Depth }) c.args.nesting.now
    (with_rest c.parse.new.self c.args.nesting.now) c.parse.new.machine c.parse.new.doc c.parse.new.self c.in_ok-parse.field-0 c.requires.going c.requires.goes c.in_ok-parse.ensures.parsed c.in-Deep.is refl

pub returns-in-InputEnd-clause-logged : goal.returns-in-InputEnd-clause-logged
returns-in-InputEnd-clause-logged c =
    text-made c.args.table.now c.args.self.now (frames_of c.args.nesting.now) c.parse.new.machine c.parse.new.doc c.parse.new.self c.in_ok-parse.field-0 c.args.log.now c.parse.new.log
    c.requires.going.halted c.requires.goes.pending c.requires.goes.rest c.in_ok-parse.ensures.parsed.parsed c.in_ok-parse.ensures.logged stop.InputEnd
    (at_of (parsed_live c.parse.new.machine c.parse.new.doc c.args.self.now) (frames_of (with_rest c.parse.new.self c.args.nesting.now))) c.in-InputEnd.is refl

pub returns-in_ok-nest-in-Script-clause-logged : goal.returns-in_ok-nest-in-Script-clause-logged
returns-in_ok-nest-in-Script-clause-logged c =
    text-made c.args.table.now c.args.self.now (frames_of c.args.nesting.now) c.parse.new.machine c.parse.new.doc c.parse.new.self c.in_ok-parse.field-0 c.args.log.now c.parse.new.log
    c.requires.going.halted c.requires.goes.pending c.requires.goes.rest c.in_ok-parse.ensures.parsed.parsed c.in_ok-parse.ensures.logged (stop.Script c.in-Script.id)
    (at_of c.nest.new.self (frames_of c.nest.new.nesting)) c.in-Script.is c.in_ok-nest-in-Script.ensures.prepared

pub returns-in-Deep-clause-logged : goal.returns-in-Deep-clause-logged
returns-in-Deep-clause-logged c =
    text-made c.args.table.now c.args.self.now (frames_of c.args.nesting.now) c.parse.new.machine c.parse.new.doc c.parse.new.self c.in_ok-parse.field-0 c.args.log.now c.parse.new.log
    c.requires.going.halted c.requires.goes.pending c.requires.goes.rest c.in_ok-parse.ensures.parsed.parsed c.in_ok-parse.ensures.logged stop.Deep
    (at_of (record (parsed_live c.parse.new.machine c.parse.new.doc c.args.self.now) { halted = Some why.Depth }) []) c.in-Deep.is refl
