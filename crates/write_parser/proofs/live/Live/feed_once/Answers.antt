use Rattle.std.proofs.Common.{[], Some, refl}
use Rattle.html_types.specs.declared.ending.Why.TheVariants as why
use Rattle.html_types.specs.declared.instruction.Stop.TheVariants as stop
use Rattle.write_parser.specs.Steps.{at_of}
use Rattle.write_parser.proofs.MadeLemmas.{text-made, text-tag-made}
use Rattle.write_parser.proofs.StatementLemmas.{on_ok}
use Rattle.write_parser.proofs.LevelLemmas.{fed, feeds-end, feeds-deep, feeds-script}
use Rattle.write_parser.proofs.live.Live.feed_once.Goals as goal

pub returns-in-InputEnd-clause-does : goal.returns-in-InputEnd-clause-does
returns-in-InputEnd-clause-does c =
    feeds-end c.args.table.now c.args.self.now (fed c.parse.new.machine c.parse.new.doc c.parse.new.self c.args.self.now) c.parse.new.machine c.parse.new.doc c.parse.new.self
    c.in_ok-parse.field-0 c.requires.going c.requires.goes c.in_ok-parse.ensures.parsed c.in-InputEnd.is refl

pub returns-in-Script-clause-does : goal.returns-in-Script-clause-does
returns-in-Script-clause-does c =
    on_ok c.end_tag.result _ _
    (λ ends. feeds-script c.args.table.now c.args.self.now (fed c.parse.new.machine c.parse.new.doc c.parse.new.self c.args.self.now) c.end_tag.new.self c.parse.new.machine c.parse.new.doc
    c.parse.new.self c.in_ok-parse.field-0 c.in-Script.id c.requires.going c.requires.goes c.in_ok-parse.ensures.parsed c.in-Script.is refl ends)
    c.end_tag.ensures.does

pub returns-in-Deep-clause-does : goal.returns-in-Deep-clause-does
returns-in-Deep-clause-does c =
    feeds-deep c.args.table.now c.args.self.now (record (fed c.parse.new.machine c.parse.new.doc c.parse.new.self c.args.self.now) { halted = Some why.Depth }) c.parse.new.machine
    c.parse.new.doc c.parse.new.self c.in_ok-parse.field-0 c.requires.going c.requires.goes c.in_ok-parse.ensures.parsed c.in-Deep.is refl

pub returns-in-InputEnd-clause-logged : goal.returns-in-InputEnd-clause-logged
returns-in-InputEnd-clause-logged c =
    text-made c.args.table.now c.args.self.now [] c.parse.new.machine c.parse.new.doc c.parse.new.self c.in_ok-parse.field-0 c.args.log.now c.parse.new.log
    c.requires.going.halted c.requires.goes.pending c.requires.goes.rest c.in_ok-parse.ensures.parsed.parsed c.in_ok-parse.ensures.logged stop.InputEnd
    (at_of (fed c.parse.new.machine c.parse.new.doc c.parse.new.self c.args.self.now) []) c.in-InputEnd.is refl

pub returns-in-Script-clause-logged : goal.returns-in-Script-clause-logged
returns-in-Script-clause-logged c =
    text-tag-made c.args.table.now c.args.self.now [] c.parse.new.machine c.parse.new.doc c.parse.new.self c.in_ok-parse.field-0 c.args.log.now c.parse.new.log
    c.requires.going.halted c.requires.goes.pending c.requires.goes.rest c.in_ok-parse.ensures.parsed.parsed c.in_ok-parse.ensures.logged c.end_tag.result c.in-Script.id
    (at_of c.end_tag.new.self []) c.end_tag.new.log c.in-Script.is c.end_tag.ensures.logged

pub returns-in-Deep-clause-logged : goal.returns-in-Deep-clause-logged
returns-in-Deep-clause-logged c =
    text-made c.args.table.now c.args.self.now [] c.parse.new.machine c.parse.new.doc c.parse.new.self c.in_ok-parse.field-0 c.args.log.now c.parse.new.log
    c.requires.going.halted c.requires.goes.pending c.requires.goes.rest c.in_ok-parse.ensures.parsed.parsed c.in_ok-parse.ensures.logged stop.Deep
    (at_of (record (fed c.parse.new.machine c.parse.new.doc c.parse.new.self c.args.self.now) { halted = Some why.Depth }) []) c.in-Deep.is refl
