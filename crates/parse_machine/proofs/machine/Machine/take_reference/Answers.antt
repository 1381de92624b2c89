use Rattle.std.proofs.Common.{◌∙◌, sym, arith}
use Rattle.entity_table.specs.View.{characters_in}
use Rattle.builder_state.specs.Texts.{TakesText}
use Rattle.parse_machine.proofs.References.{taken_reference, refers_any}
use Rattle.parse_machine.proofs.machine.Machine.take_reference.Goals as goal

pub returns-clause-parsed : goal.returns-clause-parsed
returns-clause-parsed c =
    let r = c.in-Some.ensures in
    let p = c.args.self.now in
    let us = characters_in c.in-Some.reference.characters in
    let takes : TakesText p.open_state = rw (← c.self.view_is) (c.takes_text.ensures c.if-not-takes_text.false) in
    taken_reference c.args.table.now c.args.text.now us c.args.from c.in-Some.reference.end p c.insert_characters.new.self c.args.ops.now c.insert_characters.new.ops c.utf8.text c.requires (omega (arith, r.onward))
    (c.reads_tags.ensures c.if-not-reads_tags.false) takes (refers_any c.args.table.now c.args.text.now us c.args.from c.in-Some.reference.end r.refers) r.no_cr (sym c.has_nul.ensures ∙ c.if-has_nul.false)
    c.in_ok-insert_characters.ensures.inserted c.in_ok-insert_characters.ensures.done
