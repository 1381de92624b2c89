use Rattle.std.proofs.Common.{◌∙◌, sym, arith}
use Rattle.std.specs.Str.{chars}
use Rattle.tokenizer.specs.Reference.{found_characters, open_characters}
use Rattle.parse_machine.proofs.References.{taken_reference, no_nul_both}
use Rattle.parse_machine.proofs.machine.Machine.take_open_reference.Goals as goal

pub returns-clause-parsed : goal.returns-clause-parsed
returns-clause-parsed c =
    let r = c.in-Some.ensures in
    let found = c.in-Some.reference in
    taken_reference c.args.table.now c.args.text.now (open_characters found) c.args.from found.end c.args.self.now c.insert_open.new.self c.args.ops.now c.insert_open.new.ops c.utf8.text c.requires.boundary (omega (arith, r.onward))
    c.requires.reads c.requires.takes r.refers r.no_cr (no_nul_both (found_characters found.characters) (chars found.rest.now) (sym c.some_nul.ensures ∙ c.if-some_nul.false) r.no_nul)
    c.in_ok-insert_open.ensures.inserted c.in_ok-insert_open.ensures.done
