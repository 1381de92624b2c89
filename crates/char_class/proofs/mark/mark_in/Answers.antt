use Rattle.std.proofs.Common.{take, ◌∙◌}
use Rattle.std.proofs.lemmas.List.{length-take-le}
use Rattle.memchr.specs.Find.{is_byte}
use Rattle.char_class.proofs.Marks.{first_place, no_place, nul_found}
use Rattle.char_class.proofs.mark.mark_in.Goals as goal

pub returns-in-Some-clause-place : goal.returns-in-Some-clause-place
returns-in-Some-clause-place c =
    let front = take c.first_but_nul-end.result c.args.bytes.now in
    nul_found c.args.bytes.now c.first_but_nul-end.result c.in-Some.nul c.first_but_nul-end.ensures.place
    (first_place (is_byte 0) front c.in-Some.nul c.in-Some.ensures.0 c.in-Some.ensures.1)

pub returns-in-None-clause-place : goal.returns-in-None-clause-place
returns-in-None-clause-place c =
    let front = take c.first_but_nul-end.result c.args.bytes.now in
    nul_found c.args.bytes.now c.first_but_nul-end.result c.first_but_nul-end.result c.first_but_nul-end.ensures.place
    (no_place (is_byte 0) front c.in-None.ensures ∙ length-take-le c.first_but_nul-end.result c.args.bytes.now c.first_but_nul-end.ensures.within)
