use Rattle.foreign_tables.proofs.Firsts.{no_svg_name-empty, found_from, found_empty}
use Rattle.foreign_tables.proofs.names.svg_name.Goals as goal

pub returns-in-Some : goal.returns-in-Some
returns-in-Some c = found_from _ _ _ c.args.lower.now _ c.in-Some.letter _ c.utf8.lower c.chars.ensures.rest c.in-Some.ensures.steps.0 c.svg_names_from.ensures c.respelled.ensures

pub returns-in-None : goal.returns-in-None
returns-in-None c = found_empty _ _ c.args.lower.now c.chars.ensures.rest c.in-None.ensures.steps.0.0 no_svg_name-empty
