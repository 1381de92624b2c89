use Rattle.entity_table.proofs.Finding.{is_named, found_row, longest_row, no_row}
use Rattle.entity_table.proofs.table.Table.find.Goals as goal

pub returns-in-Some-clause-found : goal.returns-in-Some-clause-found
returns-in-Some-clause-found c =
    found_row c.rows-rows.result.now c.args.self.now c.args.name.now c.in-Some.place c.index-rows-place.result c.as_match.result
    c.rows-rows.ensures.rows c.rows-rows.ensures.names c.in-Some.ensures.within c.in-Some.ensures.named c.index-rows-place.is c.as_match.ensures

pub returns-in-Some-clause-longest : goal.returns-in-Some-clause-longest
returns-in-Some-clause-longest c =
    longest_row c.rows-rows.result.now c.args.self.now c.args.name.now c.in-Some.place c.index-rows-place.result c.as_match.result
    c.rows-rows.ensures.rows c.rows-rows.ensures.names c.in-Some.ensures.within c.in-Some.ensures.named c.index-rows-place.is c.as_match.ensures

pub returns-in-Some-clause-named : goal.returns-in-Some-clause-named
returns-in-Some-clause-named c = is_named c.rows-rows.result.now c.args.name.now c.in-Some.place c.rows-rows.ensures.names c.in-Some.ensures.within c.in-Some.ensures.named

pub returns-in-None-clause-found : goal.returns-in-None-clause-found
returns-in-None-clause-found c =
    no_row c.rows-rows.result.now c.args.self.now c.args.name.now c.rows-rows.ensures.rows c.rows-rows.ensures.names c.utf8.name (c.place_of.ensures.none c.rows-rows.ensures.names.order c.in-None.is)
