use Rattle.page_tests.proofs.traced.rows_of_parse.Goals as goal

pub parse-requires : goal.parse-requires
parse-requires g c = record {
  table = c.requires.table;
  first = c.requires.first;
  load = c.requires.load;
  put = c.requires.put;
  taken = c.requires.taken;
  room = c.requires.room;
  some = c.requires.some;
  few = c.requires.few;
}
