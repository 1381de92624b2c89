use Rattle.page_tests.proofs.traced.run_noted.Goals as goal

pub rows_of_parse-rows-requires : goal.rows_of_parse-rows-requires
rows_of_parse-rows-requires g c = record {
  table = c.requires.table;
  first = c.requires.first;
  load = c.requires.load;
  put = c.requires.put;
  taken = c.requires.taken;
  room = rw c.deref_mut.ensures.value c.requires.room;
  some = c.requires.some;
  few = c.requires.few;
}
