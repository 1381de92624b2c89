use Rattle.page_tests.proofs.traced.run_with.Goals as goal

pub run_noted-requires : goal.run_noted-requires
run_noted-requires g c = record {
  table = c.requires.table;
  first = c.in_ok-room.ensures.side;
  load = c.note_all-noted.ensures.load;
  put = c.note_all-noted.ensures.put;
  taken = c.note_all-noted.ensures.taken;
  room = c.in_ok-room.ensures.room;
  some = c.requires.some;
  few = c.requires.few;
}
