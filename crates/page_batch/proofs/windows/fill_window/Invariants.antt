use Rattle.std.proofs.Common.{◌≡◌, map, length, drop}
use Rattle.std.specs.String.{string_bytes}
use Rattle.std.specs.List.{AllByRecursion}
use Rattle.page_batch.specs.Windows.{files_in, IsNew, ReadsFront}
use Rattle.page_batch.proofs.windows.fill_window.Given as goal

abbrev pub invariant-pages : goal.invariant-pages
invariant-pages g l =
    let now = g.F.Outside.seen in
    record {
      read : ReadsFront (map string_bytes l.paths) (files_in l.slots.items) (now l.fn.files) (now l.files);
      rest : map string_bytes l.rest ≡ drop (length l.slots.items) (map string_bytes l.paths);
      unused : AllByRecursion IsNew l.slots.items;
      room : length l.slots.items ≡ 0 → l.room ≡ 67108864;
    }

abbrev pub decreases-pages : goal.decreases-pages
decreases-pages g l = length l.rest
