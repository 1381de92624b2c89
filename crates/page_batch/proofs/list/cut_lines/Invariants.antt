use Rattle.std.proofs.Common.{◌≡◌, ◌++◌, false, map, length}
use Rattle.std.specs.String.{string_bytes}
use denote.Text.{Utf8}
use denote.Shadow.{shadow}
use Rattle.page_batch.specs.Lists.{lines_of, has_empty}
use Rattle.page_batch.proofs.list.cut_lines.Given as goal

abbrev pub invariant-lines : goal.invariant-lines
invariant-lines l = record {
  text : shadow (Utf8 l.rest);
  lines : map string_bytes l.paths.items ++ lines_of l.rest ≡ lines_of l.text;
  none_empty : has_empty (map string_bytes l.paths.items) ≡ false;
}

abbrev pub decreases-lines : goal.decreases-lines
decreases-lines l = length l.rest
