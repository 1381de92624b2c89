use Rattle.std.proofs.Common.{◌≡◌, ◌∷◌, ◌++◌, length, take}
use Rattle.std.specs.List.{flat_map}
use Rattle.entity_table.specs.Written.{number_bytes, row_bytes, AreWritable}
use Rattle.entity_table.proofs.prepared.bytes.Given as goal

abbrev pub invariant-loop-row : goal.invariant-loop-row
invariant-loop-row l =
    (l.bytes.items ≡ (1 ∷ number_bytes (length l.rows)) ++ flat_map row_bytes (take l.row-index l.rows)) × AreWritable (take l.row-index l.rows)
