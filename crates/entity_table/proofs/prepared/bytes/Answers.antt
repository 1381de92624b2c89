use Rattle.std.proofs.Common.{◌≡◌, ◌+◌, ◌∷◌, [], ◌++◌, ◌∙◌, List, length, take, sym, ap, subst, arith}
use Rattle.std.proofs.lemmas.List.{take_more, take_all}
use Rattle.std.specs.List.{flat_map}
use Rattle.entity_table.specs.Written.{number_bytes, row_bytes, AreWritable}
use Rattle.entity_table.specs.declared.row.Row.{Row}
use Rattle.entity_table.proofs.Preparing.{loaded-bytes, one_more_written, AreWritable-more}
use Rattle.entity_table.proofs.prepared.bytes.Goals as goal

pub loop-row-preserved : goal.loop-row-preserved
loop-row-preserved c =
    let k = c.loop-row.row-index in
    let own = c.args.rows.now in
    let head = 1 ∷ number_bytes (length own) in
    let more : take (k + 1) own ≡ take k own ++ c.row-item.result ∷ [] =
    take_more own k c.row-item.result c.loop-row-test.true ∙ ap (λ (r : Row). take k own ++ r ∷ []) (sym c.row-item.is) in (
      subst (λ (l : List Row). c.put_row.new.bytes.items ≡ head ++ flat_map row_bytes l) (sym more)
          (one_more_written head c.loop-row.bytes.items c.put_row.new.bytes.items (take k own) c.row-item.result c.loop-row.invariant.0 c.in_ok-put_row.ensures.added),
      subst AreWritable (sym more) (AreWritable-more (take k own) c.row-item.result c.loop-row.invariant.1 c.in_ok-put_row.ensures.writable),
    )

pub returns : goal.returns
returns c = λ names.
    let own = c.args.rows.now in
    let all : take c.loop-row.row-index own ≡ own = take_all c.loop-row.row-index own c.loop-row-test.false in
    let is = c.loop-row.invariant.0 ∙ ap (λ (l : List Row). (1 ∷ number_bytes (length own)) ++ flat_map row_bytes l) all in
    rw is (loaded-bytes own names (subst AreWritable all c.loop-row.invariant.1) (omega (arith, c.in_ok-put_number.ensures.small)))
