use Rattle.std.proofs.Common.{◌∙◌, sym, true≢false, string_bytes}
use Rattle.std.proofs.lemmas.Bool.{not-true}
use Rattle.std.proofs.lemmas.Bool.Decides.{Decides-eqb}
use Rattle.std.proofs.lemmas.Slice.Eq.{starts_is}
use Rattle.entity_table.proofs.Fronts.{goes_on}
use Rattle.entity_table.proofs.Going.{front_of}
use Rattle.entity_table.proofs.row.goes_on.Goals as goal
use Rattle.entity_table.proofs.row.goes_on.Goals.{then-starts_with, else-starts_with}

pub returns-then-not-goes_below : goal.returns-then-not-goes_below
returns-then-not-goes_below c = λ up.
    let text = c.args.text.now in
    let name = string_bytes c.args.row.now.name in
    elim c.if-starts_with.branch [
      | then-starts_with w ↦
          let bytes = (starts_is Decides-eqb c.as_bytes.result.now c.as_bytes-2.result.now c.starts_with.result c.starts_with.ensures.value).0 w.if-starts_with.true in
          goes_on text name c.args.c (front_of text name c.as_bytes-2.result.now c.as_bytes.result.now c.as_bytes-2.ensures.value c.as_bytes.ensures.value bytes)
          (sym w.goes_below.ensures ∙ not-true w.goes_below.result (sym w.value-is ∙ c.if-not-goes_below.true)) (sym c.goes_up_to.ensures ∙ up)
      | else-starts_with w ↦ absurd (true≢false (sym c.if-not-goes_below.true ∙ w.value-is ∙ w.if-starts_with.false))
    ]
