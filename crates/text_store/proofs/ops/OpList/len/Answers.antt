use Rattle.std.proofs.Common.{length, sym, ap, ◌∙◌}
use Rattle.std.proofs.lemmas.List.{length-map}
use Rattle.text_store.specs.Records.{op_at}
use Rattle.text_store.proofs.ops.OpList.len.Goals as goal

pub returns : goal.returns
returns c =
    let rs = c.self.inside.records.now in
    c.len.ensures ∙ (rs.ok.0 ∙ (sym (length-map rs.items (op_at c.self.inside.store.now)) ∙ ap length c.self.view_is))
