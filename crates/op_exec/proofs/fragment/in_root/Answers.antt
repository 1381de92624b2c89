use Rattle.std.proofs.Common.{ap, ◌∙◌}
use Rattle.std.specs.Str.{chars}
use Rattle.html_types.specs.Operations.{spelled_one}
use Rattle.standard.specs.Fragment.{all_in_root}
use Rattle.text_store.specs.declared.ops.SeenOp.{SeenOp}
use Rattle.text_store.specs.Records.{seen_op}
use Rattle.op_exec.proofs.Filling.{text-in_root}
use Rattle.op_exec.proofs.fragment.in_root.Goals as goal

pub returns-in-Text : goal.returns-in-Text
returns-in-Text c =
    ap (λ (o : SeenOp). all_in_root (spelled_one (seen_op o))) c.in-Text.is
    ∙ text-in_root c.in-Text.place c.place_in_root-in-Text.result (chars c.in-Text.text.now) c.place_in_root-in-Text.ensures
