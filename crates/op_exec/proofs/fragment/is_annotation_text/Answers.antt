use Rattle.std.proofs.Common.{ap, ◌∙◌}
use Rattle.std.specs.Str.{chars}
use Rattle.html_types.specs.Text.{same_text}
use Rattle.op_exec.proofs.Literals.{annotation_text}
use Rattle.op_exec.proofs.fragment.is_annotation_text.Goals as goal

pub returns : goal.returns
returns c = c.is_text.ensures ∙ ap (same_text (chars c.args.text.now)) annotation_text
