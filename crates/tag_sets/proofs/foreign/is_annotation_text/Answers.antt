use Rattle.std.proofs.Common.{ap, ◌∙◌}
use Rattle.html_types.specs.Text.{same_text}
use Rattle.tag_sets.proofs.Literals.{annotation_text}
use Rattle.tag_sets.proofs.foreign.is_annotation_text.Goals as goal

pub returns : goal.returns
returns c = c.is_text.ensures ∙ ap (same_text c.args.name.now) annotation_text
