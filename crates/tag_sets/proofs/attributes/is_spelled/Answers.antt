use Rattle.std.proofs.Common.{◌∙◌, ap, map}
use Rattle.std.specs.Char.{to_ascii_lowercase}
use Rattle.html_types.specs.Text.{same_text}
use Rattle.tag_sets.proofs.Lowered.{same_lowered}
use Rattle.tag_sets.proofs.attributes.is_spelled.Goals as goal

pub returns : goal.returns
returns c =
    same_lowered c.as_str.result.now c.args.name.now _ c.as_str.utf8 c.requires c.eq_ignore_ascii_case.ensures.test
    ∙ ap (λ text. same_text (map to_ascii_lowercase text) (map to_ascii_lowercase c.args.name.now)) c.as_str.ensures
