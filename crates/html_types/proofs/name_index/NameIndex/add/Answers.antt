use Rattle.std.proofs.Common.{ap, ◌∙◌}
use Rattle.std.specs.Str.{chars}
use Rattle.html_types.proofs.AttributeLemmas.{finds_more}
use Rattle.html_types.proofs.name_index.NameIndex.add.Goals as goal

pub returns-clause-ok : goal.returns-clause-ok
returns-clause-ok c =
    finds_more c.args.name.now c.in_ok-copied.copied (ap chars c.in_ok-copied.ensures.ok ∙ c.as_str.ensures) _ _ c.in_ok-insert.ensures.updates
