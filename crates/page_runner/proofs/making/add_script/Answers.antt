use Rattle.std.proofs.Common.{ap, ◌∙◌, ◌++◌}
use Rattle.std.specs.Prelude.{codes}
use Rattle.page_runner.proofs.MakingLemmas.{encoded, adds-as}
use Rattle.page_runner.proofs.making.add_script.Goals as goal

pub returns : goal.returns
returns c =
    adds-as c.add.result c.as_str.result.now _ c.as_bytes.result.now _ c.args.files.now c.add.new.self
    (c.as_str.ensures.value ∙ (c.in_ok-path.ensures.ok ∙ ap (λ name. codes "scripts/" ++ name) (encoded _ c.args.script.now.name c.as_str-name.utf8 c.as_str-name.ensures)))
    (c.as_bytes.ensures.value ∙ encoded _ c.args.script.now.text c.as_str-2.utf8 c.as_str-2.ensures) c.add.ensures.ok
