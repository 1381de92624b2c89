use Rattle.std.proofs.Common.{◌∙◌, subst}
use Rattle.std.specs.Prelude.{codes}
use Rattle.page_runner.specs.Making.{Adds}
use Rattle.page_runner.proofs.MakingLemmas.{encoded, are-files_of}
use Rattle.page_runner.proofs.making.files_of.Goals as goal

pub returns : goal.returns
returns c =
    are-files_of c.new-files.result c.add.new.self c.add_script.new.files c.add_script-2.new.files _ c.args.made.now.scripts.items c.index.result.now c.index-2.result.now c.new-files.ensures.files
    (subst (λ bytes. Adds (codes "page") bytes c.new-files.result c.add.new.self) (c.as_bytes.ensures.value ∙ encoded _ c.args.made.now.page c.as_str.utf8 c.as_str.ensures) c.in_ok-add.ensures.ok)
    c.requires c.index.ensures c.index-2.ensures c.in_ok-add_script.ensures c.in_ok-add_script-2.ensures
