use Rattle.std.proofs.Common.{◌∙◌, ap, ◌++◌, [], ◌∷◌}
use Rattle.core_steps.specs.Fetches.{fetched_of}
use Rattle.core_pair.specs.Files.{files_of}
use Rattle.core_pair.proofs.Applying.{fetches-append}
use Rattle.core_pair.proofs.scripts.Scripts.add.Goals as goal

pub returns-clause-ok : goal.returns-clause-ok
returns-clause-ok c =
    ap files_of c.in_ok-push.ensures.items ∙ (fetches-append c.self.inside.files.items _ ∙ ap (λ fs. fs ++ (c.args.name, fetched_of c.args.fetch) ∷ []) c.self.view_is)
