use Rattle.std.proofs.Common.{ap, ◌∙◌}
use Rattle.std.specs.Str.{chars}
use Rattle.tokenizer.specs.Reference.{has_nul}
use Rattle.tokenizer.proofs.OpenLemmas.{has_nul-drop}
use Rattle.tokenizer.proofs.reference.resolved.Goals as goal

pub returns-in-Some-clause-no_nul : goal.returns-in-Some-clause-no_nul
returns-in-Some-clause-no_nul c = λ h. ap has_nul c.skip.ensures ∙ has_nul-drop c.in-Some.found.length (chars c.args.held.now) h
