use Rattle.rule_laws.specs.Naming.{AreFresh}
use Rattle.rule_laws.proofs.FreshnessTexts.{fresh-follows}
use Rattle.moment_laws.proofs.Served as law
use Rattle.moment_laws.proofs.moments_bind.Goals as goal

pub returns-clause-serves : goal.returns-clause-serves
returns-clause-serves c = law.moments-served AreFresh fresh-follows

pub returns-clause-binds : goal.returns-clause-binds
returns-clause-binds c = law.moments-bind

pub returns-clause-held : goal.returns-clause-held
returns-clause-held c = law.held-room
