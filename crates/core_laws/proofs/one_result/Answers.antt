use Rattle.core_laws.proofs.OneResult as law
use Rattle.core_laws.proofs.one_result.Goals as goal

pub returns-clause-verdict : goal.returns-clause-verdict
returns-clause-verdict c = law.one-verdict

pub returns-clause-settles : goal.returns-clause-settles
returns-clause-settles c = law.settles-once

pub returns-clause-moves : goal.returns-clause-moves
returns-clause-moves c = law.one-move
