use Rattle.standard_laws.proofs.Scripts.{script-leads, script-refuses}
use Rattle.standard_laws.proofs.script_leads.Goals as goal

pub returns-clause-goes_on : goal.returns-clause-goes_on
returns-clause-goes_on c = script-leads

pub returns-clause-refuses : goal.returns-clause-refuses
returns-clause-refuses c = script-refuses
