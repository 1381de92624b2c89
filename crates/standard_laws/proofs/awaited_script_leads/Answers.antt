use Rattle.standard_laws.proofs.Scripts.{awaits-missing, awaits-fault, awaits-got, awaits-refuses}
use Rattle.standard_laws.proofs.awaited_script_leads.Goals as goal

pub returns-clause-missing : goal.returns-clause-missing
returns-clause-missing c = awaits-missing

pub returns-clause-fault : goal.returns-clause-fault
returns-clause-fault c = awaits-fault

pub returns-clause-goes_on : goal.returns-clause-goes_on
returns-clause-goes_on c = awaits-got

pub returns-clause-refuses : goal.returns-clause-refuses
returns-clause-refuses c = awaits-refuses
