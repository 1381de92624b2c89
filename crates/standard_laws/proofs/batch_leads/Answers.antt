use Rattle.standard_laws.proofs.Passing.{leads-batch, leads-whole_batch, parse-left}
use Rattle.standard_laws.proofs.batch_leads.Goals as goal

pub returns-clause-leads : goal.returns-clause-leads
returns-clause-leads c = leads-batch

pub returns-clause-whole : goal.returns-clause-whole
returns-clause-whole c = leads-whole_batch

pub returns-clause-nothing_left : goal.returns-clause-nothing_left
returns-clause-nothing_left c = parse-left
