use Rattle.tally_laws.proofs.Tallying as law
use Rattle.tally_laws.proofs.desk_tallies.Goals as goal

pub returns : goal.returns
returns c = law.tallies-as-serial
