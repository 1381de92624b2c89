use Rattle.moment_laws.proofs.Through.{parse-front}
use Rattle.moment_laws.proofs.parses_its_front.Goals as goal

pub returns : goal.returns
returns c = parse-front
