use Rattle.standard_laws.proofs.Quiet.{quiet-serial}
use Rattle.standard_laws.proofs.quiet_parse_is_serial.Goals as goal

pub returns : goal.returns
returns c = quiet-serial
