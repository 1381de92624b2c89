use Rattle.act_laws.proofs.Staying.{Stays-filled}
use Rattle.act_laws.proofs.fragments_leave_nodes.Goals as goal

pub returns : goal.returns
returns c t n form ops = Stays-filled t n form ops
