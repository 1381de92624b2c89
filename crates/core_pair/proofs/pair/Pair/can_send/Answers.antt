use Rattle.std.proofs.Common.{◌∙◌}
use Rattle.core_pair.proofs.Holding.{send-told}
use Rattle.core_pair.proofs.pair.Pair.can_send.Goals as goal

pub returns : goal.returns
returns g c = c.can_send.ensures ∙ send-told c.self.invariant c.self.view_is
