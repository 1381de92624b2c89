use Rattle.std.proofs.Common.{arith}
use Rattle.specparse_c.proofs.running.add_named.Goals as goal

pub returns-in-None-clause-failure : goal.returns-in-None-clause-failure
returns-in-None-clause-failure c = λ h. omega (arith, c.in-None.ensures, h.1)
