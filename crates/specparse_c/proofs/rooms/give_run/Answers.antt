use Rattle.std.proofs.Common.{refl}
use Rattle.specparse_c.proofs.rooms.give_run.Goals as goal

pub returns-in-Ok : goal.returns-in-Ok
returns-in-Ok c = rw c.in-Ok.is c.give_printed.ensures

pub returns-in-Err : goal.returns-in-Err
returns-in-Err c = rw c.in-Err.is (c.status.ensures, refl, refl)
