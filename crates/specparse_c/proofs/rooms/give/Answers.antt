use Rattle.std.proofs.Common.{refl}
use Rattle.specparse_c.proofs.rooms.give.Goals as goal

pub returns-in-Ok : goal.returns-in-Ok
returns-in-Ok c = rw c.in-Ok.is c.give_tree.ensures

pub returns-in-Err : goal.returns-in-Err
returns-in-Err c = rw c.in-Err.is (c.status.ensures, c.no_sizes.ensures, record { nodes = refl; attributes = refl; text = refl })
