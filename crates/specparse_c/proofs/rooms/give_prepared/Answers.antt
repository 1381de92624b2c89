use Rattle.std.proofs.Common.{refl, subst}
use Rattle.specparse_c.specs.Rooms.{GivesBytes}
use Rattle.specparse_c.proofs.rooms.give_prepared.Goals as goal

pub returns-in-Ok : goal.returns-in-Ok
returns-in-Ok c = rw c.in-Ok.is (subst (λ b. GivesBytes b c.give_bytes.result c.give_bytes.new.needed c.args.room.now c.give_bytes.new.room) c.as_slice.ensures.value c.give_bytes.ensures)

pub returns-in-Err : goal.returns-in-Err
returns-in-Err c = rw c.in-Err.is (c.status.ensures, refl, refl)
