use Rattle.std.proofs.Common.{◌≡◌, subst}
use Rattle.page_runner.specs.Partings.{Parted}
use Rattle.page_runner.specs.Watching.{table_at}
use Rattle.page_runner.proofs.watchers.leave.Goals as goal

pub look_here-requires : goal.look_here-requires
look_here-requires g c = subst (λ p. table_at p ≡ c.args.board.now.table) c.in-Here.is c.requires

pub part_from-requires : goal.part_from-requires
part_from-requires g c = subst (λ t. Parted t c.join-parting.result) (subst (λ p. table_at p ≡ c.args.board.now.table) c.in-There.is c.requires) c.join-parting.ensures
