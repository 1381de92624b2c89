use Rattle.tree_watch.proofs.Rules.{forks}
use Rattle.tree_watch.proofs.board.Board.tell.Goals as goal

pub tell-requires : goal.tell-requires
tell-requires c = forks _ _
