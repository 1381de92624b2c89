use Rattle.std.proofs.Common.{◌≡◌, ◌++◌, map}
use Rattle.std.specs.Vec.Iter.{into_iter_items}
use Rattle.tree_watch.specs.declared.shown.Note.TheVariants.{Did}
use Rattle.page_runner.proofs.watching.note_all.Given as goal

-- those that are passed were noted
abbrev pub invariant-loop-change : goal.invariant-loop-change
invariant-loop-change l = record {
  items : l.yielded ++ into_iter_items l.change-iterator ≡ into_iter_items l.initial.change-iterator;
  noted : l.board ≡ record l.initial.board { pending = l.initial.board.pending ++ map Did l.yielded };
}
