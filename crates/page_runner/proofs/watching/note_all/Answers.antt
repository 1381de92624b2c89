use Rattle.std.proofs.Common.{◌∷◌, [], ◌++◌, refl, sym, ap, ◌∙◌, append_assoc}
use Rattle.std.specs.Vec.Iter.{into_iter_items}
use Rattle.page_runner.proofs.WatchingLemmas.{noted_none, noted_more}
use Rattle.page_runner.proofs.watching.note_all.Goals as goal

pub loop-change-init : goal.loop-change-init
loop-change-init c = record { items = refl; noted = noted_none c.args.board.now }

pub loop-change-preserved : goal.loop-change-preserved
loop-change-preserved c =
    let i = c.loop-change.invariant in
    let step = c.in-Some.ensures.steps.0 in
    record {
      items = append_assoc c.loop-change.yielded (c.in-Some.change ∷ []) (into_iter_items c.next.new.self) ∙ (ap (λ cs. c.loop-change.yielded ++ cs) (sym step) ∙ i.items);
      noted = noted_more _ c.loop-change.board c.note.new.self c.loop-change.yielded c.in-Some.change i.noted c.in_ok-note.ensures.ok;
    }
