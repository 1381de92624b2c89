use Rattle.std.proofs.Common.{[], ◌∷◌, ◌∙◌}
use Rattle.std.specs.Str.{chars}
use Rattle.text_store.specs.declared.store.Spot.TheVariants.{Inside}
use Rattle.text_store.specs.declared.lists.Mark.{Mark}
use Rattle.text_store.proofs.ListLemmas.{mark_means}
use Rattle.text_store.proofs.lists.Store.push_mark.Goals as goal

pub returns-clause-ok : goal.returns-clause-ok
returns-clause-ok c =
    let name = c.in_ok-first.ensures.ok in
    let still = c.push-2.ensures.kept (Inside c.in_ok-first.first) name.0 in
    let mark : Mark = record { name = c.in_ok-first.first; value = c.in_ok-second.second } in record {
      new = mark ∷ [];
      marks = c.in_ok-push.ensures.items;
      means = mark_means c.push-2.new.self mark (record { name = chars c.args.name.now; value = chars c.args.value.now }) (still.0, still.1 ∙ name.1) c.in_ok-second.ensures.ok;
    }
