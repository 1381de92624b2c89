use Rattle.std.proofs.Common.{length, refl, ap, ◌∙◌}
use Rattle.text_store.specs.declared.lists.ElementApart.{ElementApart}
use Rattle.text_store.specs.declared.lists.Store.{Store}
use Rattle.text_store.proofs.ListLemmas.{apart_not, apart_pushed, apart_kept}
use Rattle.text_store.proofs.KindLemmas.{apart_means}
use Rattle.text_store.proofs.lists.Store.push_apart.Goals as goal

pub returns-clause-ok : goal.returns-clause-ok
returns-clause-ok c =
    let s = c.args.self.now in
    let x : ElementApart = record { name = c.args.name; list = c.args.list } in
    let s' : Store = record { alloc = s.alloc; texts = s.texts; marks = s.marks; apart = c.push.new.self } in
    apart_means s' s.apart.items x (record { from = c.in_ok-from.from; size = c.in_ok-size.size }) c.in_ok-push.ensures.items (c.in_ok-from.ensures ∙ (c.len.ensures ∙ s.apart.ok.0))
    (c.in_ok-size.ensures ∙ ap length c.as_slice.ensures)

pub returns-clause-kept : goal.returns-clause-kept
returns-clause-kept c =
    let s = c.args.self.now in
    let x : ElementApart = record { name = c.args.name; list = c.args.list } in
    let s' : Store = record { alloc = s.alloc; texts = s.texts; marks = s.marks; apart = c.push.new.self } in
    apart_kept s s' refl refl (rw c.in_ok-push.ensures.items (apart_pushed s.apart.items x))

pub returns-in_err-push-clause-kept : goal.returns-in_err-push-clause-kept
returns-in_err-push-clause-kept c =
    let s = c.args.self.now in
    let s' : Store = record { alloc = s.alloc; texts = s.texts; marks = s.marks; apart = c.push.new.self } in
    apart_kept s s' refl refl (rw c.in_err-push.ensures.items (apart_not s.apart.items))
