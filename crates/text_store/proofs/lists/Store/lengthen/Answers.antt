use Rattle.std.proofs.Common.{ap, ◌∙◌, length, refl}
use Rattle.std.specs.Vec.{with_item}
use Rattle.text_store.specs.declared.lists.ElementApart.{ElementApart}
use Rattle.text_store.specs.declared.lists.Store.{Store}
use Rattle.text_store.proofs.ListLemmas.{apart_set, apart_kept}
use Rattle.text_store.proofs.KindLemmas.{element_read, lengthened}
use Rattle.text_store.proofs.lists.Store.lengthen.Goals as goal

pub returns-clause-ok : goal.returns-clause-ok
returns-clause-ok c =
    let s = c.args.self.now in
    let r = c.args.run in
    let x = c.index_mut-apart.result.now in
    let y = c.add_to.new.apart in
    let s' : Store = record { alloc = s.alloc; texts = s.texts; marks = s.marks; apart = with_item s.apart r.from y } in
    let read = element_read s.apart.items r.from x c.requires.held.0 c.index_mut-apart.ensures.value in
    lengthened s s' x y r c.args.more.now c.in_ok-size.size c.requires.held.0 read (c.requires.whole ∙ ap (λ (z : ElementApart). length z.list) read) c.add_to.ensures.longer.name
    c.in_ok-size.ensures.list c.in_ok-size.ensures.size refl

pub returns-clause-kept : goal.returns-clause-kept
returns-clause-kept c =
    let s = c.args.self.now in
    let r = c.args.run in
    let x = c.index_mut-apart.result.now in
    let y = c.add_to.new.apart in
    let s' : Store = record { alloc = s.alloc; texts = s.texts; marks = s.marks; apart = with_item s.apart r.from y } in
    let read = element_read s.apart.items r.from x c.requires.held.0 c.index_mut-apart.ensures.value in
    apart_kept s s' refl refl (apart_set s.apart.items r.from y c.requires.held.0 (rw read c.add_to.ensures.longer))

pub returns-in_err-size-clause-kept : goal.returns-in_err-size-clause-kept
returns-in_err-size-clause-kept c =
    let s = c.args.self.now in
    let r = c.args.run in
    let x = c.index_mut-apart.result.now in
    let y = c.add_to.new.apart in
    let s' : Store = record { alloc = s.alloc; texts = s.texts; marks = s.marks; apart = with_item s.apart r.from y } in
    let read = element_read s.apart.items r.from x c.requires.held.0 c.index_mut-apart.ensures.value in
    apart_kept s s' refl refl (apart_set s.apart.items r.from y c.requires.held.0 (rw read c.add_to.ensures.longer))
