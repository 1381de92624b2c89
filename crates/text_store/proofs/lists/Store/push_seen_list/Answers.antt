use Rattle.std.proofs.Common.{length, ap, ◌∙◌, arith, length-append}
use Rattle.text_store.proofs.ListLemmas.{list_of_marks}
use Rattle.text_store.proofs.lists.Store.push_seen_list.Goals as goal

pub run_from-requires : goal.run_from-requires
run_from-requires c =
    let kept = c.push_seen_marks.ensures.kept in
    omega (arith, c.len-from.ensures, c.args.self.now.marks.ok.0, ap length kept.marks, length-append c.args.self.now.marks.items kept.more)

pub returns-clause-ok : goal.returns-clause-ok
returns-clause-ok c =
    list_of_marks c.args.self.now c.push_seen_marks.new.self c.args.list.now c.in_ok-place.place c.in_ok-push_seen_marks.ensures.ok
    (c.in_ok-place.ensures.from ∙ (c.len-from.ensures ∙ c.args.self.now.marks.ok.0))
    c.in_ok-place.ensures.all
