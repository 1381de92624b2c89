use Rattle.std.proofs.Common.{List, map, take, drop, ap, ◌∙◌}
use Rattle.text_store.specs.declared.lists.Mark.{Mark}
use Rattle.text_store.specs.Lists.{mark_at}
use Rattle.text_store.proofs.lists.Store.listed.Goals as goal

pub part-requires : goal.part-requires
part-requires c = rw c.as_slice.ensures.value c.requires.inside

pub listed_of-requires : goal.listed_of-requires
listed_of-requires c = rw (c.part.ensures.marks, c.as_slice.ensures.value) c.requires.means.held

pub returns : goal.returns
returns c =
    let r = c.args.run in
    c.listed_of.ensures
    ∙ ap (map (mark_at c.args.self.now.texts)) (c.part.ensures.marks ∙ ap (λ (l : List Mark). take r.size (drop r.from l)) c.as_slice.ensures.value)
