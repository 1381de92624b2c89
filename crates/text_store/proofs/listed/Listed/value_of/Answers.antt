use Rattle.std.proofs.Common.{map, sym, ap, ◌∙◌}
use Rattle.std.specs.Str.{chars}
use Rattle.standard.specs.Tree.{attribute}
use Rattle.text_store.specs.Lists.{mark_at}
use Rattle.text_store.proofs.Lookups.{attribute_front, attribute_behind}
use Rattle.text_store.proofs.listed.Listed.value_of.Goals as goal

pub returns-in-Some : goal.returns-in-Some
returns-in-Some c =
    let n = chars c.args.name.now in
    let l = map (mark_at c.self.inside.texts.now) c.self.inside.marks.now in
    sym (sym (ap (attribute n) c.self.view_is) ∙ attribute_front n c.self.inside.more.now l (chars c.in-Some.value.now) (sym c.in-Some.ensures))

pub returns-in-None : goal.returns-in-None
returns-in-None c =
    let n = chars c.args.name.now in
    let l = map (mark_at c.self.inside.texts.now) c.self.inside.marks.now in
    c.value_in.ensures ∙ (sym (attribute_behind n c.self.inside.more.now l (sym c.in-None.ensures)) ∙ ap (attribute n) c.self.view_is)
