use Rattle.std.proofs.Common.{◌≡◌, List, map, take, drop, refl, ap, ◌∙◌, arith}
use Rattle.text_store.specs.declared.lists.Mark.{Mark}
use Rattle.text_store.specs.Lists.{mark_at}
use Rattle.text_store.specs.Kinds.{first_name}
use Rattle.text_store.proofs.Lookups.{rest_held, rest_mapped}
use Rattle.text_store.proofs.lists.Store.other.Goals as goal

pub part-marks-requires : goal.part-marks-requires
part-marks-requires c = rw c.as_slice.ensures.value c.requires.1.inside

pub first_name-name-requires-clause-held : goal.first_name-name-requires-clause-held
first_name-name-requires-clause-held c = rw (c.part-marks.ensures.marks, c.as_slice.ensures.value) c.requires.1.means.held

pub first_name-name-requires-clause-some : goal.first_name-name-requires-clause-some
first_name-name-requires-clause-some c = omega (arith, c.requires.0, c.part-marks.ensures.size)

pub behind_first-requires : goal.behind_first-requires
behind_first-requires c = omega (arith, c.requires.0, c.part-marks.ensures.size)

pub listed_of-list-requires : goal.listed_of-list-requires
listed_of-list-requires c =
    rw (c.behind_first.ensures, c.part-marks.ensures.marks, c.as_slice.ensures.value)
    (rest_held c.args.self.now.texts (take c.args.run.size (drop c.args.run.from c.args.self.now.marks.items)) c.requires.1.means.held)

pub returns : goal.returns
returns c =
    let r = c.args.run in
    let s = c.args.self.now.texts in
    let marks : c.part-marks.result.now ≡ take r.size (drop r.from c.args.self.now.marks.items) =
    c.part-marks.ensures.marks ∙ ap (λ (l : List Mark). take r.size (drop r.from l)) c.as_slice.ensures.value in
    let name = c.first_name-name.ensures ∙ ap (λ (l : List Mark). first_name (map (mark_at s) l)) marks in
    let list = c.listed_of-list.ensures ∙ (ap (map (mark_at s)) c.behind_first.ensures ∙ (rest_mapped s c.part-marks.result.now ∙ ap (λ (l : List Mark). drop 1 (map (mark_at s) l)) marks)) in
    rw (name, list) refl
