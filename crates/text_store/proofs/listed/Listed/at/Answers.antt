use Rattle.std.proofs.Common.{◌≡◌, ℕ, ◌-◌, List, Some, length, map, subst, ap, ◌∙◌, arith, length-append}
use Rattle.std.specs.Prelude.{slice_get}
use Rattle.std.proofs.lemmas.List.{length-map}
use Rattle.html_types.specs.declared.attributes.Attribute.{Attribute}
use Rattle.text_store.specs.Lists.{mark_at}
use Rattle.text_store.specs.Views.{seen_attribute}
use Rattle.text_store.proofs.Lookups.{get_left, get_right}
use Rattle.text_store.proofs.listed.Listed.at.Goals as goal

pub attribute_in-requires : goal.attribute_in-requires
attribute_in-requires c =
    let s = c.self.inside.texts.now in
    let ms = c.self.inside.marks.now in
    let more = c.self.inside.more.now in
    omega (arith, c.requires, ap length c.self.view_is, length-append (map (mark_at s) ms) more, length-map ms (mark_at s), c.if-index-count.false)

pub returns-then-index-count : goal.returns-then-index-count
returns-then-index-count c =
    let s = c.self.inside.texts.now in
    let ms = c.self.inside.marks.now in
    let more = c.self.inside.more.now in
    subst (λ (l : List Attribute). slice_get l c.args.index ≡ Some (seen_attribute c.mark_in.result)) c.self.view_is (get_left (map (mark_at s) ms) more c.args.index (seen_attribute c.mark_in.result) c.mark_in.ensures)

pub returns-else-index-count : goal.returns-else-index-count
returns-else-index-count c =
    let s = c.self.inside.texts.now in
    let ms = c.self.inside.marks.now in
    let more = c.self.inside.more.now in
    subst (λ (l : List Attribute). slice_get l c.args.index ≡ Some (seen_attribute c.attribute_in.result)) c.self.view_is
    (get_right (map (mark_at s) ms) more c.args.index (omega (arith, length-map ms (mark_at s), c.if-index-count.false))
    ∙ (ap (λ (n : ℕ). slice_get more (c.args.index - n)) (length-map ms (mark_at s)) ∙ c.attribute_in.ensures))
