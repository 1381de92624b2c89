use Rattle.std.proofs.Common.{◌≡◌, ◌+◌, ◌++◌, ◌∷◌, [], take, refl, sym, ap, ◌∙◌, subst, arith}
use Rattle.std.specs.Str.{chars}
use Rattle.std.proofs.lemmas.List.{take_more}
use Rattle.html_types.specs.declared.attributes.Attribute.{Attribute}
use Rattle.text_store.specs.Lists.{GetsMarks}
use Rattle.text_store.proofs.ListLemmas.{all_then, gets_then}
use Rattle.text_store.proofs.lists.Store.push_marks.Goals as goal

pub loop-attribute-preserved : goal.loop-attribute-preserved
loop-attribute-preserved c =
    let i = c.loop-attribute.attribute-index in
    let all = c.args.attributes.now in
    let a = c.attribute-item.result in
    let s = c.loop-attribute.self in
    let s' = c.push_mark.new.self in
    let pushed : Attribute = record { name = chars c.as_str.result.now; value = chars c.as_str-in-loop-attribute.result.now } in
    let same : pushed ≡ a = rw (c.as_str.ensures, c.as_str-in-loop-attribute.ensures) refl in
    let one : GetsMarks s s' (a ∷ []) = subst (λ (x : Attribute). GetsMarks s s' (x ∷ [])) same c.in_ok-push_mark.ensures.ok in
    let front : take (i + 1) all ≡ take i all ++ a ∷ [] = take_more all i a (omega arith) ∙ ap (λ (x : Attribute). take i all ++ x ∷ []) (sym c.attribute-item.is) in record {
      kept = all_then c.args.self.now s s' c.loop-attribute.invariant.kept c.push_mark.ensures.kept;
      gets = rw front (gets_then c.args.self.now s s' (take i all) (a ∷ []) c.loop-attribute.invariant.gets c.push_mark.ensures.kept one);
    }
