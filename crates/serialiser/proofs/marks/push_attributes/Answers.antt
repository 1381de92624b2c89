use Rattle.std.proofs.Common.{ℕ, ◌++◌, List, take, sym, ap, ◌∙◌, arith}
use Rattle.std.specs.List.{flat_map}
use Rattle.std.proofs.lemmas.List.{append_assoc, take_all}
use Rattle.html_types.specs.declared.attributes.Attribute.{Attribute}
use Rattle.standard.specs.Outer.{attribute_text}
use Rattle.text_store.specs.Views.{seen_attribute}
use Rattle.text_store.proofs.ListLemmas.{flat_seen}
use Rattle.serialiser.proofs.marks.push_attributes.Goals as goal

pub loop-index-preserved : goal.loop-index-preserved
loop-index-preserved c =
    let out = c.args.out.now in
    let all = c.args.attributes.now in
    let i = c.loop-index.index in
    let a : Attribute = seen_attribute c.at.result in
    c.in_ok-push_attribute.ensures
    ∙ (ap (λ (t : List ℕ). t ++ attribute_text a) c.loop-index.invariant
    ∙ (append_assoc out (flat_map attribute_text (take i all)) (attribute_text a) ∙ ap (λ (t : List ℕ). out ++ t) (sym (flat_seen attribute_text all i a c.at.ensures))))

pub returns : goal.returns
returns c =
    c.loop-index.invariant
    ∙ ap (λ (l : List Attribute). c.args.out.now ++ flat_map attribute_text l) (take_all c.loop-index.index c.args.attributes.now (omega (arith, c.len-count.ensures)))
