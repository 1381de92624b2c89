use Rattle.std.proofs.Common.{ℕ, ◌++◌, List, take, sym, ap, ◌∙◌, arith}
use Rattle.std.specs.List.{flat_map}
use Rattle.std.proofs.lemmas.List.{append_assoc, take_all}
use Rattle.html_types.specs.declared.attributes.Attribute.{Attribute}
use Rattle.serial.specs.Dump.{attribute_words}
use Rattle.text_store.specs.Views.{seen_attribute}
use Rattle.text_store.proofs.ListLemmas.{flat_seen}
use Rattle.serialiser.proofs.dump_line.push_attributes.Goals as goal

pub loop-index-preserved : goal.loop-index-preserved
loop-index-preserved c =
    let out = c.args.out.now.items in
    let all = c.args.attributes.now in
    let i = c.loop-index.index in
    let a : Attribute = seen_attribute c.at.result in
    c.in_ok-push_attribute.ensures
    ∙ (ap (λ (t : List ℕ). t ++ attribute_words a) c.loop-index.invariant
    ∙ (append_assoc out (flat_map attribute_words (take i all)) (attribute_words a) ∙ ap (λ (t : List ℕ). out ++ t) (sym (flat_seen attribute_words all i a c.at.ensures))))

pub returns : goal.returns
returns c =
    c.loop-index.invariant
    ∙ ap (λ (l : List Attribute). c.args.out.now.items ++ flat_map attribute_words l) (take_all c.loop-index.index c.args.attributes.now (omega (arith, c.len-count.ensures)))
