use Rattle.std.proofs.Common.{◌≡◌, ◌+◌, ◌++◌, ◌∷◌, [], take, sym, ap, ◌∙◌}
use Rattle.std.proofs.lemmas.List.{take_more, take_all}
use Rattle.html_types.specs.declared.attributes.Attribute.{Attribute}
use Rattle.html_types.specs.Attributes.{has_name}
use Rattle.html_types.proofs.AttributeLemmas.{finds_append, finds_same}
use Rattle.html_types.proofs.name_index.NameIndex.of.Goals as goal

pub loop-attribute-preserved : goal.loop-attribute-preserved
loop-attribute-preserved c =
    let k = c.loop-attribute.attribute-index in
    let more : take (k + 1) c.args.list.now ≡ take k c.args.list.now ++ c.attribute-item.result ∷ [] = take_more c.args.list.now k c.attribute-item.result c.loop-attribute-test.true ∙ ap (λ (a : Attribute). take k c.args.list.now ++ a ∷ []) (sym c.attribute-item.is) in
    finds_append c.add.new.self.names (take k c.args.list.now) _ c.attribute-item.result more
    (c.in_ok-add.ensures.ok (λ name. has_name name (take k c.args.list.now)) c.loop-attribute.invariant)

pub returns : goal.returns
returns c =
    finds_same c.loop-attribute.index.names _ _ (λ n. ap (has_name n) (take_all _ c.args.list.now c.loop-attribute-test.false)) c.loop-attribute.invariant
