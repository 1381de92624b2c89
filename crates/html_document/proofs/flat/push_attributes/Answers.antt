use Rattle.std.proofs.Common.{◌≡◌, ◌+◌, ◌++◌, ◌∷◌, [], List, length, take, sym, subst, arith}
use Rattle.std.proofs.lemmas.List.{take_all}
use Rattle.html_types.specs.declared.attributes.Attribute.{Attribute}
use Rattle.text_store.specs.Views.{seen_attribute}
use Rattle.text_store.proofs.ListLemmas.{take_seen}
use Rattle.html_document.specs.Flat.{AttributesAdded}
use Rattle.html_document.proofs.Lists.{none-added, more-added}
use Rattle.html_document.proofs.flat.push_attributes.Goals as goal

pub loop-index-init : goal.loop-index-init
loop-index-init c = none-added c.args.attributes.now.items c.args.text.now.items

pub loop-index-preserved : goal.loop-index-preserved
loop-index-preserved c =
    let k = c.loop-index.index in
    let own = c.args.added.now in
    let a : Attribute = seen_attribute c.at.result in
    let more : take (k + 1) own ≡ take k own ++ a ∷ [] = take_seen own k a c.at.ensures in
    subst (λ (l : List Attribute). AttributesAdded c.args.attributes.now.items c.args.text.now.items l c.push_attribute.new.attributes.items c.push_attribute.new.text.items) (sym more)
    (more-added c.args.attributes.now.items c.loop-index.attributes.items c.push_attribute.new.attributes.items c.args.text.now.items c.loop-index.text.items
    c.push_attribute.new.text.items (take k own) (a ∷ []) c.loop-index.invariant c.in_ok-push_attribute.ensures)

pub returns : goal.returns
returns c =
    let own = c.args.added.now in
    let all : take c.loop-index.index own ≡ own = take_all c.loop-index.index own (omega (arith, c.len-count.ensures)) in
    let start : c.in_ok-start.start ≡ length c.args.attributes.now.items = omega (arith, c.in_ok-start.ensures.same, c.len.ensures, c.args.attributes.now.ok.0) in
    let size : c.in_ok-length.length ≡ length own = omega (arith, c.in_ok-length.ensures.same, c.len-count.ensures) in (
      subst (λ (l : List Attribute). AttributesAdded c.args.attributes.now.items c.args.text.now.items l c.loop-index.attributes.items c.loop-index.text.items) all c.loop-index.invariant,
      start,
      size,
    )
