use Rattle.std.proofs.Common.{◌≡◌, ◌+◌, List, [], ◌∷◌, ◌++◌, take, refl, sym, ap, ◌∙◌, arith}
use Rattle.std.proofs.lemmas.List.{take_all}
use Rattle.html_types.specs.declared.attributes.Attribute.{Attribute}
use Rattle.text_store.specs.Views.{seen_attribute}
use Rattle.text_store.proofs.ListLemmas.{take_seen}
use Rattle.text_store.proofs.listed.Listed.to_attributes.Goals as goal

pub loop-index-preserved : goal.loop-index-preserved
loop-index-preserved c =
    let all = c.args.self.now in
    let i = c.loop-index.index in
    let a : Attribute = record { name = c.in_ok-name.name; value = c.in_ok-value.value } in
    let same : a ≡ seen_attribute c.at-seen.result = rw (c.in_ok-name.ensures, c.in_ok-value.ensures) refl in
    c.in_ok-push.ensures.ok
    ∙ (ap (λ (l : List Attribute). l ++ a ∷ []) c.loop-index.invariant
    ∙ (ap (λ (x : Attribute). take i all ++ x ∷ []) same ∙ sym (take_seen all i (seen_attribute c.at-seen.result) c.at-seen.ensures)))

pub returns : goal.returns
returns c = c.loop-index.invariant ∙ take_all c.loop-index.index c.args.self.now (omega (arith, c.len-count.ensures))
