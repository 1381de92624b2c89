use Rattle.std.proofs.Common.{ℕ, List, Bool, ◌∙◌, sym}
use Rattle.std.proofs.lemmas.List.{nil_from_length}
use Rattle.html_types.specs.Attributes.{has_name}
use Rattle.html_types.proofs.SumLemmas.{none_summed, one_summed, all_summed}
use Rattle.html_types.proofs.attribute_sum.distinct_sum.Goals as goal

pub attributes-init : goal.attributes-init
attributes-init c = none_summed _ _ c.new-names.ensures

pub attributes-preserved : goal.attributes-preserved
attributes-preserved c =
    let was = c.attributes.invariant in
    let behind : List ℕ → Bool = λ name. has_name name was.behind in
    rw c.pair_sum-sum.ensures
    (one_summed c.args.attributes.now c.attributes.left.now c.in-Some.front.now c.in-Some.last.now c.attributes.names.names c.add.new.self.names c.attributes.sum was
    c.in-Some.ensures.cases.0 (sym (c.has.ensures behind was.names_are) ∙ c.if-has.false) (c.in_ok-add.ensures.ok behind was.names_are))

pub returns : goal.returns
returns c = all_summed _ c.attributes.left.now c.attributes.names.names c.attributes.sum (nil_from_length _ c.in_default.ensures.cases) c.attributes.invariant
