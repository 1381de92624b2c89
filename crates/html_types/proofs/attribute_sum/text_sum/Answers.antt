use Rattle.std.proofs.Common.{ℕ, List, ◌∙◌, sym, ap}
use Rattle.std.proofs.lemmas.List.{map-id}
use Rattle.std.proofs.lemmas.Iterator.{YieldsList-from_chars}
use Rattle.std.proofs.lemmas.Iterator.Consumers.{YieldsList-end}
use Rattle.html_types.specs.Sums.{text_sum}
use Rattle.html_types.proofs.attribute_sum.text_sum.Goals as goal

pub returns : goal.returns
returns c =
    let all = YieldsList-end (YieldsList-from_chars c.as_str.result.now c.as_str.utf8 (cc)) c.loop-c.yielded _ c.loop-c.yielded_by _ _ c.in-None.is c.next.ensures.steps in
    c.loop-c.invariant ∙ ap (λ (l : List ℕ). text_sum c.args.start l) (sym (map-id c.loop-c.yielded) ∙ all.0 ∙ c.as_str.ensures)
