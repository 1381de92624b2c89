use Rattle.std.proofs.Common.{ℕ, List, ◌∙◌, ◌++◌, sym, ap}
use Rattle.std.proofs.lemmas.List.{map-id}
use Rattle.std.proofs.lemmas.Iterator.{YieldsList-from_chars}
use Rattle.std.proofs.lemmas.Iterator.Consumers.{YieldsList-end}
use Rattle.builder_state.proofs.Pairs.{pair-read}
use Rattle.builder_state.proofs.likes.pair_text.Goals as goal

pub returns : goal.returns
returns c =
    let all = YieldsList-end (YieldsList-from_chars c.as_str.result.now c.as_str.utf8 (cc)) c.loop-c.yielded _ c.loop-c.yielded_by _ _ c.in-None.is c.next.ensures.steps in
    pair-read c.loop-c.yielded _ _ _ _ _ (sym (map-id c.loop-c.yielded) ∙ all.0 ∙ c.as_str.ensures) c.loop-c.invariant c.in_ok-push-3.ensures.ok (c.in_ok-push_str.ensures.ok ∙ ap (λ (l : List ℕ). c.push-2.new.self ++ l) c.as_str-2.ensures)
