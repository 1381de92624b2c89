use Rattle.std.proofs.Common.{ℕ, List, ◌∙◌, sym, ap, map}
use Rattle.std.specs.Char.{to_ascii_lowercase}
use Rattle.std.proofs.lemmas.List.{map-id}
use Rattle.std.proofs.lemmas.Iterator.{YieldsList-from_chars}
use Rattle.std.proofs.lemmas.Iterator.Consumers.{YieldsList-end}
use Rattle.html_types.proofs.text.Text.lower.Goals as goal

pub returns : goal.returns
returns c =
    let all = YieldsList-end (YieldsList-from_chars c.as_str.result.now c.as_str.utf8 (cc)) c.loop-c.yielded _ c.loop-c.yielded_by _ _ c.in-None.is c.next.ensures.steps in
    c.loop-c.invariant ∙ ap (λ (l : List ℕ). map to_ascii_lowercase l) (sym (map-id c.loop-c.yielded) ∙ all.0 ∙ c.as_str.ensures)
