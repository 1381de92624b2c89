use Rattle.std.proofs.Common.{ℕ, List, ◌++◌, sym, ap, ◌∙◌, arith}
use Rattle.std.proofs.lemmas.List.{map-id}
use Rattle.std.proofs.lemmas.Iterator.{YieldsList-from_chars}
use Rattle.std.proofs.lemmas.Iterator.Consumers.{YieldsList-end}
use Rattle.tokenizer.specs.Whole.{piece}
use Rattle.tokenizer.proofs.WholeLemmas.{piece-none, piece-split}
use Rattle.tokenizer.proofs.raw.past_all.Goals as goal

pub loop-c-init : goal.loop-c-init
loop-c-init c = (c.requires, omega arith, piece-none c.args.text.now c.args.from)

pub loop-c-preserved : goal.loop-c-preserved
loop-c-preserved c =
    let text = c.args.text.now in
    let place = c.loop-c.to in
    let to = c.in_ok-to.to in
    let read =
    piece-split text c.args.from place to c.utf8.text c.requires c.loop-c.invariant.0 c.loop-c.invariant.1 (omega (arith, c.in_ok-to.ensures.onward))
    ∙ ap (λ (l : List ℕ). l ++ piece text place to) c.loop-c.invariant.2
    ∙ ap (λ (l : List ℕ). c.loop-c.yielded ++ l) c.in_ok-to.ensures.read in
    (c.in_ok-to.ensures.boundary, omega (arith, c.in_ok-to.ensures.onward), read)

pub returns-clause-read : goal.returns-clause-read
returns-clause-read c =
    let all = YieldsList-end (YieldsList-from_chars c.args.written.now c.utf8.written (cc)) c.loop-c.yielded _ c.loop-c.yielded_by _ _ c.in-None.is c.next.ensures.steps in
    c.loop-c.invariant.2 ∙ sym (map-id c.loop-c.yielded) ∙ all.0
