use borrow.Author.Count.{below_more}
use Rattle.std.proofs.Common.{◌≡◌, ℕ, false, get_or, length, sym, ◌∙◌, arith}
use Rattle.std.proofs.lemmas.List.Sums.{position_or_len_is}
use Rattle.tokenizer.specs.Whole.{ends}
use Rattle.tokenizer.proofs.part.run_len.Goals as goal

pub returns-then-ends-clause-first : goal.returns-then-ends-clause-first
returns-then-ends-clause-first c =
    sym (position_or_len_is (ends c.args.part) c.args.bytes.now c.loop-i.i 0 (omega arith) c.loop-i.invariant (λ h. sym c.ends.ensures ∙ c.if-ends.true))

pub returns-clause-first : goal.returns-clause-first
returns-clause-first c =
    let all : c.loop-i.i ≡ length c.args.bytes.now = omega arith in
    sym (position_or_len_is (ends c.args.part) c.args.bytes.now (length c.args.bytes.now) 0 (omega arith) (rw all at c.loop-i.invariant) (λ h. absurd (omega (arith, h))))

pub loop-i-preserved : goal.loop-i-preserved
loop-i-preserved c =
    below_more (λ (k : ℕ). ends c.args.part (get_or c.args.bytes.now k 0) ≡ false) c.loop-i.i c.loop-i.invariant (sym c.ends.ensures ∙ c.if-ends.false)
