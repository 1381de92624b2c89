use Rattle.std.proofs.Common.{ℕ, List, sym, subst}
use Rattle.tokenizer.specs.Raw.{Ends}
use Rattle.tokenizer.proofs.RawLemmas.{ends_onward}
use Rattle.tokenizer.proofs.raw.raw_end.Goals as goal

pub returns-clause-onward : goal.returns-clause-onward
returns-clause-onward c =
    let ends = subst (λ (cs : List ℕ). Ends c.args.state.now c.in_ok-word.word cs) (sym c.in_ok-end.ensures.read) c.in_ok-word.ensures in
    ends_onward c.args.text.now c.args.from c.in_ok-end.end c.args.state.now c.in_ok-word.word ends c.in_ok-end.ensures.onward
