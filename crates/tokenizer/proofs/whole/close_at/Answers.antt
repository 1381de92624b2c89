use Rattle.std.proofs.Common.{ℕ, List, ◌∷◌, ◌++◌, ap, ◌∙◌, arith}
use Rattle.tokenizer.specs.Whole.{piece}
use Rattle.tokenizer.proofs.WholeLemmas.{piece-split}
use Rattle.tokenizer.proofs.whole.close_at.Goals as goal

pub returns-in-Some-past-2-clause-read : goal.returns-in-Some-past-2-clause-read
returns-in-Some-past-2-clause-read c =
    piece-split c.args.text.now c.args.from c.in-Some-past.slash c.in-Some-past-2.end c.utf8.text c.requires c.in-Some-past.ensures.boundary (omega (arith, c.in-Some-past.ensures.onward)) (omega (arith, c.in-Some-past-2.ensures.onward))
    ∙ ap (λ (l : List ℕ). l ++ piece c.args.text.now c.in-Some-past.slash c.in-Some-past-2.end) c.in-Some-past.ensures.read
    ∙ ap (λ (l : List ℕ). 47 ∷ l) c.in-Some-past-2.ensures.read
