use Rattle.std.proofs.Common.{ℕ, List, ◌∷◌, ◌++◌, ap, ◌∙◌, arith}
use Rattle.tokenizer.specs.Whole.{piece}
use Rattle.tokenizer.proofs.WholeLemmas.{piece-split}
use Rattle.tokenizer.proofs.comment.comment_closes.Goals as goal

pub returns-clause-read : goal.returns-clause-read
returns-clause-read c =
    let text = c.args.text.now in
    let last = c.in-Some.last in
    let end = c.in-Some-past.end in
    piece-split text c.args.from last end c.utf8.text c.requires c.in-Some.ensures.boundary (omega (arith, c.in-Some.ensures.onward)) (omega (arith, c.in-Some-past.ensures.onward))
    ∙ ap (λ (l : List ℕ). l ++ piece text last end) c.in-Some.ensures.read
    ∙ ap (λ (l : List ℕ). 45 ∷ 45 ∷ l) c.in-Some-past.ensures.read
