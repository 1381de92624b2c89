use Rattle.std.proofs.Common.{ℕ, List, ◌∷◌, ◌++◌, ap, ◌∙◌, arith}
use Rattle.tokenizer.specs.Whole.{piece}
use Rattle.tokenizer.proofs.WholeLemmas.{piece-split}
use Rattle.tokenizer.proofs.comment.past_both.Goals as goal

pub returns-clause-read : goal.returns-clause-read
returns-clause-read c =
    let text = c.args.text.now in
    let middle = c.in-Some.middle in
    let end = c.in-Some-past.end in
    piece-split text c.args.from middle end c.utf8.text c.requires c.in-Some.ensures.boundary (omega (arith, c.in-Some.ensures.onward)) (omega (arith, c.in-Some-past.ensures.onward))
    ∙ ap (λ (l : List ℕ). l ++ piece text middle end) c.in-Some.ensures.read
    ∙ ap (λ (l : List ℕ). c.args.first ∷ l) c.in-Some-past.ensures.read
