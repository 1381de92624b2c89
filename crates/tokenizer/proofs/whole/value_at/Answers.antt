use Rattle.std.proofs.Common.{ℕ, List, ◌+◌, ◌∷◌, ◌++◌, ap, ◌∙◌, arith}
use Rattle.tokenizer.specs.Whole.{piece}
use Rattle.tokenizer.proofs.WholeLemmas.{piece-split}
use Rattle.tokenizer.proofs.whole.value_at.Goals as goal

pub quoted_value-requires-clause-opens : goal.quoted_value-requires-clause-opens
quoted_value-requires-clause-opens c =
    let text = c.args.text.now in
    let equals = c.in-Some.equals in
    piece-split text c.args.from equals (equals + 1) c.utf8.text c.requires c.in-Some.ensures.boundary (omega (arith, c.in-Some.ensures.onward)) (omega arith)
    ∙ ap (λ (l : List ℕ). l ++ piece text equals (equals + 1)) c.in-Some.ensures.read
    ∙ ap (λ (l : List ℕ). 61 ∷ l) c.in-Some-quote_at.ensures.read
