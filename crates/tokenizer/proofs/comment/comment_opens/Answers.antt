use Rattle.std.proofs.Common.{ℕ, List, ◌∷◌, ◌++◌, ap, ◌∙◌, arith}
use Rattle.tokenizer.specs.Whole.{piece}
use Rattle.tokenizer.proofs.WholeLemmas.{piece-split}
use Rattle.tokenizer.proofs.CommentLemmas.{opens-comment, OpensComment-same}
use Rattle.tokenizer.proofs.comment.comment_opens.Goals as goal

pub returns-clause-opens : goal.returns-clause-opens
returns-clause-opens c =
    let text = c.args.text.now in
    let dashes = c.in-Some.dashes in
    let start = c.in-Some-past_both.start in
    OpensComment-same
    (piece-split text c.args.from dashes start c.utf8.text c.requires c.in-Some.ensures.boundary (omega (arith, c.in-Some.ensures.onward)) (omega (arith, c.in-Some-past_both.ensures.onward))
    ∙ ap (λ (l : List ℕ). l ++ piece text dashes start) c.in-Some.ensures.read
    ∙ ap (λ (l : List ℕ). 60 ∷ 33 ∷ l) c.in-Some-past_both.ensures.read)
    opens-comment
