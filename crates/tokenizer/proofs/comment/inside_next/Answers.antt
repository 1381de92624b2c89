use Rattle.std.proofs.Common.{ℕ, ◌+◌, List, ◌∷◌, ◌++◌, sym, ap, ◌∙◌, arith}
use Rattle.tokenizer.specs.Whole.{piece}
use Rattle.tokenizer.proofs.WholeLemmas.{piece-split}
use Rattle.tokenizer.proofs.CommentLemmas.{continues-run, continues-dash, Continues-same}
use Rattle.tokenizer.proofs.comment.inside_next.Goals as goal

pub returns-then-end-from-clause-inside : goal.returns-then-end-from-clause-inside
returns-then-end-from-clause-inside c = continues-run (piece c.args.text.now c.args.from c.rest_of-end.result) c.rest_of-end.ensures.all

pub returns-then-is_of-clause-inside : goal.returns-then-is_of-clause-inside
returns-then-is_of-clause-inside c =
    let text = c.args.text.now in
    let from = c.args.from in
    let dash = c.in-Some.dash in
    let x = c.in-Some-ascii_at.behind in
    let d = c.in-Some.ensures in
    Continues-same
    (piece-split text from dash (dash + 1) c.utf8.text c.requires d.boundary (omega (arith, d.onward)) (omega arith)
    ∙ ap (λ (l : List ℕ). l ++ piece text dash (dash + 1)) d.read
    ∙ ap (λ (l : List ℕ). 45 ∷ l) c.in-Some-ascii_at.ensures.read)
    (continues-dash x (sym c.is_of.ensures ∙ c.if-is_of.true))
