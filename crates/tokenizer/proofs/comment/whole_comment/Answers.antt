use Rattle.std.proofs.Common.{◌≡◌, ℕ, List, [], ◌∷◌, ◌++◌, refl, ap, ◌∙◌, arith}
use Rattle.std.specs.Str.{chars}
use Rattle.html_types.specs.declared.token.Token.TheVariants.{Comment}
use Rattle.tokenizer.specs.Whole.{piece}
use Rattle.tokenizer.proofs.WholeLemmas.{piece-split, MakesAlone-same}
use Rattle.tokenizer.proofs.CommentLemmas.{comment_alone}
use Rattle.tokenizer.proofs.comment.whole_comment.Goals as goal

pub returns-clause-alone : goal.returns-clause-alone
returns-clause-alone c es =
    let text = c.args.text.now in
    let from = c.args.from in
    let start = c.in-Some.start in
    let close = c.in-Some-text_end.close in
    let end = c.in-Some-comment_closes.end in
    let o = c.in-Some.ensures in
    let t = c.in-Some-text_end.ensures in
    let e = c.in-Some-comment_closes.ensures in
    let parts : piece text from end ≡ piece text from start ++ (piece text start close ++ 45 ∷ 45 ∷ 62 ∷ []) =
    piece-split text from start end c.utf8.text c.requires o.boundary (omega (arith, o.onward)) (omega (arith, t.onward, e.onward))
    ∙ ap (λ (l : List ℕ). piece text from start ++ l)
    (piece-split text start close end c.utf8.text o.boundary t.boundary (omega (arith, t.onward)) (omega (arith, e.onward)) ∙ ap (λ (l : List ℕ). piece text start close ++ l) e.read) in
    MakesAlone-same es refl (ap Comment (c.in_ok-inside.ensures ∙ ap chars c.range-2.ensures.value))
    (comment_alone (piece text from start) (piece text start close) (piece text from end) parts o.opens t.begins t.inside es)
