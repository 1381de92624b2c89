use Rattle.std.proofs.Common.{◌≡◌, ◌<◌, ℕ, List, ◌∷◌, ◌++◌, true, sym, refl, ap, ◌∙◌, arith}
use Rattle.tokenizer.specs.Whole.{begins_with, piece}
use Rattle.tokenizer.specs.declared.part.Part.TheVariants as part
use Rattle.tokenizer.proofs.WholeLemmas.{piece-split, piece-cons, unquoted-value, HasValue-same}
use Rattle.tokenizer.proofs.whole.unquoted_value.Goals as goal

pub returns-clause-value : goal.returns-clause-value
returns-clause-value c =
    let text = c.args.text.now in
    let from = c.args.from in
    let start = c.args.start in
    let held = c.in_ok-held.held in
    let end = held.end in
    let to = c.gap_at-gap.result.at in
    let v = c.in_ok-held.ensures in
    let g = c.gap_at-gap.ensures in
    let some : start < end = omega (arith, v.onward, c.if-held-start.false) in
    let begins : begins_with part.Unquoted (piece text start end) ≡ true =
    ap (begins_with part.Unquoted) (piece-cons text start end c.in-Some.c c.utf8.text c.requires.behind c.in-Some.ensures.boundary (omega (arith, some)) c.in-Some.ensures.read)
    ∙ sym c.is_of.ensures ∙ c.if-not-is_of.false in
    let all : piece text from to ≡ 61 ∷ (piece text start end ++ piece text end to) =
    piece-split text from start to c.utf8.text c.requires.boundary c.requires.behind (omega (arith, c.requires.onward)) (omega (arith, v.onward, g.onward))
    ∙ ap (λ (l : List ℕ). l ++ piece text start to) c.requires.opens
    ∙ ap (λ (l : List ℕ). 61 ∷ l) (piece-split text start end to c.utf8.text c.requires.behind v.boundary (omega (arith, v.onward)) (omega (arith, g.onward))) in
    HasValue-same c.args.table.now c.gap_at-gap.result.behind all refl
    (unquoted-value c.args.table.now c.gap_at-gap.result.behind (piece text start end) held.value (piece text end to) begins v.reads g.gap)
