use Rattle.std.proofs.Common.{◌≡◌, ℕ, List, [], ◌∷◌, ◌++◌, refl, ap, ◌∙◌, arith}
use Rattle.tokenizer.specs.Whole.{quote_mark, piece}
use Rattle.tokenizer.proofs.WholeLemmas.{piece-split, quoted-value, HasValue-same}
use Rattle.tokenizer.proofs.whole.quoted_value.Goals as goal

pub returns-clause-value : goal.returns-clause-value
returns-clause-value c =
    let text = c.args.text.now in
    let from = c.args.from in
    let start = c.args.start in
    let held = c.in_ok-held.held in
    let end = held.end in
    let close = c.in-Some.close in
    let to = c.gap_at.result.at in
    let m = quote_mark c.args.quote in
    let v = c.in_ok-held.ensures in
    let k = c.in-Some.ensures in
    let g = c.gap_at.ensures in
    let behind_value : piece text end to ≡ m ∷ piece text close to =
    piece-split text end close to c.utf8.text v.boundary k.boundary (omega (arith, k.onward)) (omega (arith, g.onward))
    ∙ ap (λ (l : List ℕ). l ++ piece text close to) (k.read ∙ ap (λ (x : ℕ). x ∷ []) c.mark_of.ensures) in
    let behind_mark : piece text start to ≡ piece text start end ++ (m ∷ piece text close to) =
    piece-split text start end to c.utf8.text c.requires.behind v.boundary (omega (arith, v.onward)) (omega (arith, k.onward, g.onward))
    ∙ ap (λ (l : List ℕ). piece text start end ++ l) behind_value in
    let all : piece text from to ≡ 61 ∷ (m ∷ (piece text start end ++ (m ∷ piece text close to))) =
    piece-split text from start to c.utf8.text c.requires.boundary c.requires.behind (omega (arith, c.requires.onward)) (omega (arith, v.onward, k.onward, g.onward))
    ∙ ap (λ (l : List ℕ). l ++ piece text start to) c.requires.opens
    ∙ ap (λ (l : List ℕ). 61 ∷ (m ∷ l)) behind_mark in
    HasValue-same c.args.table.now c.gap_at.result.behind all refl
    (quoted-value c.args.table.now c.args.quote c.gap_at.result.behind (piece text start end) held.value (piece text close to) v.reads g.gap)
