use Rattle.std.proofs.Common.{ℕ, List, ◌∷◌, ◌++◌, true, false, ap, ◌∙◌, arith}
use Rattle.tokenizer.specs.Whole.{piece}
use Rattle.tokenizer.proofs.WholeLemmas.{piece-split}
use Rattle.tokenizer.proofs.NumberLemmas.{opens-decimal, opens-hexadecimal, OpensNumber-same}
use Rattle.tokenizer.proofs.reference.number_opens.Goals as goal

pub returns-in-Some-past-2-clause-opens : goal.returns-in-Some-past-2-clause-opens
returns-in-Some-past-2-clause-opens c =
    let text = c.args.text.now in
    let from = c.args.from in
    let hash = c.in-Some.hash in
    let start = c.in-Some-past.start in
    let at = c.in-Some-past-2.at in
    let h = c.in-Some.ensures in
    let s = c.in-Some-past.ensures in
    let x = c.in-Some-past-2.ensures in
    OpensNumber-same true
    (piece-split text from hash at c.utf8.text c.requires h.boundary (omega (arith, h.onward)) (omega (arith, s.onward, x.onward))
    ∙ ap (λ (l : List ℕ). l ++ piece text hash at) h.read
    ∙ ap (λ (l : List ℕ). 38 ∷ l)
    (piece-split text hash start at c.utf8.text h.boundary s.boundary (omega (arith, s.onward)) (omega (arith, x.onward)) ∙ ap (λ (l : List ℕ). l ++ piece text start at) s.read ∙ ap (λ (l : List ℕ). 35 ∷ l) x.read))
    opens-hexadecimal

pub returns-in-None-clause-opens : goal.returns-in-None-clause-opens
returns-in-None-clause-opens c =
    let text = c.args.text.now in
    let from = c.args.from in
    let hash = c.in-Some.hash in
    let start = c.in-Some-past.start in
    let h = c.in-Some.ensures in
    let s = c.in-Some-past.ensures in
    OpensNumber-same false
    (piece-split text from hash start c.utf8.text c.requires h.boundary (omega (arith, h.onward)) (omega (arith, s.onward))
    ∙ ap (λ (l : List ℕ). l ++ piece text hash start) h.read ∙ ap (λ (l : List ℕ). 38 ∷ l) s.read)
    opens-decimal
