use Rattle.std.proofs.Common.{ℕ, List, ◌+◌, [], ◌∷◌, ◌++◌, sym, ap, ◌∙◌, arith}
use Rattle.tokenizer.specs.Whole.{piece}
use Rattle.tokenizer.proofs.WholeLemmas.{piece-push}
use Rattle.tokenizer.proofs.RawLemmas.{nothing_begins}
use Rattle.tokenizer.proofs.raw.raw_less.Goals as goal

pub returns-else-begins-clause-nothing : goal.returns-else-begins-clause-nothing
returns-else-begins-clause-nothing c =
    let text = c.args.text.now in
    let less = c.in_ok-less.less in
    let next = c.in_ok-next.next in
    let two =
    piece-push text c.args.from less next c.utf8.text c.requires c.in_ok-less.ensures.boundary (omega (arith, c.in_ok-less.ensures.onward)) c.in_ok-next.ensures.read
    ∙ ap (λ (l : List ℕ). l ++ next ∷ []) c.in_ok-less.ensures.read in
    nothing_begins (piece text c.args.from (less + 1)) next two (sym c.if-begins.ensures)
