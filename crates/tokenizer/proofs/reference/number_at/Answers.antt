use Rattle.std.proofs.Common.{◌≡◌, ℕ, List, [], ◌∷◌, ◌++◌, ap, ◌∙◌, arith}
use Rattle.tokenizer.specs.Whole.{piece}
use Rattle.tokenizer.proofs.WholeLemmas.{piece-split}
use Rattle.tokenizer.proofs.NumberLemmas.{number_alone, number_means}
use Rattle.tokenizer.proofs.reference.number_at.Goals as goal

pub returns-then-lacks_cr-clause-alone : goal.returns-then-lacks_cr-clause-alone
returns-then-lacks_cr-clause-alone c =
    let text = c.args.text.now in
    let from = c.args.from in
    let number = c.args.number in
    let parts : piece text from c.args.end ≡ piece text from number.at ++ 59 ∷ [] =
    piece-split text from number.at c.args.end c.utf8.text c.requires.boundary c.requires.at (omega (arith, c.requires.onward)) (omega (arith, c.requires.ends)) ∙ ap (λ (l : List ℕ). piece text from number.at ++ l) c.requires.semicolon in
    number_alone number.hexadecimal (piece text from number.at) (piece text from c.args.end) number.code c.character_of.result parts c.requires.counts c.character_of.ensures

pub returns-then-lacks_cr-clause-means : goal.returns-then-lacks_cr-clause-means
returns-then-lacks_cr-clause-means c =
    let text = c.args.text.now in
    let from = c.args.from in
    let number = c.args.number in
    let parts : piece text from c.args.end ≡ piece text from number.at ++ 59 ∷ [] =
    piece-split text from number.at c.args.end c.utf8.text c.requires.boundary c.requires.at (omega (arith, c.requires.onward)) (omega (arith, c.requires.ends)) ∙ ap (λ (l : List ℕ). piece text from number.at ++ l) c.requires.semicolon in
    number_means number.hexadecimal (piece text from number.at) (piece text from c.args.end) number.code c.character_of.result parts c.requires.counts c.character_of.ensures
