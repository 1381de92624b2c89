use Rattle.std.proofs.Common.{ap, ◌∙◌, ◌∷◌, ◌++◌, List, ℕ, arith}
use Rattle.html_types.specs.declared.token.TagKind.TheVariants as kind
use Rattle.tokenizer.specs.Whole.{piece}
use Rattle.tokenizer.proofs.WholeLemmas.{piece-split, opens-start, opens-end, Opens-same}
use Rattle.tokenizer.proofs.whole.head_at.Goals as goal

pub returns-in-Some-past-clause-opens : goal.returns-in-Some-past-clause-opens
returns-in-Some-past-clause-opens c =
    Opens-same kind.End
    (piece-split c.args.text.now c.args.from c.in-Some.open c.in-Some-past.name c.utf8.text c.requires c.in-Some.ensures.boundary (omega (arith, c.in-Some.ensures.onward)) (omega (arith, c.in-Some-past.ensures.onward))
    ∙ ap (λ (l : List ℕ). l ++ piece c.args.text.now c.in-Some.open c.in-Some-past.name) c.in-Some.ensures.read
    ∙ ap (λ (l : List ℕ). 60 ∷ l) c.in-Some-past.ensures.read)
    opens-end

pub returns-in-None-clause-opens : goal.returns-in-None-clause-opens
returns-in-None-clause-opens c = Opens-same kind.Start c.in-Some.ensures.read opens-start
