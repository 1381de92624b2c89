use Rattle.std.proofs.Common.{ℕ, List, ◌++◌}
use Rattle.html_types.specs.declared.mark_state.MarkState.TheVariants.{BogusComment}
use Rattle.standard.specs.Step.{in_mark}
use Rattle.tokenizer.specs.declared.part.Part.TheVariants as part
use Rattle.tokenizer.specs.Whole.{piece}
use Rattle.tokenizer.proofs.WholeLemmas.{piece-none}
use Rattle.tokenizer.proofs.AppendLemmas.{led, stays-there, bogus-adds, no_cr-none}
use Rattle.tokenizer.proofs.append.append_in_mark.Goals as goal

pub returns-in-BogusComment-clause-led : goal.returns-in-BogusComment-clause-led
returns-in-BogusComment-clause-led c =
    rw c.in-BogusComment.is
    (led (in_mark (BogusComment c.in-BogusComment.held)) (λ (t : List ℕ). in_mark (BogusComment t)) (λ (x y : List ℕ). x ++ y) part.BogusComment c.in-BogusComment.held c.add_rest.new.held (λ (end : ℕ). piece c.args.text.now c.args.from end) c.add_rest.result
    (λ cs h. bogus-adds c.in-BogusComment.held cs h) c.add_rest.ensures.added c.add_rest.ensures.all)

pub returns-in_default-clause-led : goal.returns-in_default-clause-led
returns-in_default-clause-led c = stays-there (in_mark c.args.state.now) (piece c.args.text.now c.args.from c.args.from) (piece-none c.args.text.now c.args.from)

pub returns-in_default-clause-no_cr : goal.returns-in_default-clause-no_cr
returns-in_default-clause-no_cr c = no_cr-none (piece-none c.args.text.now c.args.from)
