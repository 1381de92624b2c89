use Rattle.std.proofs.Common.{ℕ, List, ◌++◌}
use Rattle.html_types.specs.declared.mark_state.CommentState.TheVariants.{Inside}
use Rattle.standard.specs.CommentStates.{in_comment}
use Rattle.tokenizer.specs.declared.part.Part.TheVariants as part
use Rattle.tokenizer.specs.Whole.{piece}
use Rattle.tokenizer.proofs.WholeLemmas.{piece-none}
use Rattle.tokenizer.proofs.AppendLemmas.{led, stays-there, comment-adds, no_cr-none}
use Rattle.tokenizer.proofs.append.append_in_comment.Goals as goal

pub returns-in-Inside-clause-led : goal.returns-in-Inside-clause-led
returns-in-Inside-clause-led c =
    rw c.in-Inside.is
    (led (in_comment (Inside c.in-Inside.held)) (λ (t : List ℕ). in_comment (Inside t)) (λ (x y : List ℕ). x ++ y) part.Comment c.in-Inside.held c.add_rest.new.held (λ (end : ℕ). piece c.args.text.now c.args.from end) c.add_rest.result
    (λ cs h. comment-adds c.in-Inside.held cs h) c.add_rest.ensures.added c.add_rest.ensures.all)

pub returns-in_default-clause-led : goal.returns-in_default-clause-led
returns-in_default-clause-led c = stays-there (in_comment c.args.state.now) (piece c.args.text.now c.args.from c.args.from) (piece-none c.args.text.now c.args.from)

pub returns-in_default-clause-no_cr : goal.returns-in_default-clause-no_cr
returns-in_default-clause-no_cr c = no_cr-none (piece-none c.args.text.now c.args.from)
