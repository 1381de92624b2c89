use Rattle.std.proofs.Common.{◌≡◌, false, Some, sym, ap, ◌∙◌, arith}
use Rattle.std.specs.Str.{chars}
use Rattle.html_types.specs.Text.{same_text}
use Rattle.page_turns.proofs.TextLemmas.{same-text}
use Rattle.preload.proofs.Teams.{below, at_read, passed, unlisted}
use Rattle.preload.proofs.team.place_among.Goals as goal

pub returns-then-is-clause-some : goal.returns-then-is-clause-some
returns-then-is-clause-some c =
    at_read c.args.names.now c.loop-k.k c.index-names-k.result (omega (arith, c.loop-k-test.true)) c.index-names-k.is ∙ ap Some (same-text c.index-names-k.result (chars c.args.name.now) (sym c.is.ensures ∙ c.if-is.true))

pub loop-k-preserved : goal.loop-k-preserved
loop-k-preserved c =
    passed (λ n. same_text n (chars c.args.name.now) ≡ false) c.args.names.now c.loop-k.k c.index-names-k.result (at_read c.args.names.now c.loop-k.k c.index-names-k.result (omega (arith, c.loop-k-test.true)) c.index-names-k.is) (sym c.is.ensures ∙ c.if-is.false) c.loop-k.invariant

pub returns-clause-none : goal.returns-clause-none
returns-clause-none c = unlisted c.args.names.now (chars c.args.name.now) (λ k n there. c.loop-k.invariant k n (let less = below c.args.names.now k n there in omega (arith, less, c.loop-k-test.false)) there)
