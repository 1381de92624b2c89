use Rattle.std.proofs.Common.{arith}
use Rattle.tok_refs.proofs.Skipping.{IsBehind-none, IsBehind-more, IsBehind-all, none-behind}
use Rattle.tok_refs.proofs.named.skip.Goals as goal

pub loop-skipped-init : goal.loop-skipped-init
loop-skipped-init c = IsBehind-none c.args.text.now _ c.utf8.text c.chars-rest.ensures.rest

pub loop-skipped-preserved : goal.loop-skipped-preserved
loop-skipped-preserved c = IsBehind-more c.args.text.now _ _ c.loop-skipped._skipped _ c.loop-skipped.invariant c.in-Some.ensures.steps.0

pub returns-in_default : goal.returns-in_default
returns-in_default c = none-behind c.args.text.now _ c.loop-skipped._skipped c.args.count c.loop-skipped.invariant c.in_default.ensures.steps.0.0 c.loop-skipped.auto._skipped-end

pub returns : goal.returns
returns c = IsBehind-all c.args.text.now _ _ c.loop-skipped._skipped c.args.count c.loop-skipped.invariant c.as_str.ensures (omega arith)
