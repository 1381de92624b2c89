use Rattle.std.proofs.Common.{◌≡◌, Bool, length}
use Rattle.standard.specs.Parser.{after_ops, build}
use Rattle.parse_machine.proofs.process.build_waiting.Given as goal

abbrev pub invariant-tokens : goal.invariant-tokens
invariant-tokens l = (cr : Bool) → after_ops l.ops (build l.tokenizer.state cr l.tokenizer.tokens l.builder) ≡ after_ops l.fn.ops (build l.fn.tokenizer.state cr l.fn.tokenizer.tokens l.fn.builder)

abbrev pub decreases-tokens : goal.decreases-tokens
decreases-tokens l = length l.tokenizer.tokens
