use Rattle.std.proofs.Common.{◌≡◌, Bool, length}
use Rattle.standard.specs.Parser.{after_all, build_end}
use Rattle.parse_machine.proofs.process.build_last.Given as goal

abbrev pub invariant-tokens : goal.invariant-tokens
invariant-tokens l = (cr : Bool) → after_all l.ops (build_end l.tokenizer.state cr l.tokenizer.tokens l.builder) ≡ after_all l.fn.ops (build_end l.fn.tokenizer.state cr l.fn.tokenizer.tokens l.fn.builder)

abbrev pub decreases-tokens : goal.decreases-tokens
decreases-tokens l = length l.tokenizer.tokens
