use Rattle.std.proofs.Common.{Bool, IfOk, subst, ap, ◌∙◌}
use Rattle.standard.specs.Foreign.{is_foreign}
use Rattle.standard.specs.Tokenizer.{Reached, after_tokens, read_end}
use Rattle.parse_machine.specs.Machine.{BuildsLast}
use Rattle.parse_machine.proofs.MachineLemmas.{none-waited}
use Rattle.parse_machine.proofs.process.end_and_build.Goals as goal

pub returns-clause-built : goal.returns-clause-built
returns-clause-built c =
    subst (λ (m : Reached). IfOk c.build_last.result (λ finish. (cr : Bool) → BuildsLast cr m c.args.builder.now c.args.ops.now c.build_last.new.tokenizer c.build_last.new.builder c.build_last.new.ops finish))
    (none-waited c.finish.new.self (read_end c.args.table.now (is_foreign c.args.builder.now) c.args.tokenizer.now.state) c.args.tokenizer.now.tokens (c.in_ok-finish.ensures ∙ ap (λ f. after_tokens c.args.tokenizer.now.tokens (read_end c.args.table.now f c.args.tokenizer.now.state)) c.is_foreign.ensures) c.requires)
    c.build_last.ensures.built
