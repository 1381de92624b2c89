use Rattle.std.proofs.Common.{Bool, IfOk, subst, ap, ◌∙◌}
use Rattle.standard.specs.Foreign.{is_foreign}
use Rattle.standard.specs.Tokenizer.{Reached, after_tokens, read}
use Rattle.parse_machine.specs.Machine.{Builds}
use Rattle.parse_machine.proofs.MachineLemmas.{none-waited}
use Rattle.parse_machine.proofs.process.read_and_build.Goals as goal

pub returns-in_ok-read_character-in-None-clause-built : goal.returns-in_ok-read_character-in-None-clause-built
returns-in_ok-read_character-in-None-clause-built c =
    subst (λ (m : Reached). IfOk c.build_waiting.result (λ stop. (cr : Bool) → Builds cr m c.args.builder.now c.args.ops.now c.build_waiting.new.tokenizer c.build_waiting.new.builder c.build_waiting.new.ops stop))
    (none-waited c.read_character.new.self (read c.args.table.now (is_foreign c.args.builder.now) c.args.tokenizer.now.state c.args.c) c.args.tokenizer.now.tokens (c.in_ok-read_character-in-None.ensures ∙ ap (λ f. after_tokens c.args.tokenizer.now.tokens (read c.args.table.now f c.args.tokenizer.now.state c.args.c)) c.is_foreign.ensures) c.requires)
    c.build_waiting.ensures.built
