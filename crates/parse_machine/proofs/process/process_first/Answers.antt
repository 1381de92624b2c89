use Rattle.std.proofs.Common.{refl, ap, ◌∙◌}
use Rattle.standard.specs.Parser.{parser, took}
use Rattle.html_types.specs.declared.instruction.Stop.TheVariants.{InputEnd}
use Rattle.parse_machine.proofs.MachineLemmas.{all_used}
use Rattle.parse_machine.proofs.process.process_first.Goals as goal

pub returns-in-None-clause-built : goal.returns-in-None-clause-built
returns-in-None-clause-built c = λ cr.
    ap (λ s. took c.args.ops.now (parser s cr c.args.builder.now) InputEnd) c.pop.ensures.state
    ∙ all_used cr c.args.tokenizer.now c.args.tokenizer.now c.args.builder.now c.args.ops.now c.in-None.ensures.none refl
