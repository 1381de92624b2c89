use Rattle.std.proofs.Common.{◌∙◌}
use Rattle.clap.specs.Words.{found_of, subcommand_rows_of}
use Rattle.clap.proofs.WalkLemmas.{first_value-rows}
use Rattle.command_words.proofs.GrammarLemmas.{value_at}
use Rattle.command_words.proofs.words.value_of.Goals as goal

pub returns : goal.returns
returns c = c.get_str.ensures ∙ first_value-rows (found_of c.in_ok-command.command.now) c.args.name.now ∙ value_at c.args.name.now _ (subcommand_rows_of c.args.matches.now) c.in_ok-command.ensures.rows
