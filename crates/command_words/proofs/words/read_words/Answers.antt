use Rattle.std.proofs.Common.{map}
use Rattle.clap.specs.Words.{subcommand_rows_of}
use Rattle.std.specs.String.{string_bytes}
use Rattle.command_words.proofs.GrammarLemmas.{asked_none, make_within, page_within}
use Rattle.command_words.proofs.words.read_words.Goals as goal

pub returns-in-Err-clause-usage : goal.returns-in-Err-clause-usage
returns-in-Err-clause-usage c refused = asked_none (map string_bytes c.args.words.now) (c.in-Err.ensures.usage refused)

pub returns-clause-within : goal.returns-clause-within
returns-clause-within c = page_within c.in_ok-page_words.field-0 (subcommand_rows_of c.in-Ok.matches) c.in_ok-page_words.ensures

pub returns-then-is_make-clause-within : goal.returns-then-is_make-clause-within
returns-then-is_make-clause-within c = make_within c.make_words.result (subcommand_rows_of c.in-Ok.matches) c.make_words.ensures
