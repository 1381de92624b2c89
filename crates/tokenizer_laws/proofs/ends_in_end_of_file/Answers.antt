use Rattle.tokenizer_laws.proofs.EndLaws.{ends-in_end_of_file}
use Rattle.tokenizer_laws.proofs.ends_in_end_of_file.Goals as goal

pub returns : goal.returns
returns c = ends-in_end_of_file
