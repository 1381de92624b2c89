use Rattle.std.proofs.Common.{◌∙◌, ap}
use Rattle.std.specs.Str.{chars}
use Rattle.html_types.proofs.WordLemmas.{chars_word}
use Rattle.html_types.proofs.word.Word.text.Goals as goal

pub returns-clause-spelled : goal.returns-clause-spelled
returns-clause-spelled c = ap chars c.written.ensures ∙ chars_word c.args.self
