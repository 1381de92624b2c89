use Rattle.std.proofs.Common.{ap}
use Rattle.html_types.specs.Names.{name_from}
use Rattle.html_types.specs.Words.{word_text}
use Rattle.html_types.proofs.WordLemmas.{word_known}
use Rattle.html_types.proofs.name.names_are_known.Goals as goal

pub returns : goal.returns
returns c w = ap (λ o. name_from o (word_text w)) (word_known w)
