use Rattle.std.proofs.Common.{◌∙◌, rules}
use Rattle.std.specs.Str.{chars}
use Rattle.std.proofs.lemmas.Iterator.{YieldsList-from_chars}
use Rattle.std.proofs.lemmas.Iterator.Search.{all_from_yields_List}
use Rattle.standard.specs.WhiteSpace.{is_space}
use Rattle.builder_state.proofs.Characters.{all_space_all}
use Rattle.builder_state.proofs.pending.is_all_space.Goals as goal

pub returns : goal.returns
returns c =
    all_from_yields_List is_space _ _ _ c.all.ensures.ran (YieldsList-from_chars c.args.text.now c.utf8.text (cc)) (λ x b q called. search rules)
    ∙ all_space_all (chars c.args.text.now)
