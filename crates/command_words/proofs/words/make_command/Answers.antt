use Rattle.std.proofs.Common.{ap₂, ◌∙◌}
use Rattle.std.proofs.lemmas.Result.{IfOk-weaker}
use Rattle.clap.specs.Words.{with_rule}
use Rattle.command_words.proofs.GrammarLemmas.{or_false}
use Rattle.command_words.proofs.words.make_command.Goals as goal

pub returns : goal.returns
returns c =
    let number = c.in_ok-arg.ensures.shape c.required_number.ensures.local ∙ ap₂ with_rule c.new.ensures.app c.required_number.ensures.rule in
    let local_1 = or_false _ _ _ c.in_ok-arg.ensures.globals c.new.ensures.local c.required_number.ensures.local in
    IfOk-weaker c.arg-2.result _ _ (λ r h.
    (h.shape c.required_number-2.ensures.local ∙ ap₂ with_rule number c.required_number-2.ensures.rule, or_false _ _ _ h.globals local_1 c.required_number-2.ensures.local)) c.arg-2.ensures
