use Rattle.std.proofs.Common.{ap₂, ◌∙◌}
use Rattle.std.proofs.lemmas.Result.{IfOk-weaker}
use Rattle.clap.specs.Words.{with_rule}
use Rattle.command_words.proofs.GrammarLemmas.{or_false}
use Rattle.command_words.proofs.words.batch_command.Goals as goal

pub returns : goal.returns
returns c =
    let list = c.in_ok-arg.ensures.shape c.required.ensures.local ∙ ap₂ with_rule c.new.ensures.app c.required.ensures.rule in
    let dir = c.in_ok-arg-2.ensures.shape c.required-2.ensures.local ∙ ap₂ with_rule list c.required-2.ensures.rule in
    let local_1 = or_false _ _ _ c.in_ok-arg.ensures.globals c.new.ensures.local c.required.ensures.local in
    let local_2 = or_false _ _ _ c.in_ok-arg-2.ensures.globals local_1 c.required-2.ensures.local in
    IfOk-weaker c.arg-3.result _ _ (λ r h.
    (h.shape c.required-3.ensures.local ∙ ap₂ with_rule dir c.required-3.ensures.rule, or_false _ _ _ h.globals local_2 c.required-3.ensures.local)) c.arg-3.ensures
