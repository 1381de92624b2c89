use Rattle.std.proofs.Common.{ap₂, ◌∙◌}
use Rattle.std.proofs.lemmas.Result.{IfOk-weaker}
use Rattle.clap.specs.Words.{with_rule}
use Rattle.command_words.proofs.GrammarLemmas.{or_false}
use Rattle.command_words.proofs.words.page_command.Goals as goal

pub returns : goal.returns
returns c =
    let piece = c.in_ok-arg.ensures.shape c.number_option.ensures.local ∙ ap₂ with_rule c.new.ensures.app c.number_option.ensures.rule in
    let ahead = c.in_ok-arg-2.ensures.shape c.number_option-2.ensures.local ∙ ap₂ with_rule piece c.number_option-2.ensures.rule in
    let preload = c.in_ok-arg-3.ensures.shape c.number_option-3.ensures.local ∙ ap₂ with_rule ahead c.number_option-3.ensures.rule in
    let dump = c.in_ok-arg-4.ensures.shape c.flag.ensures.local ∙ ap₂ with_rule preload c.flag.ensures.rule in
    let watch = c.in_ok-arg-5.ensures.shape c.number_option-4.ensures.local ∙ ap₂ with_rule dump c.number_option-4.ensures.rule in
    let page = c.in_ok-arg-6.ensures.shape c.required.ensures.local ∙ ap₂ with_rule watch c.required.ensures.rule in
    let dir = c.in_ok-arg-7.ensures.shape c.required-2.ensures.local ∙ ap₂ with_rule page c.required-2.ensures.rule in
    let local_1 = or_false _ _ _ c.in_ok-arg.ensures.globals c.new.ensures.local c.number_option.ensures.local in
    let local_2 = or_false _ _ _ c.in_ok-arg-2.ensures.globals local_1 c.number_option-2.ensures.local in
    let local_3 = or_false _ _ _ c.in_ok-arg-3.ensures.globals local_2 c.number_option-3.ensures.local in
    let local_4 = or_false _ _ _ c.in_ok-arg-4.ensures.globals local_3 c.flag.ensures.local in
    let local_5 = or_false _ _ _ c.in_ok-arg-5.ensures.globals local_4 c.number_option-4.ensures.local in
    let local_6 = or_false _ _ _ c.in_ok-arg-6.ensures.globals local_5 c.required.ensures.local in
    let local_7 = or_false _ _ _ c.in_ok-arg-7.ensures.globals local_6 c.required-2.ensures.local in
    IfOk-weaker c.arg-8.result _ _ (λ r h.
    (h.shape c.required-3.ensures.local ∙ ap₂ with_rule dir c.required-3.ensures.rule, or_false _ _ _ h.globals local_7 c.required-3.ensures.local)) c.arg-8.ensures
