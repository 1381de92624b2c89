use Rattle.std.proofs.Common.{◌≡◌, [], ◌∷◌, ◌++◌, map, refl, sym, ap, subst, ◌∙◌}
use Rattle.parser_thread.specs.declared.messages.ToParser.TheVariants.{Ask}
use Rattle.page_runner.specs.Exchanges.{Exchange}
use Rattle.page_runner.specs.OnTwo.{asks_in}
use Rattle.page_turns.proofs.MessageLemmas.{tells_unordered}
use Rattle.page_runner.proofs.OnTwoLemmas.{asks_then, asked_then}
use Rattle.page_runner.proofs.on_two.OverLanesCounterpart.ask.Goals as goal

pub invariant_of-self : goal.invariant_of-self
invariant_of-self g c = (c.send.ensures.running, subst (λ ms. ms ≡ map Ask (asks_in ms)) (sym c.send.ensures.asked) (asked_then c.self.inside.running.ask.put c.args.request c.self.invariant.1))

pub returns-clause-put : goal.returns-clause-put
returns-clause-put g c =
    ap asks_in c.send.ensures.asked ∙ (asks_then c.self.inside.running.ask.put c.args.request ∙ ap (λ (e : Exchange). e.asks ++ c.args.request ∷ []) c.self.view_is)

pub returns-clause-tells : goal.returns-clause-tells
returns-clause-tells g c = tells_unordered _ _ _ _ _ refl refl
