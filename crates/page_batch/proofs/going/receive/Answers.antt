use Rattle.std.proofs.Common.{IsTrue, sym, subst, ◌∙◌}
use Rattle.core_definitions.specs.Desk.{can_arrive}
use Rattle.core_steps.specs.Fetches.{fetched_of}
use Rattle.core_pair.specs.Pairs.{Paired}
use Rattle.page_batch.proofs.TurnLemmas.{received-ok}
use Rattle.page_batch.proofs.going.receive.Goals as goal

pub bring-requires : goal.bring-requires
bring-requires g c = subst (λ n. IsTrue (can_arrive n c.args.pair.now.core.desk)) c.in_ok-copy.ensures (sym c.enabled.ensures ∙ c.if-not-enabled.false)

pub step-requires : goal.step-requires
step-requires g c = subst (λ (p : Paired). IsTrue (can_arrive c.in_ok-copy.field-0 p.core.desk)) (sym c.in_ok-bring.ensures.ok) (sym c.enabled.ensures ∙ c.if-not-enabled.false)

pub returns : goal.returns
returns g c =
    received-ok c.step.result c.args.name c.in_ok-copy.field-0 (fetched_of c.args.fetch) c.args.pair.now c.bring.new.self c.step.new.self c.in_ok-copy.ensures c.in_ok-bring.ensures.ok c.step.ensures.others c.step.ensures.nearer
