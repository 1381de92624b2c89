use Rattle.std.proofs.Common.{rules, ◌≡◌, ℕ, ◌-◌, ◌∷◌, drop, sym, ap, ◌∙◌, subst}
use Rattle.two_copies.specs.Log.{InStep}
use Rattle.two_copies.proofs.LogKept.{caught_one}
use Rattle.two_copies.proofs.writer.steps.catch_up.Goals as goal

pub loop-behind-preserved : goal.loop-behind-preserved
loop-behind-preserved g c = let applied = g.T.Absorb.applied in let state = g.T.Absorb.state in let shown = state c.args.shown.now in let spare = state c.loop-behind.spare in
    let op = c.unwrap-op.result in let rest = c.pop_front.new.self.items in let k : ℕ = c.loop-behind.behind in let cut : c.loop-behind.log.items ≡ op ∷ rest = search rules in
    let took : state c.absorb_second.new.self ≡ applied spare op = search rules in
    let t = caught_one applied shown spare op rest k c.args.ahead c.loop-behind-test.true (subst (λ l. InStep applied shown spare l k c.args.ahead) cut c.loop-behind.invariant.0) in
    (subst (λ z. InStep applied shown z rest (k - 1) c.args.ahead) (sym took) t.0, t.1 ∙ (ap (drop k) (sym cut) ∙ c.loop-behind.invariant.1))
