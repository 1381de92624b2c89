use Rattle.std.proofs.Common.{rules, ◌≡◌, Bool, true, false, if◌then◌else◌, [], ◌∷◌, ◌++◌, drop, sym, ap, ◌∙◌, subst}
use lib.Seq.{drop-append-le}
use Rattle.two_copies.specs.Log.{InStep}
use Rattle.two_copies.proofs.LogKept.{opened, longer}
use Rattle.two_copies.proofs.writer.Writer.append.Goals as goal

pub invariant_of-self : goal.invariant_of-self
invariant_of-self g c = let applied = g.T.Absorb.applied in let state = g.T.Absorb.state in let w = c.args.self.now in let shown = state w.desk.shown.value in let spare = state w.desk.spare.value in
    let h = opened applied shown spare g.row.T-State.coded w.log.items w.behind w.ahead w.in_step in
    let go : (b : Bool) → InStep applied shown spare (if b then w.log.items ++ c.args.op ∷ [] else w.log.items) w.behind w.ahead = elim [ true ↦ longer applied shown spare _ _ _ _ h | false ↦ h ] in
    record { in_step = ∣ subst (λ l. InStep applied shown spare l w.behind w.ahead) (sym c.push_back.ensures.items) (go _) ∣₁ }

pub returns-in-Ok-clause-pending : goal.returns-in-Ok-clause-pending
returns-in-Ok-clause-pending g c = let applied = g.T.Absorb.applied in let state = g.T.Absorb.state in let w = c.args.self.now in
    let h = opened applied (state w.desk.shown.value) (state w.desk.spare.value) g.row.T-State.coded w.log.items w.behind w.ahead w.in_step in
    let now : c.push_back.new.self.items ≡ w.log.items ++ c.args.op ∷ [] = search rules in ap (drop w.behind) now ∙ drop-append-le w.behind w.log.items (c.args.op ∷ []) h.0
