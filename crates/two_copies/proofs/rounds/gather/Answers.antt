use Rattle.std.proofs.Common.{rules, ◌≡◌, ℕ, ◌-◌, ◌^◌, refl, ap, ◌∙◌}
use Rattle.two_copies.specs.Sides.{plan_of}
use Rattle.two_copies.specs.declared.part.Part.{Part}
use Rattle.two_copies.specs.declared.board.Plan.{Plan}
use Rattle.two_copies.specs.declared.board.Role.TheVariants.{Writer}
use Rattle.two_copies.proofs.rounds.gather.Goals as goal

pub loop-left-init : goal.loop-left-init
loop-left-init g c = let p : Plan g.row.T.Denot = plan_of c.args.place.now c.args.part.now in let is : c.args.place.now.me.0.role ≡ Writer p = search rules in
    let left : p.left ≡ c.args.left = search rules in let count : c.args.part.now.count ≡ 2 ^ 63 - c.args.left = search rules in (
      (refl, refl, refl),
      (is ∙ ap (λ (k : ℕ). let z : Plan g.row.T.Denot = record p { left = k } in Writer z) left, search rules),
      search rules,
      ap (λ (k : ℕ). let z : Part g.row.T.Denot = record c.args.part.now { count = k } in z) count,
    )
