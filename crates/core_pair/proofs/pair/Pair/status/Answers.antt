use Rattle.std.proofs.Common.{◌≡◌, sym, ◌∙◌, ap}
use Rattle.core_steps.specs.Sides.{standing_of}
use Rattle.core_steps.specs.States.{standing_told}
use Rattle.core_definitions.specs.Desk.{Desk}
use Rattle.core_pair.specs.Interleaving.{unless_busy, standing_of_core}
use Rattle.core_pair.specs.Pairs.{setup_of, is_busy}
use Rattle.core_pair.proofs.Holding.{run-shown, desk-shown}
use Rattle.core_pair.proofs.Interleaved.{ends-as-serial}
use Rattle.core_pair.proofs.Standings.{never-running, stands-awaiting, awaits-standing}
use Rattle.core_pair.proofs.pair.Pair.status.Goals as goal

told : (g : _) (c : goal.After-status g) → standing_told c.status.result ≡ standing_of_core (setup_of c.args.self.now) c.args.self.now.core
told g c =
    c.status.ensures ∙ (ap (λ b. unless_busy b (standing_of c.self.inside.both.core.desk)) c.is_busy-busy.ensures
    ∙ ap (λ (d : Desk). unless_busy (is_busy (setup_of c.args.self.now) c.args.self.now.core) (standing_of d)) (desk-shown c.self.invariant c.self.view_is))

pub returns-clause-told : goal.returns-clause-told
returns-clause-told g c = told g c

pub returns-clause-ends : goal.returns-clause-ends
returns-clause-ends g c = ends-as-serial (run-shown c.self.invariant c.self.view_is)

pub returns-clause-never_stuck : goal.returns-clause-never_stuck
returns-clause-never_stuck g c = λ idle is. never-running (run-shown c.self.invariant c.self.view_is) idle (sym (told g c) ∙ is)

pub returns-clause-awaits : goal.returns-clause-awaits
returns-clause-awaits g c = λ name. (λ is. stands-awaiting c.args.self.now name (sym (told g c) ∙ is), λ awaits. told g c ∙ awaits-standing c.args.self.now name awaits)
