use Rattle.std.proofs.Common.{◌≡◌, ◌++◌, ◌∷◌, [], Option, Some, None, refl, subst, ap, ◌∙◌}
use Rattle.write_parser.specs.declared.nesting.Begun.{Begun}
use Rattle.write_parser.specs.declared.nesting.Nesting.{Nesting}
use Rattle.write_parser.specs.declared.live.Live.{Live}
use Rattle.write_parser.specs.Steps.{Prepares}
use Rattle.write_parser.proofs.NestingLemmas.{nests-none, nests-begun}
use Rattle.write_parser.proofs.live.Live.nest.Goals as goal

none_begun : (b : Option Begun) → ((x : Begun) → b ≡ Some x → ⊥) → b ≡ None
none_begun None not = refl
none_begun (Some x) not = absurd (not x refl)

pub returns-in_ok-push : goal.returns-in_ok-push
returns-in_ok-push c =
    let old : Live = c.args.self.now in
    let n : Nesting = c.args.nesting.now in
    nests-begun c.args.id old c.prepare.new.self n (record { top = c.replace-around.new.dest; below = c.push.new.self }) c.in-Some.begun
    (subst (λ b. Prepares c.args.id old b c.prepare.new.self) c.in-Some.is c.in_ok-begun.ensures) c.replace-around.ensures.after
    (c.in_ok-push.ensures.items ∙ ap (λ b. n.below.items ++ b ∷ []) c.replace-around.ensures.value)

pub returns-in_default : goal.returns-in_default
returns-in_default c =
    nests-none c.args.id c.args.self.now c.prepare.new.self c.args.nesting.now
    (subst (λ b. Prepares c.args.id c.args.self.now b c.prepare.new.self) (none_begun c.in_ok-begun.field-0 c.in_default.not-Some) c.in_ok-begun.ensures)
