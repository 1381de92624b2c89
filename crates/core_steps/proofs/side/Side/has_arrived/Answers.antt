use Rattle.std.proofs.Common.{List, ℕ, ap, ◌∙◌}
use Rattle.std.specs.Prelude.{is_some}
use Rattle.std.specs.Str.{chars}
use Rattle.serial.specs.Scripts.{is_lawful}
use Rattle.core_steps.specs.Journals.{found}
use Rattle.core_steps.proofs.Events.{found-arrived}
use Rattle.core_steps.proofs.Indexes.{is-found}
use Rattle.core_steps.proofs.side.Side.has_arrived.Goals as goal

pub returns-else-not-is_lawful : goal.returns-else-not-is_lawful
returns-else-not-is_lawful c =
    let fs = c.args.self.now.journal.fetches in
    let text = c.as_str-else-not-is_lawful in
    found-arrived c.args.name.now fs c.is_lawful.result c.is_some.result (c.is_lawful.ensures ∙ ap is_lawful c.as_str.ensures) c.if-not-is_lawful.false
    (c.is_some.ensures ∙ (is-found c.find.result (found (chars text.result.now) fs) c.find.ensures.found c.find.ensures.none ∙ ap (λ (n : List ℕ). is_some (found n fs)) text.ensures))
