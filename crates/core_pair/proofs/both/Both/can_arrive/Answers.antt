use Rattle.std.proofs.Common.{sym, ◌∙◌, ap}
use Rattle.serial.specs.Scripts.{is_lawful}
use Rattle.core_definitions.specs.Journal.{Journal}
use Rattle.core_pair.specs.Pairs.{Paired}
use Rattle.core_pair.proofs.Applying.{may-arrive}
use Rattle.core_pair.proofs.both.Both.can_arrive.Goals as goal

pub returns-then-is_lawful : goal.returns-then-is_lawful
returns-then-is_lawful g c =
    may-arrive c.find.result _ _ c.args.name.now c.journal.result.now.fetches c.args.self.now.journal.fetches c.args.self.now.core.desk c.is_none.result c.find.ensures.found c.find.ensures.none c.is_none.ensures
    c.as_str-then-is_lawful.ensures (ap (λ (j : Journal). j.fetches) (c.journal.ensures.journal ∙ ap (λ (p : Paired). p.journal) c.self.view_is)) c.requires.arrived
    (sym (c.is_lawful.ensures ∙ ap is_lawful c.as_str.ensures) ∙ c.if-is_lawful.true)
