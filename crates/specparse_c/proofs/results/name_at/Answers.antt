use Rattle.std.proofs.Common.{sym, ◌∙◌}
use Rattle.specparse_c.proofs.results.name_at.Goals as goal

pub returns-in-None : goal.returns-in-None
returns-in-None c = sym c.space_at.ensures ∙ c.in-None.is

pub returns-in_ok-name-in-Some : goal.returns-in_ok-name-in-Some
returns-in_ok-name-in-Some c = (c.in-Some.at, sym c.space_at.ensures ∙ c.in-Some.is, c.in_ok-name-in-Some.ensures)
