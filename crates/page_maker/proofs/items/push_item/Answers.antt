use Rattle.page_maker.proofs.Steps.{underlined}
use Rattle.page_maker.proofs.items.push_item.Goals as goal

pub returns-in-4 : goal.returns-in-4
returns-in-4 c = rw (c.in-4.is, underlined) c.push_between-in-4.ensures
