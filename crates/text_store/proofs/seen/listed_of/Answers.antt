use Rattle.std.proofs.Common.{map, append-nil}
use Rattle.text_store.specs.Lists.{mark_at}
use Rattle.text_store.proofs.seen.listed_of.Goals as goal

pub returns : goal.returns
returns c = append-nil (map (mark_at c.args.texts.now) c.args.marks.now)
