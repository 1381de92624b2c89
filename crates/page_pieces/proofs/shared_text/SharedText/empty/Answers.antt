use Rattle.std.proofs.lemmas.Str.{chars-nil}
use Rattle.page_pieces.proofs.shared_text.SharedText.empty.Goals as goal

pub returns : goal.returns
returns c = rw (c.new.ensures.bytes, chars-nil) at c.of.ensures
