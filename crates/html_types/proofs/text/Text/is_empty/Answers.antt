use Rattle.html_types.proofs.TextLemmas.{nil-from_bytes}
use Rattle.html_types.proofs.text.Text.is_empty.Goals as goal

pub returns : goal.returns
returns c = rw (← c.as_str.ensures, c.is_empty.ensures) (nil-from_bytes _ c.as_str.utf8)
