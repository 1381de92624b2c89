use Rattle.std.proofs.Common.{ap, length}
use Rattle.std.specs.String.{string_bytes}
use Rattle.std.proofs.lemmas.Str.{IsUtf8-string_bytes}
use Rattle.page_pieces.proofs.Parts.{whole-text, whole-ascii}
use Rattle.page_pieces.proofs.shared_text.SharedText.of.Goals as goal

pub invariant_of-result : goal.invariant_of-result
invariant_of-result c = (
  whole-text _ (string_bytes c.args.text) _ (IsUtf8-string_bytes c.args.text) (ap string_bytes c.in_ok-whole.ensures.ok) (ap length c.as_str-end.ensures.value),
  whole-ascii _ _ (string_bytes c.args.text) c.is_ascii-ascii.result _ (ap string_bytes c.in_ok-whole.ensures.ok) c.as_str.ensures.value c.is_ascii-ascii.ensures.cases,
)
