use Rattle.std.proofs.Common.{◌∙◌, sym, ap, reverse}
use Rattle.html_types.proofs.ListLemmas.{same-from_reverse}
use Rattle.html_types.proofs.open.Modes.same.Goals as goal

pub returns : goal.returns
returns c = (
  λ e. sym c.as_slice.ensures ∙ ap reverse (c.same_modes.ensures.0 e) ∙ c.as_slice-2.ensures,
  λ e. c.same_modes.ensures.1 (same-from_reverse _ _ (c.as_slice.ensures ∙ e ∙ sym c.as_slice-2.ensures)),
)
