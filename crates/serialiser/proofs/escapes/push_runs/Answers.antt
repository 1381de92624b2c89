use Rattle.std.proofs.Common.{◌++◌, List, ℕ, flat_map, append-nil, sym, ap, ◌∙◌}
use Rattle.std.proofs.lemmas.Str.{chars-nil, IsCharBoundary-start}
use Rattle.serialiser.specs.Plain.{escaped_for}
use Rattle.serialiser.proofs.escapes.push_runs.Goals as goal

pub runs-init : goal.runs-init
runs-init c = record {
  boundary = IsCharBoundary-start c.args.text.now c.utf8.text;
  added = sym (ap (λ (l : List ℕ). c.args.out.now ++ flat_map (escaped_for c.args.in_value) l) chars-nil ∙ append-nil c.args.out.now);
}
