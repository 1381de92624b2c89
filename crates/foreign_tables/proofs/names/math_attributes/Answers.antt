use Rattle.std.proofs.Common.{refl}
use Rattle.std.specs.Str.{chars}
use Rattle.standard.specs.ForeignNames.{math_attributes}
use Rattle.foreign_tables.proofs.names.math_attributes.Goals as goal

pub returns : goal.returns
unfolding chars math_attributes
returns c = refl
