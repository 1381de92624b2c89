use Rattle.std.proofs.Common.{refl, sym, arith}
use Rattle.foreign_tables.proofs.Firsts.{no_svg_name}
use Rattle.std.specs.Str.{chars}
use Rattle.standard.specs.ForeignNames.{respelled, svg_names}
use Rattle.foreign_tables.proofs.names.svg_names_from.Goals as goal

pub returns-in-a : goal.returns-in-a
unfolding chars respelled svg_names
returns-in-a c rest = rw c.in-a.is refl

pub returns-in-c : goal.returns-in-c
unfolding chars respelled svg_names
returns-in-c c rest = rw c.in-c.is refl

pub returns-in-f : goal.returns-in-f
unfolding chars respelled svg_names
returns-in-f c rest = rw c.in-f.is refl

pub returns-in-g : goal.returns-in-g
unfolding chars respelled svg_names
returns-in-g c rest = rw c.in-g.is refl

pub returns-in-l : goal.returns-in-l
unfolding chars respelled svg_names
returns-in-l c rest = rw c.in-l.is refl

pub returns-in-r : goal.returns-in-r
unfolding chars respelled svg_names
returns-in-r c rest = rw c.in-r.is refl

pub returns-in-t : goal.returns-in-t
unfolding chars respelled svg_names
returns-in-t c rest = rw c.in-t.is refl

pub returns-in_default : goal.returns-in_default
unfolding respelled
returns-in_default c rest = sym (no_svg_name c.args.letter rest (omega arith) (omega arith) (omega arith) (omega arith) (omega arith) (omega arith) (omega arith))
