use Rattle.std.proofs.Common.{refl, sym, arith}
use Rattle.std.specs.Str.{chars}
use Rattle.standard.specs.ForeignNames.{respelled, svg_attributes}
use Rattle.foreign_tables.proofs.Firsts.{no_svg_attribute}
use Rattle.foreign_tables.proofs.names.svg_attributes_from.Goals as goal

pub returns-in-a : goal.returns-in-a
unfolding chars respelled svg_attributes
returns-in-a c rest = rw c.in-a.is refl

pub returns-in-b : goal.returns-in-b
unfolding chars respelled svg_attributes
returns-in-b c rest = rw c.in-b.is refl

pub returns-in-c : goal.returns-in-c
unfolding chars respelled svg_attributes
returns-in-c c rest = rw c.in-c.is refl

pub returns-in-d : goal.returns-in-d
unfolding chars respelled svg_attributes
returns-in-d c rest = rw c.in-d.is refl

pub returns-in-e : goal.returns-in-e
unfolding chars respelled svg_attributes
returns-in-e c rest = rw c.in-e.is refl

pub returns-in-f : goal.returns-in-f
unfolding chars respelled svg_attributes
returns-in-f c rest = rw c.in-f.is refl

pub returns-in-g : goal.returns-in-g
unfolding chars respelled svg_attributes
returns-in-g c rest = rw c.in-g.is refl

pub returns-in-k : goal.returns-in-k
unfolding chars respelled svg_attributes
returns-in-k c rest = rw c.in-k.is refl

pub returns-in-l : goal.returns-in-l
unfolding chars respelled svg_attributes
returns-in-l c rest = rw c.in-l.is refl

pub returns-in-m : goal.returns-in-m
unfolding chars respelled svg_attributes
returns-in-m c rest = rw c.in-m.is refl

pub returns-in-n : goal.returns-in-n
unfolding chars respelled svg_attributes
returns-in-n c rest = rw c.in-n.is refl

pub returns-in-p : goal.returns-in-p
unfolding chars respelled svg_attributes
returns-in-p c rest = rw c.in-p.is refl

pub returns-in-r : goal.returns-in-r
unfolding chars respelled svg_attributes
returns-in-r c rest = rw c.in-r.is refl

pub returns-in-s : goal.returns-in-s
unfolding chars respelled svg_attributes
returns-in-s c rest = rw c.in-s.is refl

pub returns-in-t : goal.returns-in-t
unfolding chars respelled svg_attributes
returns-in-t c rest = rw c.in-t.is refl

pub returns-in-v : goal.returns-in-v
unfolding chars respelled svg_attributes
returns-in-v c rest = rw c.in-v.is refl

pub returns-in-x : goal.returns-in-x
unfolding chars respelled svg_attributes
returns-in-x c rest = rw c.in-x.is refl

pub returns-in-y : goal.returns-in-y
unfolding chars respelled svg_attributes
returns-in-y c rest = rw c.in-y.is refl

pub returns-in-z : goal.returns-in-z
unfolding chars respelled svg_attributes
returns-in-z c rest = rw c.in-z.is refl

pub returns-in_default : goal.returns-in_default
unfolding respelled
returns-in_default c rest = sym (no_svg_attribute c.args.letter rest (omega arith) (omega arith) (omega arith) (omega arith) (omega arith) (omega arith) (omega arith) (omega arith) (omega arith) (omega arith) (omega arith) (omega arith) (omega arith) (omega arith) (omega arith) (omega arith) (omega arith) (omega arith) (omega arith))
