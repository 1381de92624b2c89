use Rattle.std.proofs.Common.{refl}
use Rattle.std.specs.Str.{chars}
use Rattle.write_parser.proofs.BeginLemmas.{prepares-still, prepares-external, prepares-inline}
use Rattle.write_parser.proofs.StatementLemmas.{if_ok}
use Rattle.write_parser.proofs.live.Live.prepare.Goals as goal

pub returns-in-Still : goal.returns-in-Still
returns-in-Still c = prepares-still c.args.id c.args.self.now c.in-Still.ensures

pub returns-in_ok-self-in-External : goal.returns-in_ok-self-in-External
returns-in_ok-self-in-External c =
    prepares-external c.args.id c.args.self.now (record c.args.self.now { pending = c.in_ok-self-in-External.field-0 }) c.in_ok-self-in-External.field-0 c.in-External.ensures
    c.in_ok-self-in-External.ensures refl

pub returns-in_ok-text-in-Inline : goal.returns-in_ok-text-in-Inline
returns-in_ok-text-in-Inline c =
    if_ok c.begin.result _ _
    (λ begun begins. prepares-inline c.args.id c.args.self.now c.begin.new.self c.in_ok-text-in-Inline.text (chars c.as_str.result.now) begun c.in-Inline.ensures c.in_ok-text-in-Inline.ensures
    c.as_str.ensures begins) c.begin.ensures
