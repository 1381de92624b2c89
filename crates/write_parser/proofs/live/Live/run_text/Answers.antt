use Rattle.std.specs.Str.{chars}
use Rattle.std.proofs.Common.{[]}
use Rattle.write_parser.specs.Steps.{at_of}
use Rattle.write_parser.proofs.MadeLemmas.{script-made}
use Rattle.write_parser.proofs.StatementLemmas.{on_ok}
use Rattle.write_parser.proofs.LevelLemmas.{runs-text}
use Rattle.write_parser.proofs.live.Live.run_text.Goals as goal

pub returns-clause-does : goal.returns-clause-does
returns-clause-does c =
    on_ok c.run_begun.result _ _
    (λ moves. runs-text c.args.table.now (chars c.args.text.now) c.args.self.now c.begin.new.self c.run_begun.new.self c.in_ok-begun.begun c.in_ok-begun.ensures moves) c.run_begun.ensures.does

pub returns-clause-logged : goal.returns-clause-logged
returns-clause-logged c =
    script-made c.run_begun.result c.args.table.now (chars c.args.text.now) c.args.self.now c.begin.new.self c.in_ok-begun.begun (at_of c.run_begun.new.self []) c.args.log.now c.run_begun.new.log
    c.in_ok-begun.ensures c.run_begun.ensures.logged
