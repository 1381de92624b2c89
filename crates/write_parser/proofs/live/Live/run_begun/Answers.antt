use Rattle.write_parser.proofs.MadeLemmas.{none_begun_made}
use Rattle.write_parser.proofs.live.Live.run_begun.Goals as goal

pub returns-in_default-clause-logged : goal.returns-in_default-clause-logged
returns-in_default-clause-logged c = none_begun_made c.args.table.now c.args.self.now c.args.begun c.args.log.now c.in_default.not-Some
