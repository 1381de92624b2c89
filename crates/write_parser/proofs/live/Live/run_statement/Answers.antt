use Rattle.std.proofs.Common.{rules, ◌≡◌, ap}
use Rattle.write_parser.specs.declared.live.Did.TheVariants as did
use Rattle.write_parser.proofs.StatementLemmas.{does-throw}
use Rattle.write_parser.proofs.live.Live.run_statement.Goals as goal

pub returns-in_ok-push-clause-does : goal.returns-in_ok-push-clause-does
returns-in_ok-push-clause-does c =
    let nothing : c.in_ok-did.did ≡ did.Nothing = search rules in
    does-throw c.args.table.now c.args.number c.args.statement.now c.args.self.now c.args.rest.now c.try_statement.new.self (record c.try_statement.new.self { lines = c.push.new.self })
    c.try_statement.new.rest c.in_ok-did.did c.requires.going c.requires.waits nothing c.in_ok-did.ensures.does (ap (λ l. record c.try_statement.new.self { lines = l }) c.in_ok-push.ensures.ok)
