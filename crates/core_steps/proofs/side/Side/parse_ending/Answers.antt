use Rattle.std.proofs.Common.{◌∙◌, List, sym, ap, refl}
use Rattle.doc_changes.specs.declared.change.Change.{Change}
use Rattle.doc_changes.specs.Logs.{with_more}
use Rattle.core_steps.proofs.Logged.{ending-first}
use Rattle.speculation.specs.declared.batch.Halt.TheVariants as halt
use Rattle.core_definitions.specs.Batches.{Piece}
use Rattle.core_steps.proofs.Executes.{ending-executed}
use Rattle.core_steps.proofs.side.Side.parse_ending.Goals as goal

pub returns-in_ok-end-in-Some-clause-executed : goal.returns-in_ok-end-in-Some-clause-executed
returns-in_ok-end-in-Some-clause-executed c =
    ending-executed c.args.self.now (record c.args.self.now { writer = c.finish.new.self }) c.requires.ends c.requires.free c.requires.ahead c.requires.placed c.finish.new.self c.in-Some.ending
    c.in_ok-end-in-Some.end (halt.Over c.in_ok-end-in-Some.end) (sym (c.ending.ensures ∙ ap (λ (x : Piece). x.ending) c.left.ensures) ∙ c.in-Some.is) c.in_ok-end-in-Some.ensures.finished refl refl

pub returns-in_ok-end-in-Some-clause-logged : goal.returns-in_ok-end-in-Some-clause-logged
returns-in_ok-end-in-Some-clause-logged c =
    let old = c.args.self.now in
    c.in_ok-end-in-Some.ensures.logged ∙ ap (λ (more : List Change). with_more more c.args.log.now) (ending-first old.table old.writer.parser old.ledger.left c.in-Some.ending c.requires.ends
    (sym (c.ending.ensures ∙ ap (λ (x : Piece). x.ending) c.left.ensures) ∙ c.in-Some.is))
