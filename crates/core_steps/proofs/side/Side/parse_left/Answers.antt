use Rattle.std.proofs.Common.{◌≡◌, ◌∙◌, List, ap, refl, sym, subst}
use Rattle.std.specs.Str.{chars}
use Rattle.core_definitions.specs.Batches.{Piece}
use Rattle.speculation.specs.declared.batch.Halt.TheVariants as halt
use Rattle.core_steps.specs.Acting.{Executed}
use Rattle.doc_changes.specs.declared.change.Change.{Change}
use Rattle.doc_changes.specs.Logs.{with_more}
use Rattle.write_parser.specs.Made.{of_text}
use Rattle.core_steps.proofs.Logged.{text-first}
use Rattle.core_steps.proofs.Executes.{parsed-front, parsed-executed}
use Rattle.core_steps.proofs.Ready.{not-empty}
use Rattle.core_steps.proofs.side.Side.parse_left.Goals as goal

pub use_up-requires-clause-front : goal.use_up-requires-clause-front
use_up-requires-clause-front c =
    parsed-front c.args.self.now.ledger.left.text c.as_str-text.result.now c.in_ok-ran.ran.used (c.as_str-text.ensures ∙ (c.text-2.ensures ∙ ap (λ (x : Piece). x.text) c.left-2.ensures)) c.as_str-text.utf8
    c.in_ok-ran.ensures.parsed.boundary

pub returns-clause-executed : goal.returns-clause-executed
returns-clause-executed c =
    subst (λ j. Executed c.args.self.now (halt.At c.in_ok-ran.ran.stop) (record c.use_up.new.self { journal = j })) (sym c.count_parsed.ensures) (
    parsed-executed c.args.self.now (record c.args.self.now { writer = c.parse.new.self }) c.use_up.new.self c.parse.new.self c.as_str-text.result.now c.in_ok-ran.ran
    (not-empty c.args.self.now.ledger.left.text c.text.result.now c.is_empty.result (c.text.ensures ∙ ap (λ (x : Piece). x.text) c.left.ensures) c.is_empty.ensures c.if-is_empty.false)
    (c.as_str-text.ensures ∙ (c.text-2.ensures ∙ ap (λ (x : Piece). x.text) c.left-2.ensures)) c.as_str-text.utf8 c.in_ok-ran.ensures.parsed c.requires.free c.requires.ahead refl c.use_up.ensures)

pub returns-clause-logged : goal.returns-clause-logged
returns-clause-logged c =
    let old = c.args.self.now in
    let is : chars c.as_str-text.result.now ≡ old.ledger.left.text = c.as_str-text.ensures ∙ (c.text-2.ensures ∙ ap (λ (x : Piece). x.text) c.left-2.ensures) in
    c.in_ok-ran.ensures.logged ∙ ap (λ (more : List Change). with_more more c.args.log.now) (ap (of_text old.table old.writer.parser) is ∙ text-first old.table old.writer.parser old.ledger.left
    (not-empty old.ledger.left.text c.text.result.now c.is_empty.result (c.text.ensures ∙ ap (λ (x : Piece). x.text) c.left.ensures) c.is_empty.ensures c.if-is_empty.false))
