use Rattle.std.proofs.Common.{rules, ◌∙◌}
use Rattle.page_runner.proofs.WatchingLemmas.{shown_if, kept_if}
use Rattle.page_runner.proofs.watching.show.Goals as goal

pub returns-then-is_err-clause-err : goal.returns-then-is_err-clause-err
returns-then-is_err-clause-err g c = record { over = c.note_all.ensures.going ∙ c.requires; table = c.note_all.ensures.table; stand = c.note_all.ensures.stand; published = c.note_all.ensures.published }

pub returns-clause-ok : goal.returns-clause-ok
returns-clause-ok g c = shown_if c.publish.result.1 c.args.board c.note_all.new.board c.publish.result.0 c.args.changes.items (search rules) c.publish.ensures.over c.publish.ensures.table c.publish.ensures.ok

pub returns-clause-err : goal.returns-clause-err
returns-clause-err g c =
    kept_if c.publish.result.1 c.args.board c.note_all.new.board c.publish.result.0 c.note_all.ensures.stand c.note_all.ensures.published c.publish.ensures.over (c.publish.ensures.table ∙ c.note_all.ensures.table) c.publish.ensures.err
