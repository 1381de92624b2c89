use Rattle.std.proofs.Common.{Some, sym, ap, ◌∙◌}
use Rattle.text_store.proofs.Lookups.{mark_held, mark_found}
use Rattle.text_store.proofs.listed.mark_in.Goals as goal

pub mark_seen-requires-clause-name : goal.mark_seen-requires-clause-name
mark_seen-requires-clause-name c = (mark_held c.args.texts.now c.args.marks.now c.args.index c.requires.held c.requires.here).0

pub mark_seen-requires-clause-value : goal.mark_seen-requires-clause-value
mark_seen-requires-clause-value c = (mark_held c.args.texts.now c.args.marks.now c.args.index c.requires.held c.requires.here).1

pub returns : goal.returns
returns c = mark_found c.args.texts.now c.args.marks.now c.args.index c.requires.here ∙ ap Some (sym c.mark_seen.ensures)
