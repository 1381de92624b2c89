use Rattle.std.proofs.Common.{◌∙◌}
use Rattle.text_store.proofs.Lookups.{mark_held, first_named}
use Rattle.text_store.proofs.seen.first_name.Goals as goal

pub text-requires : goal.text-requires
text-requires c = (mark_held c.args.texts.now c.args.marks.now 0 c.requires.held c.requires.some).0

pub returns : goal.returns
returns c = c.text.ensures ∙ first_named c.args.texts.now c.args.marks.now c.requires.some
