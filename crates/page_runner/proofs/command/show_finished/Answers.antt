use Rattle.std.proofs.Common.{length, refl}
use Rattle.standard.specs.Outer.{document_text}
use Rattle.parse_machine.specs.declared.end.End.TheVariants as end
use Rattle.page_runner.proofs.MannerLemmas.{ended_with}
use Rattle.page_runner.proofs.command.show_finished.Goals as goal

pub returns : goal.returns
returns c =
    ended_with _ (length c.args.seen.now) end.Finished c.args.doc.now.tree c.in_ok-text.text.items c.add_watch_lines.new.text.items refl c.in_ok-text.ensures (c.in_ok-add_watch_lines.ensures (document_text c.args.doc.now.tree) c.requires)
