use Rattle.std.proofs.Common.{subst}
use Rattle.page_runner.specs.Making.{AreFilesOf}
use Rattle.page_runner.proofs.MakingLemmas.{page-encoded}
use Rattle.page_runner.proofs.making.make_and_parse.Goals as goal

pub parse_made-requires-clause-files : goal.parse_made-requires-clause-files
parse_made-requires-clause-files g c κs within = subst (λ page. AreFilesOf page c.in_ok-files.files) (page-encoded c.args.words c.in_ok-made.made.page c.requires.count c.in_ok-made.ensures.page) c.in_ok-files.ensures

pub parse_made-requires-clause-table : goal.parse_made-requires-clause-table
parse_made-requires-clause-table g c κs within = (c.in_ok-table.ensures, c.in_ok-table.ensures)
