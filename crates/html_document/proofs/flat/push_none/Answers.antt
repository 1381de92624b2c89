use Rattle.std.proofs.Common.{◌∙◌}
use Rattle.html_document.proofs.flat.push_none.Goals as goal

pub returns-clause-start : goal.returns-clause-start
returns-clause-start c = c.in_ok-start.ensures.same ∙ (c.len.ensures ∙ c.args.attributes.now.ok.0)
