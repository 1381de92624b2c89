use Rattle.std.proofs.Common.{◌∙◌, sym}
use Rattle.page_maker.proofs.Steps.{first_number, no_items}
use Rattle.page_maker.proofs.page.make_page.Goals as goal

pub loop-index-init : goal.loop-index-init
loop-index-init c = record {
  page = c.in_ok-page.ensures ∙ sym (no_items c.args.number);
  number = sym (first_number c.args.number);
}
