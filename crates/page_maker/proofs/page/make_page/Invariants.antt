use Rattle.std.proofs.Common.{◌≡◌}
use Rattle.page_maker.specs.Made.{number_at, made_page}
use Rattle.page_maker.proofs.page.make_page.Given as goal

abbrev pub invariant-loop-index : goal.invariant-loop-index
invariant-loop-index l = record {
  page : l.page ≡ made_page l.fn.number l.index;
  number : l.current ≡ number_at l.fn.number l.index;
}
