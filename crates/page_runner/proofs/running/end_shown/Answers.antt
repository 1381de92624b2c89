use Rattle.std.proofs.Common.{refl, sym}
use Rattle.page_turns.proofs.PageTakenLemmas.{front_nothing}
use Rattle.page_runner.proofs.running.end_shown.Goals as goal

pub returns-then-not-all-clause-gives : goal.returns-then-not-all-clause-gives
returns-then-not-all-clause-gives g c = λ count same. front_nothing _ _

pub end_page-requires : goal.end_page-requires
end_page-requires g c = c.requires c.if-not-all.false

pub returns-clause-gives : goal.returns-clause-gives
returns-clause-gives g c = λ count same. rw (sym (same c.if-not-all.false)) c.end_page.ensures.gives

pub returns-then-not-all-clause-all : goal.returns-then-not-all-clause-all
returns-then-not-all-clause-all g c = λ some. absurd (some refl)

pub returns-clause-all : goal.returns-clause-all
returns-clause-all g c = λ some. c.if-not-all.false
