use Rattle.page_runner.proofs.PublishingLemmas.{shows_now}
use Rattle.page_runner.proofs.publisher.show_more.Goals as goal

pub returns-in-Ok-clause-all : goal.returns-in-Ok-clause-all
returns-in-Ok-clause-all g c = λ _. c.if-not-all.false

pub returns-in-Ok-clause-shows : goal.returns-in-Ok-clause-shows
returns-in-Ok-clause-shows g c = λ _. shows_now _ _ _ _ (c.in-Ok.ensures.doc c.requires) (c.in-Ok.ensures.shown c.requires)

pub returns-in-Err-clause-kept : goal.returns-in-Err-clause-kept
returns-in-Err-clause-kept g c = λ _. shows_now _ _ _ _ c.in-Err.ensures.err c.in-Err.ensures.err_shown
