use Rattle.std.proofs.Common.{◌≡◌, OnErr, refl, sym, ap, subst, ◌∙◌}
use Rattle.page_runner.specs.declared.publisher.ToPublisher.TheVariants.{Did}
use Rattle.page_runner.specs.Watching.{doc_of, shown_of}
use Rattle.page_runner.specs.Publishing.{Shows, IsSeated, shows_of}
use Rattle.page_runner.proofs.PublishingLemmas.{shows_more, shows_told, did_more}
use Rattle.page_runner.proofs.publisher.tell.Goals as goal

-- it is told to the publisher's thread

pub returns-in-There-clause-seated : goal.returns-in-There-clause-seated
returns-in-There-clause-seated g c = λ count seated.
    (let i = subst (IsSeated count) c.in-There.is seated in (i.0 ∙ sym c.put.ensures.lane, i.1, did_more _ _ (Did c.args.changes) i.2 tt c.put.ensures.put))

pub returns-in-There-clause-ok : goal.returns-in-There-clause-ok
returns-in-There-clause-ok g c = sym (shows_more _ _ _ (Did c.args.changes) (ap shows_of c.in-There.is) c.put.ensures.put)

-- or shown here

pub returns-in-Here-clause-seated : goal.returns-in-Here-clause-seated
returns-in-Here-clause-seated g c = λ count seated. c.did.ensures.count ∙ subst (IsSeated count) c.in-Here.is seated

pub returns-in-Here-clause-ok : goal.returns-in-Here-clause-ok
returns-in-Here-clause-ok g c = shows_told _ _ _ _ _ _ (Did c.args.changes) (ap shows_of c.in-Here.is) (c.did.ensures.doc refl) (c.did.ensures.shown refl)

pub returns-in-Here-clause-err : goal.returns-in-Here-clause-err
returns-in-Here-clause-err g c = subst (λ (s : Shows). OnErr c.did.result (doc_of c.did.new.self.board ≡ s.doc)) (sym (ap shows_of c.in-Here.is)) c.did.ensures.err

pub returns-in-Here-clause-err_shown : goal.returns-in-Here-clause-err_shown
returns-in-Here-clause-err_shown g c = subst (λ (s : Shows). OnErr c.did.result (shown_of c.did.new.self.board ≡ s.shown)) (sym (ap shows_of c.in-Here.is)) c.did.ensures.err_shown
