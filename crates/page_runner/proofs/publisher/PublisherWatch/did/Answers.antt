use Rattle.std.proofs.Common.{◌≡◌, List, OnOk, OnErr, fold, refl, sym, ap, subst}
use Rattle.doc_changes.specs.declared.change.Change.{Change}
use Rattle.doc_changes.specs.Changes.{changed}
use Rattle.page_turns.specs.Watched.{shown_with}
use Rattle.page_runner.specs.declared.publisher.ToPublisher.TheVariants.{Did}
use Rattle.page_runner.specs.Publishing.{Handed, shows_with, shows_of}
use Rattle.page_runner.proofs.WatchingLemmas.{none_told, grown_none}
use Rattle.page_runner.proofs.PublishingLemmas.{told_doc, told_shown}
use Rattle.page_runner.proofs.publisher.PublisherWatch.did.Goals as goal

-- nothing is to be shown

pub returns-then-is_empty-clause-doc : goal.returns-then-is_empty-clause-doc
returns-then-is_empty-clause-doc g c =
    let none = none_told _ _ c.args.changes.items c.is_empty.ensures c.args.changes.ok.0 c.if-is_empty.true in
    λ _. grown_none c.args.self.now.shows.doc c.args.changes.items none

pub returns-then-is_empty-clause-shown : goal.returns-then-is_empty-clause-shown
returns-then-is_empty-clause-shown g c =
    let none = none_told _ _ c.args.changes.items c.is_empty.ensures c.args.changes.ok.0 c.if-is_empty.true in
    let old = c.args.self.now.shows in
    λ _. subst (λ (cs : List Change). old.shown ≡ shown_with cs old.shown (fold changed old.doc.doc cs)) (sym none) refl

-- it is told

pub invariant_of-self : goal.invariant_of-self
invariant_of-self g c = c.tell.ensures.seated c.self.inside.count c.self.invariant

pub returns-clause-count : goal.returns-clause-count
returns-clause-count g c = ap (λ (h : Handed). h.count) c.self.view_is

pub returns-clause-doc : goal.returns-clause-doc
returns-clause-doc g c = λ _.
    (let told = subst (λ (h : Handed). OnOk c.tell.result (shows_of c.tell.new.seat ≡ shows_with h.shows (Did c.args.changes))) c.self.view_is c.tell.ensures.ok in told_doc c.tell.result (shows_of c.tell.new.seat) (shows_with c.args.self.now.shows (Did c.args.changes)) told)

pub returns-clause-shown : goal.returns-clause-shown
returns-clause-shown g c = λ _.
    (let told = subst (λ (h : Handed). OnOk c.tell.result (shows_of c.tell.new.seat ≡ shows_with h.shows (Did c.args.changes))) c.self.view_is c.tell.ensures.ok in told_shown c.tell.result (shows_of c.tell.new.seat) (shows_with c.args.self.now.shows (Did c.args.changes)) told)

pub returns-clause-err : goal.returns-clause-err
returns-clause-err g c = subst (λ (h : Handed). OnErr c.tell.result ((shows_of c.tell.new.seat).doc ≡ h.shows.doc)) c.self.view_is c.tell.ensures.err

pub returns-clause-err_shown : goal.returns-clause-err_shown
returns-clause-err_shown g c = subst (λ (h : Handed). OnErr c.tell.result ((shows_of c.tell.new.seat).shown ≡ h.shows.shown)) c.self.view_is c.tell.ensures.err_shown
