use Rattle.std.proofs.Common.{ap, refl}
use Rattle.core_definitions.specs.Journal.{Journal}
use Rattle.core_steps.specs.Fetches.{fetched_of}
use Rattle.page_turns.specs.Early.{none_given, one_given}
use Rattle.page_turns.specs.Scripts.{folder_with, left_alone}
use Rattle.page_turns.specs.Turns.{Brings, from_file, came_early, said_nothing}
use Rattle.page_turns.proofs.LineLemmas.{on_err, ok_weaker, err_weaker}
use Rattle.page_turns.proofs.AlongLemmas.{stays_spent}
use Rattle.page_turns.proofs.BringLemmas.{can_come, next_as}
use Rattle.page_turns.proofs.page.fetch_awaited.Goals as goal

-- ---- memory ran out

pub returns-in_err-name-clause-fails : goal.returns-in_err-name-clause-fails
returns-in_err-name-clause-fails g c = on_err _ _ (none_given refl)

pub returns-in_err-name-clause-stays : goal.returns-in_err-name-clause-stays
returns-in_err-name-clause-stays g c = on_err _ _ refl

pub returns-in_err-name-clause-begins : goal.returns-in_err-name-clause-begins
returns-in_err-name-clause-begins g c = (c.requires.awaits.0, c.requires.awaits.1, left_alone refl)

pub returns-in_err-next-clause-fails : goal.returns-in_err-next-clause-fails
returns-in_err-next-clause-fails g c = on_err _ _ (none_given c.in_err-next.ensures.err)

pub returns-in_err-next-clause-stays : goal.returns-in_err-next-clause-stays
returns-in_err-next-clause-stays g c = on_err _ _ refl

pub returns-in_err-next-clause-begins : goal.returns-in_err-next-clause-begins
returns-in_err-next-clause-begins g c = (c.requires.awaits.0, c.requires.awaits.1, left_alone refl)

-- ---- from its file

pub returns-in-Unasked-clause-brings : goal.returns-in-Unasked-clause-brings
returns-in-Unasked-clause-brings g c =
    let next = next_as _ _ _ _ _ _ _ _ c.in-Unasked.is (ap (λ (j : Journal). j.fetches) c.journal.ensures.journal) c.in_ok-next.ensures.next in
    ok_weaker c.fetch_named.result _ _ (λ arrives. from_file (arrives (g.P.Prefetch.given c.next.new.self)) next.0 next.1) c.fetch_named.ensures.arrives

pub returns-in-Unasked-clause-fails : goal.returns-in-Unasked-clause-fails
returns-in-Unasked-clause-fails g c =
    let next = next_as _ _ _ _ _ _ _ _ c.in-Unasked.is (ap (λ (j : Journal). j.fetches) c.journal.ensures.journal) c.in_ok-next.ensures.next in
    on_err _ _ (none_given next.0)

-- ---- an answer that says nothing

pub returns-in-Nothing-clause-brings : goal.returns-in-Nothing-clause-brings
returns-in-Nothing-clause-brings g c =
    let next = next_as _ _ _ _ _ _ _ _ c.in-Nothing.is (ap (λ (j : Journal). j.fetches) c.journal.ensures.journal) c.in_ok-next.ensures.next in
    said_nothing refl next.0 refl next.1

pub returns-in-Nothing-clause-begins : goal.returns-in-Nothing-clause-begins
returns-in-Nothing-clause-begins g c = (c.requires.awaits.0, c.requires.awaits.1, left_alone refl)

-- ---- one comes early

pub arrive-requires : goal.arrive-requires
arrive-requires g c =
    let next = next_as _ _ _ _ _ _ _ _ c.in-Came.is (ap (λ (j : Journal). j.fetches) c.journal.ensures.journal) c.in_ok-next.ensures.next in
    can_come c.in-Came.other c.args.doc.now.desk c.args.doc.now.journal.fetches c.requires.arrived next.1

pub returns-in-Came-clause-brings : goal.returns-in-Came-clause-brings
returns-in-Came-clause-brings g c =
    let next = next_as _ _ _ _ _ _ _ _ c.in-Came.is (ap (λ (j : Journal). j.fetches) c.journal.ensures.journal) c.in_ok-next.ensures.next in
    ok_weaker c.arrive.result _ _ (λ is. came_early c.in-Came.other (fetched_of c.in-Came.fetch) next.0 next.1 refl is next.2) c.arrive.ensures.arrived

pub returns-in-Came-clause-fails : goal.returns-in-Came-clause-fails
returns-in-Came-clause-fails g c =
    let next = next_as _ _ _ _ _ _ _ _ c.in-Came.is (ap (λ (j : Journal). j.fetches) c.journal.ensures.journal) c.in_ok-next.ensures.next in
    on_err _ _ (one_given c.in-Came.other (fetched_of c.in-Came.fetch) next.0 next.1 refl)

pub returns-in-Came-clause-stays : goal.returns-in-Came-clause-stays
returns-in-Came-clause-stays g c = err_weaker _ _ _ (λ is. stays_spent c.args.doc.now c.arrive.new.self is) c.arrive.ensures.err

pub returns-in-Came-clause-begins : goal.returns-in-Came-clause-begins
returns-in-Came-clause-begins g c = (c.requires.awaits.0, c.requires.awaits.1, left_alone refl)
