use Rattle.std.proofs.Common.{◌∙◌, sym, ap, subst, refl, arith, IsTrue}
use Rattle.core_definitions.specs.declared.event.Event.TheVariants as event
use Rattle.core_definitions.specs.Desk.{sends}
use Rattle.serial.specs.Serial.{Serial}
use Rattle.core_steps.specs.Sides.{Shown}
use Rattle.page_turns.specs.Scripts.{folder_with}
use Rattle.page_turns.specs.Turns.{Brings, BeginsTheAwaited}
use Rattle.page_turns.specs.Watched.{HasTold, AllPassed}
use Rattle.page_turns.proofs.LineLemmas.{on_err}
use Rattle.page_turns.proofs.DeskLemmas.{sends-own}
use Rattle.page_turns.proofs.StepLemmas.{stays_spent, stays_journaled}
use Rattle.page_turns.proofs.AlongLemmas.{goes_first, goes_forget, goes_given, goes_same, goes_stays, goes_sent, goes_took, goes_read, stays_read}
use Rattle.page_turns.proofs.AlongLemmas as along
use Rattle.page_turns.proofs.MessageLemmas.{taken_first, taken_kept, taken_same, taken_one, taken_did, more_none, more_last, tells_first, tells_then}
use Rattle.page_turns.proofs.TurnLemmas.{holds_same, holds_first, holds_open, holds_read, holds_answered}
use Rattle.page_turns.proofs.GiveLemmas.{runs_out, gives_up, gives_up_reading, gives_up_running, awaits_name, none-of, answers-as, stands_reply, read_less, answered_less, after_sent, after_sent_less, sent_so_far, took_sent, goes_may_do, after_took, after_took_less, after_ran, after_ran_less, less_still, less_then}
use Rattle.page_turns.proofs.BringLemmas.{pieces_brought, ending_brought, taken_brought, after_brought, after_brought_less, goes_brought, goes_failed, gives_up_bringing}
use Rattle.page_turns.proofs.WatchLemmas.{follows_first, follows_on, journaled_on, hands_on, stands_rests, stays_rests, journaled_rests, hands_rests, brought_rests, takes-own, passed_as, told_same, told_before, stays_on, did_on}
use Rattle.page_turns.proofs.CutLemmas.{cut_at, cut_at_same, cut_at_past, cut_first, cut_as, cut_short_as, cuts_read, cuts_read_short}
use Rattle.page_turns.proofs.page.take_turns.Goals as goal

pub turns-init : goal.turns-init
turns-init g c = record { cuts = cut_at_same _ _ _ _ _ _ _ _ (ap (λ (z : Shown). z.journal.pieces) c.requires.first) (ap (λ (z : Shown). z.journal.ending) c.requires.first) (cut_first _ _ _ c.requires.reader); room = refl; crew = refl; holds = holds_first _ _ _ _ _ _ _ _ c.requires.given c.requires.first c.requires.load c.requires.reader; goes = goes_first _ _ _ _ c.requires.put c.requires.first; taken = taken_first (g.L.Counterpart.taken c.args.lanes.now) c.args.doc.now c.requires.taken (ap (λ (z : Shown). z.journal.events) c.requires.first); tells = tells_first _ _ _ _ c.requires.taken; faults = omega arith; watches = refl; count = refl; follows = λ _. follows_first _ _ _ _ _ c.requires.first c.requires.watch.0 c.requires.watch.1 }

pub returns-in-Some-clause-ok : goal.returns-in-Some-clause-ok
returns-in-Some-clause-ok g c =
    runs_out _ _ _ _ _ _ _ _ _ _ c.turns.invariant.holds c.in-Some.outcome c.in-Some.ensures.over

pub returns-in_err-request-clause-err : goal.returns-in_err-request-clause-err
returns-in_err-request-clause-err g c =
    on_err _ _ (gives_up _ _ _ _ _ _ _ _ _ _ c.turns.invariant.holds c.may_read-may_read.ensures.replayed (goes_forget _ _ c.turns.invariant.goes) _ (stays_spent c.turns.doc c.send.new.self c.in_err-request.ensures.err) (ap (λ (z : Shown). z.desk.own.side.lines) c.in_err-request.ensures.err))

pub returns-in_err-ask-clause-err : goal.returns-in_err-ask-clause-err
returns-in_err-ask-clause-err g c =
    on_err _ _ (gives_up _ _ _ _ _ _ _ _ _ _ c.turns.invariant.holds c.may_read-may_read.ensures.replayed (goes_forget _ _ c.turns.invariant.goes) _ (stays_journaled event.Send (sends c.turns.doc.desk) c.turns.doc c.send.new.self c.in_ok-request.ensures.sent) (ap (λ (z : Shown). z.desk.own.side.lines) c.in_ok-request.ensures.sent ∙ ap (λ (o : Serial). o.side.lines) (sends-own c.turns.doc.desk)))

pub turns-preserved-in-Continue-branch-2 : goal.turns-preserved-in-Continue-branch-2
turns-preserved-in-Continue-branch-2 g c =
    record { cuts = cut_at_same _ _ _ _ _ _ _ _ (ap (λ (z : Shown). z.journal.pieces) c.in_ok-request.ensures.sent) (ap (λ (z : Shown). z.journal.ending) c.in_ok-request.ensures.sent) c.turns.invariant.cuts; room = c.turns.invariant.room; crew = c.turns.invariant.crew; holds = after_sent _ _ _ _ _ _ _ _ _ _ c.turns.invariant.holds _ _ (sym (c.can_send.ensures) ∙ c.if-can_send.true) c.in_ok-request.ensures.sent c.in_ok-ask.ensures.load; goes = goes_sent _ _ c.turns.invariant.goes _ c.in_ok-request.request _ c.ask.ensures.put (sym (c.can_send.ensures) ∙ c.if-can_send.true) c.in_ok-request.ensures.request c.in_ok-request.ensures.from c.in_ok-request.ensures.sent; taken = taken_same (g.L.Counterpart.taken c.turns.lanes) (g.L.Counterpart.taken c.ask.new.self) c.turns.doc.journal.events c.send.new.self.journal.events event.Send refl c.ask.ensures.taken (ap (λ (z : Shown). z.journal.events) c.in_ok-request.ensures.sent) c.turns.invariant.taken; tells = tells_then c.turns.invariant.tells c.in_ok-ask.ensures.tells; faults = c.turns.invariant.faults; watches = c.turns.invariant.watches; count = c.turns.invariant.count; follows = λ on. follows_on _ _ _ _ (journaled_rests event.Send _ _ _ tt c.in_ok-request.ensures.sent (ap (λ (o : Serial). o.side.doc) (sends-own c.turns.doc.desk))) (c.turns.invariant.follows on) }

pub turns-smaller-in-Continue-branch-2 : goal.turns-smaller-in-Continue-branch-2
turns-smaller-in-Continue-branch-2 g c =
    less_still (g.P.Prefetch.to_come c.turns.early) (after_sent_less _ _ _ _ _ _ _ _ _ _ c.turns.invariant.holds _ _ (sym (c.can_send.ensures) ∙ c.if-can_send.true) c.in_ok-request.ensures.sent c.in_ok-ask.ensures.load)

pub read_on-requires-clause-reading : goal.read_on-requires-clause-reading
read_on-requires-clause-reading g c =
    (holds_open _ _ _ _ _ _ _ _ _ _ (none-of _ _ _ c.may_read-may_read.ensures.may c.if-may_read.true) c.turns.invariant.holds).reading

pub turns-preserved-in-Continue-branch-3 : goal.turns-preserved-in-Continue-branch-3
turns-preserved-in-Continue-branch-3 g c =
    record { cuts = cuts_read _ _ _ _ _ _ _ _ _ c.turns.invariant.room (none-of _ _ _ c.may_read-may_read.ensures.may c.if-may_read.true) c.in_ok-read_on.ensures.cut c.turns.invariant.cuts; room = c.read_on.auto.room ∙ c.turns.invariant.room; crew = c.turns.invariant.crew; holds = holds_read _ _ _ _ _ _ _ _ _ _ _ _ _ c.in_default.ensures.on (none-of _ _ _ c.may_read-may_read.ensures.may c.if-may_read.true) c.in_ok-read_on.ensures.ok c.read_on.ensures.others c.read_on.ensures.begun c.read_on.ensures.open_at c.turns.invariant.holds; goes = goes_read _ _ c.turns.invariant.goes _ (none-of _ _ _ c.may_read-may_read.ensures.may c.if-may_read.true) c.read_on.ensures.handed; taken = taken_kept (g.L.Counterpart.taken c.turns.lanes) (g.L.Counterpart.taken c.turns.lanes) c.turns.doc.journal.events c.read_on.new.doc.journal.events refl (ap (λ (z : Shown). z.journal.events) c.read_on.ensures.handed.others) c.turns.invariant.taken; tells = c.turns.invariant.tells; faults = c.turns.invariant.faults; watches = c.turns.invariant.watches; count = c.turns.invariant.count; follows = λ on. follows_on _ _ _ _ (hands_rests _ _ (none-of _ _ _ c.may_read-may_read.ensures.may c.if-may_read.true) c.read_on.ensures.handed) (c.turns.invariant.follows on) }

pub turns-smaller-in-Continue-branch-3 : goal.turns-smaller-in-Continue-branch-3
turns-smaller-in-Continue-branch-3 g c =
    less_still (g.P.Prefetch.to_come c.turns.early) (read_less _ _ _ _ _ _ _ (none-of _ _ _ c.may_read-may_read.ensures.may c.if-may_read.true) c.in_ok-read_on.ensures.ok)

pub returns-in_err-read_on-clause-err : goal.returns-in_err-read_on-clause-err
returns-in_err-read_on-clause-err g c =
    on_err _ _ (gives_up_reading _ _ _ _ _ _ _ _ _ _ c.turns.invariant.holds c.may_read-may_read.ensures.replayed _ _ (goes_forget _ _ (goes_read _ _ c.turns.invariant.goes _ (none-of _ _ _ c.may_read-may_read.ensures.may c.if-may_read.true) c.read_on.ensures.handed)) (none-of _ _ _ c.may_read-may_read.ensures.may c.if-may_read.true) c.in_err-read_on.ensures.err c.read_on.ensures.others c.read_on.ensures.begun c.read_on.ensures.open_at)

pub returns-in_err-answer-clause-err : goal.returns-in_err-answer-clause-err
returns-in_err-answer-clause-err g c =
    on_err _ _ (gives_up _ _ _ _ _ _ _ _ _ _ c.turns.invariant.holds c.may_read-may_read.ensures.replayed (goes_forget _ _ c.turns.invariant.goes) _ refl refl)

pub turns-preserved-then-branch : goal.turns-preserved-then-branch
turns-preserved-then-branch g c =
    record { cuts = c.turns.invariant.cuts; room = c.turns.invariant.room; crew = c.turns.invariant.crew; holds = holds_answered _ _ _ _ _ _ _ _ _ _ _ (answers-as _ _ _ _ c.if-branch.true c.in_ok-answer.ensures.load).0 c.turns.invariant.holds; goes = goes_same _ _ _ c.answer.ensures.put c.turns.invariant.goes; taken = taken_kept (g.L.Counterpart.taken c.turns.lanes) (g.L.Counterpart.taken c.answer.new.self) c.turns.doc.journal.events c.turns.doc.journal.events c.answer.ensures.taken refl c.turns.invariant.taken; tells = tells_then c.turns.invariant.tells c.in_ok-answer.ensures.tells; faults = c.turns.invariant.faults; watches = c.turns.invariant.watches; count = c.turns.invariant.count; follows = c.turns.invariant.follows }

pub turns-smaller-then-branch : goal.turns-smaller-then-branch
turns-smaller-then-branch g c =
    less_still (g.P.Prefetch.to_come c.turns.early) (answered_less c.turns.reader (g.L.Counterpart.load c.turns.lanes) (g.L.Counterpart.load c.answer.new.self) c.turns.doc (answers-as _ _ _ _ c.if-branch.true c.in_ok-answer.ensures.load).1)

pub take_reply-requires-clause-stands : goal.take_reply-requires-clause-stands
take_reply-requires-clause-stands g c =
    stands_reply (g.L.Counterpart.load c.turns.lanes) (g.L.Counterpart.load c.answer.new.self) c.turns.doc.desk c.turns.invariant.holds.inside.count (answers-as _ _ _ _ c.if-branch.false c.in_ok-answer.ensures.load) (sym (c.wants_reply.ensures) ∙ c.if-wants_reply.true)

pub turns-preserved-in-Continue-branch-5 : goal.turns-preserved-in-Continue-branch-5
turns-preserved-in-Continue-branch-5 g c =
    record { cuts = cut_at_same _ _ _ _ _ _ _ _ (ap (λ (z : Shown). z.journal.pieces) c.in_ok-take_reply.ensures.took) (ap (λ (z : Shown). z.journal.ending) c.in_ok-take_reply.ensures.took) c.turns.invariant.cuts; room = c.turns.invariant.room; crew = c.take_reply.ensures.crew ∙ c.turns.invariant.crew; holds = holds_same _ _ _ _ _ _ _ _ _ _ _ _ c.take_reply.ensures.given (after_took _ _ _ _ _ _ _ _ _ _ c.turns.invariant.holds _ (answers-as _ _ _ _ c.if-branch.false c.in_ok-answer.ensures.load) _ _ (sym (c.wants_reply.ensures) ∙ c.if-wants_reply.true) c.in_ok-take_reply.ensures.load c.in_ok-take_reply.ensures.took); goes = goes_given _ _ _ _ c.take_reply.ensures.given (goes_same _ _ _ c.take_reply.ensures.put (goes_took _ _ (goes_same _ _ _ c.answer.ensures.put c.turns.invariant.goes) _ (sym (c.wants_reply.ensures) ∙ c.if-wants_reply.true) (took_sent _ _ _ _ _ _ _ _ _ _ c.turns.invariant.holds _ (answers-as _ _ _ _ c.if-branch.false c.in_ok-answer.ensures.load) _ c.in_ok-take_reply.ensures.load) c.in_ok-take_reply.ensures.took)); taken = taken_one (g.L.Counterpart.taken c.answer.new.self) (g.L.Counterpart.taken c.take_reply.new.lanes) c.turns.doc.journal.events c.take_reply.new.doc.journal.events c.in_ok-take_reply.ensures.reply (ap (λ (z : Shown). z.journal.events) c.in_ok-take_reply.ensures.took) (taken_kept (g.L.Counterpart.taken c.turns.lanes) (g.L.Counterpart.taken c.answer.new.self) c.turns.doc.journal.events c.turns.doc.journal.events c.answer.ensures.taken refl c.turns.invariant.taken); tells = tells_then (tells_then c.turns.invariant.tells c.in_ok-answer.ensures.tells) c.in_ok-take_reply.ensures.tells; faults = c.turns.invariant.faults; watches = c.turns.invariant.watches; count = c.turns.invariant.count; follows = λ on. follows_on _ _ _ _ (journaled_rests event.Take _ _ _ tt c.in_ok-take_reply.ensures.took (ap (λ (o : Serial). o.side.doc) (takes-own c.turns.doc.entities c.turns.doc.desk))) (c.turns.invariant.follows on) }

pub turns-smaller-in-Continue-branch-5 : goal.turns-smaller-in-Continue-branch-5
turns-smaller-in-Continue-branch-5 g c =
    less_then (g.P.Prefetch.to_come c.turns.early) (g.P.Prefetch.to_come c.take_reply.new.early) (after_took_less _ _ _ _ _ _ _ _ _ _ c.turns.invariant.holds _ (answers-as _ _ _ _ c.if-branch.false c.in_ok-answer.ensures.load) _ _ c.in_ok-take_reply.ensures.load c.in_ok-take_reply.ensures.took) c.take_reply.ensures.to_come

pub returns-in_err-take_reply-clause-err : goal.returns-in_err-take_reply-clause-err
returns-in_err-take_reply-clause-err g c =
    on_err _ _ (gives_up _ _ _ _ _ _ _ _ _ _ (holds_same _ _ _ _ _ _ _ _ _ _ _ _ c.take_reply.ensures.given c.turns.invariant.holds) c.may_read-may_read.ensures.replayed (goes_given _ _ _ _ c.take_reply.ensures.given (goes_forget _ _ c.turns.invariant.goes)) _ (stays_read c.turns.doc c.take_reply.new.doc c.in_err-take_reply.ensures.stays) (ap (λ (z : Shown). z.desk.own.side.lines) c.in_err-take_reply.ensures.stays))

pub turns-preserved-in-Continue-branch-6 : goal.turns-preserved-in-Continue-branch-6
turns-preserved-in-Continue-branch-6 g c =
    record { cuts = cut_at_same _ _ _ _ _ _ _ _ (ap (λ (z : Shown). z.journal.pieces) c.in_ok-run_on.ensures.ok.others) (ap (λ (z : Shown). z.journal.ending) c.in_ok-run_on.ensures.ok.others) c.turns.invariant.cuts; room = c.turns.invariant.room; crew = c.turns.invariant.crew; holds = after_ran _ _ _ _ _ _ _ _ _ _ c.turns.invariant.holds _ (answers-as _ _ _ _ c.if-branch.false c.in_ok-answer.ensures.load) _ _ c.may_read-may_read.ensures.replayed (sym (c.can_do.ensures) ∙ c.if-can_do.true) c.in_ok-run_on.ensures.ok; goes = goes_may_do _ _ _ _ _ _ _ _ _ _ c.turns.invariant.holds _ (answers-as _ _ _ _ c.if-branch.false c.in_ok-answer.ensures.load) _ _ (goes_same _ _ _ c.answer.ensures.put c.turns.invariant.goes) (sym (c.can_do.ensures) ∙ c.if-can_do.true) (sent_so_far _ _ _ _ _ _ _ _ _ _ c.turns.invariant.holds c.in_default.ensures.on (sym c.may_read-may_read.ensures.may ∙ c.if-may_read.false) (sym (c.can_send.ensures) ∙ c.if-can_send.false)) c.run_on.ensures.did; taken = taken_did (g.L.Counterpart.taken c.answer.new.self) c.turns.doc c.run_on.new.doc c.run_on.ensures.did (taken_kept (g.L.Counterpart.taken c.turns.lanes) (g.L.Counterpart.taken c.answer.new.self) c.turns.doc.journal.events c.turns.doc.journal.events c.answer.ensures.taken refl c.turns.invariant.taken); tells = tells_then c.turns.invariant.tells c.in_ok-answer.ensures.tells; faults = let first = c.turns.invariant.faults in let second = c.run_on.ensures.faults in omega (arith, first, second); watches = c.run_on.ensures.watches ∙ c.turns.invariant.watches; count = c.run_on.ensures.count ∙ c.turns.invariant.count; follows = λ on. c.in_ok-run_on.ensures.watched (subst IsTrue (sym c.turns.invariant.watches) on) c.may_read-may_read.ensures.replayed (c.turns.invariant.follows on) }

pub turns-smaller-in-Continue-branch-6 : goal.turns-smaller-in-Continue-branch-6
turns-smaller-in-Continue-branch-6 g c =
    less_still (g.P.Prefetch.to_come c.turns.early) (after_ran_less _ _ _ _ _ _ _ _ _ _ c.turns.invariant.holds _ (answers-as _ _ _ _ c.if-branch.false c.in_ok-answer.ensures.load) _ _ c.requires.few c.in_ok-run_on.ensures.ok)

pub returns-in_err-run_on-clause-err : goal.returns-in_err-run_on-clause-err
returns-in_err-run_on-clause-err g c =
    on_err _ _ (gives_up_running _ _ _ _ _ _ _ _ _ _ c.turns.invariant.holds c.may_read-may_read.ensures.replayed (goes_forget _ _ c.turns.invariant.goes) _ _ (goes_forget _ _ (goes_may_do _ _ _ _ _ _ _ _ _ _ c.turns.invariant.holds _ (answers-as _ _ _ _ c.if-branch.false c.in_ok-answer.ensures.load) _ _ (goes_same _ _ _ c.answer.ensures.put c.turns.invariant.goes) (sym (c.can_do.ensures) ∙ c.if-can_do.true) (sent_so_far _ _ _ _ _ _ _ _ _ _ c.turns.invariant.holds c.in_default.ensures.on (sym c.may_read-may_read.ensures.may ∙ c.if-may_read.false) (sym (c.can_send.ensures) ∙ c.if-can_send.false)) c.run_on.ensures.did)) c.in_err-run_on.ensures.stays c.run_on.ensures.did c.in_err-run_on.ensures.err)

pub fetch_awaited-requires-clause-awaits : goal.fetch_awaited-requires-clause-awaits
fetch_awaited-requires-clause-awaits g c =
    awaits_name _ _ _ _ _ _ _ _ _ _ c.turns.invariant.holds c.may_read-may_read.ensures.replayed c.requires.some c.in_default.ensures.on (sym c.may_read-may_read.ensures.may ∙ c.if-may_read.false) (sym (c.can_send.ensures) ∙ c.if-can_send.false) (sym (c.wants_reply.ensures) ∙ c.if-wants_reply.false) (sym (c.can_do.ensures) ∙ c.if-can_do.false)

pub fetch_awaited-requires-clause-arrived : goal.fetch_awaited-requires-clause-arrived
fetch_awaited-requires-clause-arrived g c = c.turns.invariant.holds.inside.arrived

pub turns-preserved : goal.turns-preserved
turns-preserved g c =
    let brings = (subst (λ d. Brings (folder_with d (g.P.Prefetch.given c.fetch_awaited.new.early)) (g.F.Outside.seen c.turns.files) (g.F.Outside.seen c.fetch_awaited.new.files) (g.P.Prefetch.given c.turns.early) (g.P.Prefetch.to_come c.turns.early) (g.P.Prefetch.to_come c.fetch_awaited.new.early) c.turns.doc c.fetch_awaited.new.doc) c.as_str.ensures.value c.in_ok-fetch_awaited.ensures.brings) in
    record {
      cuts = cut_at_same _ _ _ _ _ _ _ _ (pieces_brought _ _ _ _ _ _ _ _ _ brings) (ending_brought _ _ _ _ _ _ _ _ _ brings) (cut_at_past _ _ _ _ _ _ _ c.fetch_awaited.ensures.others c.turns.invariant.cuts);
      room = c.turns.invariant.room;
      crew = c.fetch_awaited.ensures.crew ∙ c.turns.invariant.crew;
      holds = after_brought _ _ _ _ (g.P.Prefetch.given c.fetch_awaited.new.early) _ _ _ _ _ _ _ _ _ c.turns.invariant.holds (subst (λ d. BeginsTheAwaited d (g.F.Outside.seen c.turns.files) (g.F.Outside.seen c.fetch_awaited.new.files) c.turns.doc.desk) c.as_str.ensures.value c.fetch_awaited.ensures.begins) c.fetch_awaited.ensures.others _ (answers-as _ _ _ _ c.if-branch.false c.in_ok-answer.ensures.load) _ _ brings;
      goes = goes_brought _ _ _ _ (g.P.Prefetch.given c.fetch_awaited.new.early) _ _ _ _ _ _ _ _ _ c.turns.invariant.holds (subst (λ d. BeginsTheAwaited d (g.F.Outside.seen c.turns.files) (g.F.Outside.seen c.fetch_awaited.new.files) c.turns.doc.desk) c.as_str.ensures.value c.fetch_awaited.ensures.begins) c.fetch_awaited.ensures.others _ (answers-as _ _ _ _ c.if-branch.false c.in_ok-answer.ensures.load) _ _ _ (goes_same _ _ _ c.answer.ensures.put c.turns.invariant.goes) c.in_default.ensures.on (sent_so_far _ _ _ _ _ _ _ _ _ _ c.turns.invariant.holds c.in_default.ensures.on (sym c.may_read-may_read.ensures.may ∙ c.if-may_read.false) (sym (c.can_send.ensures) ∙ c.if-can_send.false)) brings;
      taken = taken_brought _ _ _ _ _ _ _ _ _ (g.L.Counterpart.taken c.answer.new.self) brings (taken_kept (g.L.Counterpart.taken c.turns.lanes) (g.L.Counterpart.taken c.answer.new.self) c.turns.doc.journal.events c.turns.doc.journal.events c.answer.ensures.taken refl c.turns.invariant.taken);
      tells = tells_then c.turns.invariant.tells c.in_ok-answer.ensures.tells;
      faults = c.turns.invariant.faults;
      watches = c.turns.invariant.watches;
      count = c.turns.invariant.count;
      follows = λ on. follows_on _ _ _ _ (brought_rests _ _ _ _ _ _ _ _ brings) (c.turns.invariant.follows on);
    }

pub turns-smaller : goal.turns-smaller
turns-smaller g c = after_brought_less _ _ _ _ (g.P.Prefetch.given c.fetch_awaited.new.early) _ _ _ _ _ _ _ _ _ c.turns.invariant.holds (subst (λ d. BeginsTheAwaited d (g.F.Outside.seen c.turns.files) (g.F.Outside.seen c.fetch_awaited.new.files) c.turns.doc.desk) c.as_str.ensures.value c.fetch_awaited.ensures.begins) c.fetch_awaited.ensures.others _ (answers-as _ _ _ _ c.if-branch.false c.in_ok-answer.ensures.load) _ _ (subst (λ d. Brings (folder_with d (g.P.Prefetch.given c.fetch_awaited.new.early)) (g.F.Outside.seen c.turns.files) (g.F.Outside.seen c.fetch_awaited.new.files) (g.P.Prefetch.given c.turns.early) (g.P.Prefetch.to_come c.turns.early) (g.P.Prefetch.to_come c.fetch_awaited.new.early) c.turns.doc c.fetch_awaited.new.doc) c.as_str.ensures.value c.in_ok-fetch_awaited.ensures.brings)

pub returns-in_err-fetch_awaited-clause-err : goal.returns-in_err-fetch_awaited-clause-err
returns-in_err-fetch_awaited-clause-err g c =
    on_err _ _ (gives_up_bringing _ _ _ _ (g.P.Prefetch.given c.fetch_awaited.new.early) _ _ _ _ _ _ _ _ _ c.turns.invariant.holds (subst (λ d. BeginsTheAwaited d (g.F.Outside.seen c.turns.files) (g.F.Outside.seen c.fetch_awaited.new.files) c.turns.doc.desk) c.as_str.ensures.value c.fetch_awaited.ensures.begins) c.fetch_awaited.ensures.others c.may_read-may_read.ensures.replayed (goes_forget _ _ c.turns.invariant.goes) c.in_err-fetch_awaited.ensures.fails c.in_err-fetch_awaited.ensures.stays)

pub returns-in-Some-clause-goes : goal.returns-in-Some-clause-goes
returns-in-Some-clause-goes g c =
    c.turns.invariant.goes

pub returns-in-Some-clause-taken : goal.returns-in-Some-clause-taken
returns-in-Some-clause-taken g c =
    c.turns.invariant.taken

pub returns-in-Some-clause-more_taken : goal.returns-in-Some-clause-more_taken
returns-in-Some-clause-more_taken g c =
    more_none (g.L.Counterpart.taken c.turns.lanes) c.turns.doc.journal.events c.turns.invariant.taken

pub returns-in_err-request-clause-goes : goal.returns-in_err-request-clause-goes
returns-in_err-request-clause-goes g c =
    goes_stays _ _ _ (along.stays_spent c.turns.doc c.send.new.self c.in_err-request.ensures.err) c.turns.invariant.goes

pub returns-in_err-request-clause-write_taken : goal.returns-in_err-request-clause-write_taken
returns-in_err-request-clause-write_taken g c =
    λ is. taken_kept (g.L.Counterpart.taken c.turns.lanes) (g.L.Counterpart.taken c.turns.lanes) c.turns.doc.journal.events c.send.new.self.journal.events refl (ap (λ (z : Shown). z.journal.events) c.in_err-request.ensures.err) c.turns.invariant.taken

pub returns-in_err-request-clause-more_taken : goal.returns-in_err-request-clause-more_taken
returns-in_err-request-clause-more_taken g c =
    more_none (g.L.Counterpart.taken c.turns.lanes) c.send.new.self.journal.events (taken_kept (g.L.Counterpart.taken c.turns.lanes) (g.L.Counterpart.taken c.turns.lanes) c.turns.doc.journal.events c.send.new.self.journal.events refl (ap (λ (z : Shown). z.journal.events) c.in_err-request.ensures.err) c.turns.invariant.taken)

pub returns-in_err-ask-clause-goes : goal.returns-in_err-ask-clause-goes
returns-in_err-ask-clause-goes g c =
    goes_sent _ _ c.turns.invariant.goes _ c.in_ok-request.request _ c.ask.ensures.put (sym (c.can_send.ensures) ∙ c.if-can_send.true) c.in_ok-request.ensures.request c.in_ok-request.ensures.from c.in_ok-request.ensures.sent

pub returns-in_err-ask-clause-write_taken : goal.returns-in_err-ask-clause-write_taken
returns-in_err-ask-clause-write_taken g c =
    λ is. taken_same (g.L.Counterpart.taken c.turns.lanes) (g.L.Counterpart.taken c.ask.new.self) c.turns.doc.journal.events c.send.new.self.journal.events event.Send refl c.ask.ensures.taken (ap (λ (z : Shown). z.journal.events) c.in_ok-request.ensures.sent) c.turns.invariant.taken

pub returns-in_err-ask-clause-more_taken : goal.returns-in_err-ask-clause-more_taken
returns-in_err-ask-clause-more_taken g c =
    more_none (g.L.Counterpart.taken c.ask.new.self) c.send.new.self.journal.events (taken_same (g.L.Counterpart.taken c.turns.lanes) (g.L.Counterpart.taken c.ask.new.self) c.turns.doc.journal.events c.send.new.self.journal.events event.Send refl c.ask.ensures.taken (ap (λ (z : Shown). z.journal.events) c.in_ok-request.ensures.sent) c.turns.invariant.taken)

pub returns-in_err-read_on-clause-goes : goal.returns-in_err-read_on-clause-goes
returns-in_err-read_on-clause-goes g c =
    goes_read _ _ c.turns.invariant.goes _ (none-of _ _ _ c.may_read-may_read.ensures.may c.if-may_read.true) c.read_on.ensures.handed

pub returns-in_err-read_on-clause-write_taken : goal.returns-in_err-read_on-clause-write_taken
returns-in_err-read_on-clause-write_taken g c =
    λ is. taken_kept (g.L.Counterpart.taken c.turns.lanes) (g.L.Counterpart.taken c.turns.lanes) c.turns.doc.journal.events c.read_on.new.doc.journal.events refl (ap (λ (z : Shown). z.journal.events) c.read_on.ensures.handed.others) c.turns.invariant.taken

pub returns-in_err-read_on-clause-more_taken : goal.returns-in_err-read_on-clause-more_taken
returns-in_err-read_on-clause-more_taken g c =
    more_none (g.L.Counterpart.taken c.turns.lanes) c.read_on.new.doc.journal.events (taken_kept (g.L.Counterpart.taken c.turns.lanes) (g.L.Counterpart.taken c.turns.lanes) c.turns.doc.journal.events c.read_on.new.doc.journal.events refl (ap (λ (z : Shown). z.journal.events) c.read_on.ensures.handed.others) c.turns.invariant.taken)

pub returns-in_err-answer-clause-goes : goal.returns-in_err-answer-clause-goes
returns-in_err-answer-clause-goes g c =
    goes_same _ _ _ c.answer.ensures.put c.turns.invariant.goes

pub returns-in_err-answer-clause-write_taken : goal.returns-in_err-answer-clause-write_taken
returns-in_err-answer-clause-write_taken g c =
    λ is. taken_kept (g.L.Counterpart.taken c.turns.lanes) (g.L.Counterpart.taken c.answer.new.self) c.turns.doc.journal.events c.turns.doc.journal.events c.answer.ensures.taken refl c.turns.invariant.taken

pub returns-in_err-answer-clause-more_taken : goal.returns-in_err-answer-clause-more_taken
returns-in_err-answer-clause-more_taken g c =
    more_none (g.L.Counterpart.taken c.answer.new.self) c.turns.doc.journal.events (taken_kept (g.L.Counterpart.taken c.turns.lanes) (g.L.Counterpart.taken c.answer.new.self) c.turns.doc.journal.events c.turns.doc.journal.events c.answer.ensures.taken refl c.turns.invariant.taken)

pub returns-in_err-run_on-clause-goes : goal.returns-in_err-run_on-clause-goes
returns-in_err-run_on-clause-goes g c =
    goes_may_do _ _ _ _ _ _ _ _ _ _ c.turns.invariant.holds _ (answers-as _ _ _ _ c.if-branch.false c.in_ok-answer.ensures.load) _ _ (goes_same _ _ _ c.answer.ensures.put c.turns.invariant.goes) (sym (c.can_do.ensures) ∙ c.if-can_do.true) (sent_so_far _ _ _ _ _ _ _ _ _ _ c.turns.invariant.holds c.in_default.ensures.on (sym c.may_read-may_read.ensures.may ∙ c.if-may_read.false) (sym (c.can_send.ensures) ∙ c.if-can_send.false)) c.run_on.ensures.did

pub returns-in_err-run_on-clause-write_taken : goal.returns-in_err-run_on-clause-write_taken
returns-in_err-run_on-clause-write_taken g c =
    λ is. taken_did (g.L.Counterpart.taken c.answer.new.self) c.turns.doc c.run_on.new.doc c.run_on.ensures.did (taken_kept (g.L.Counterpart.taken c.turns.lanes) (g.L.Counterpart.taken c.answer.new.self) c.turns.doc.journal.events c.turns.doc.journal.events c.answer.ensures.taken refl c.turns.invariant.taken)

pub returns-in_err-run_on-clause-more_taken : goal.returns-in_err-run_on-clause-more_taken
returns-in_err-run_on-clause-more_taken g c =
    more_none (g.L.Counterpart.taken c.answer.new.self) c.run_on.new.doc.journal.events (taken_did (g.L.Counterpart.taken c.answer.new.self) c.turns.doc c.run_on.new.doc c.run_on.ensures.did (taken_kept (g.L.Counterpart.taken c.turns.lanes) (g.L.Counterpart.taken c.answer.new.self) c.turns.doc.journal.events c.turns.doc.journal.events c.answer.ensures.taken refl c.turns.invariant.taken))

pub returns-in_err-fetch_awaited-clause-goes : goal.returns-in_err-fetch_awaited-clause-goes
returns-in_err-fetch_awaited-clause-goes g c =
    goes_stays _ _ _ c.in_err-fetch_awaited.ensures.stays (goes_failed _ _ _ _ _ _ _ c.in_err-fetch_awaited.ensures.fails (goes_same _ _ _ c.answer.ensures.put c.turns.invariant.goes))

pub returns-in_err-fetch_awaited-clause-write_taken : goal.returns-in_err-fetch_awaited-clause-write_taken
returns-in_err-fetch_awaited-clause-write_taken g c =
    λ is. taken_kept (g.L.Counterpart.taken c.answer.new.self) (g.L.Counterpart.taken c.answer.new.self) c.turns.doc.journal.events c.fetch_awaited.new.doc.journal.events refl (ap (λ (z : Shown). z.journal.events) c.in_err-fetch_awaited.ensures.stays) (taken_kept (g.L.Counterpart.taken c.turns.lanes) (g.L.Counterpart.taken c.answer.new.self) c.turns.doc.journal.events c.turns.doc.journal.events c.answer.ensures.taken refl c.turns.invariant.taken)

pub returns-in_err-fetch_awaited-clause-more_taken : goal.returns-in_err-fetch_awaited-clause-more_taken
returns-in_err-fetch_awaited-clause-more_taken g c =
    more_none (g.L.Counterpart.taken c.answer.new.self) c.fetch_awaited.new.doc.journal.events (taken_kept (g.L.Counterpart.taken c.answer.new.self) (g.L.Counterpart.taken c.answer.new.self) c.turns.doc.journal.events c.fetch_awaited.new.doc.journal.events refl (ap (λ (z : Shown). z.journal.events) c.in_err-fetch_awaited.ensures.stays) (taken_kept (g.L.Counterpart.taken c.turns.lanes) (g.L.Counterpart.taken c.answer.new.self) c.turns.doc.journal.events c.turns.doc.journal.events c.answer.ensures.taken refl c.turns.invariant.taken))

pub returns-in_err-take_reply-clause-goes : goal.returns-in_err-take_reply-clause-goes
returns-in_err-take_reply-clause-goes g c =
    goes_stays _ _ _ c.in_err-take_reply.ensures.stays (goes_given _ _ _ _ c.take_reply.ensures.given (goes_same _ _ _ c.take_reply.ensures.put (goes_same _ _ _ c.answer.ensures.put c.turns.invariant.goes)))

pub returns-in_err-take_reply-clause-more_taken : goal.returns-in_err-take_reply-clause-more_taken
returns-in_err-take_reply-clause-more_taken g c =
    more_last (g.L.Counterpart.taken c.answer.new.self) (g.L.Counterpart.taken c.take_reply.new.lanes) c.turns.doc.journal.events c.take_reply.new.doc.journal.events c.in_err-take_reply.ensures.last (ap (λ (z : Shown). z.journal.events) c.in_err-take_reply.ensures.stays) (taken_kept (g.L.Counterpart.taken c.turns.lanes) (g.L.Counterpart.taken c.answer.new.self) c.turns.doc.journal.events c.turns.doc.journal.events c.answer.ensures.taken refl c.turns.invariant.taken)

-- ---- the reads and their pieces

pub returns-in-Some-clause-cut : goal.returns-in-Some-clause-cut
returns-in-Some-clause-cut g c = cut_at _ _ _ _ _ _ c.turns.invariant.cuts

pub returns-in_err-request-clause-cut_short : goal.returns-in_err-request-clause-cut_short
returns-in_err-request-clause-cut_short g c = on_err _ _ (cut_short_as _ _ _ _ _ _ _ (ap (λ (z : Shown). z.journal.pieces) c.in_err-request.ensures.err) c.turns.invariant.cuts)

pub returns-in_err-request-clause-write_cut : goal.returns-in_err-request-clause-write_cut
returns-in_err-request-clause-write_cut g c = λ is. cut_as _ _ _ _ _ _ _ (ap (λ (z : Shown). z.journal.pieces) c.in_err-request.ensures.err) c.turns.invariant.cuts

pub returns-in_err-ask-clause-cut_short : goal.returns-in_err-ask-clause-cut_short
returns-in_err-ask-clause-cut_short g c = on_err _ _ (cut_short_as _ _ _ _ _ _ _ (ap (λ (z : Shown). z.journal.pieces) c.in_ok-request.ensures.sent) c.turns.invariant.cuts)

pub returns-in_err-ask-clause-write_cut : goal.returns-in_err-ask-clause-write_cut
returns-in_err-ask-clause-write_cut g c = λ is. cut_as _ _ _ _ _ _ _ (ap (λ (z : Shown). z.journal.pieces) c.in_ok-request.ensures.sent) c.turns.invariant.cuts

pub returns-in_err-read_on-clause-cut_short : goal.returns-in_err-read_on-clause-cut_short
returns-in_err-read_on-clause-cut_short g c = on_err _ _ (cuts_read_short _ _ _ _ _ _ _ _ c.turns.invariant.room (none-of _ _ _ c.may_read-may_read.ensures.may c.if-may_read.true) c.in_err-read_on.ensures.cut_short c.turns.invariant.cuts)

pub returns-in_err-answer-clause-cut_short : goal.returns-in_err-answer-clause-cut_short
returns-in_err-answer-clause-cut_short g c = on_err _ _ (cut_short_as _ _ _ _ _ _ _ refl c.turns.invariant.cuts)

pub returns-in_err-answer-clause-write_cut : goal.returns-in_err-answer-clause-write_cut
returns-in_err-answer-clause-write_cut g c = λ is. cut_as _ _ _ _ _ _ _ refl c.turns.invariant.cuts

pub returns-in_err-take_reply-clause-cut_short : goal.returns-in_err-take_reply-clause-cut_short
returns-in_err-take_reply-clause-cut_short g c = on_err _ _ (cut_short_as _ _ _ _ _ _ _ (ap (λ (z : Shown). z.journal.pieces) c.in_err-take_reply.ensures.stays) c.turns.invariant.cuts)

pub returns-in_err-take_reply-clause-write_cut : goal.returns-in_err-take_reply-clause-write_cut
returns-in_err-take_reply-clause-write_cut g c = λ is. cut_as _ _ _ _ _ _ _ (ap (λ (z : Shown). z.journal.pieces) c.in_err-take_reply.ensures.stays) c.turns.invariant.cuts

pub returns-in_err-run_on-clause-cut_short : goal.returns-in_err-run_on-clause-cut_short
returns-in_err-run_on-clause-cut_short g c = on_err _ _ (cut_short_as _ _ _ _ _ _ _ (ap (λ (z : Shown). z.journal.pieces) c.in_err-run_on.ensures.stays) c.turns.invariant.cuts)

pub returns-in_err-run_on-clause-write_cut : goal.returns-in_err-run_on-clause-write_cut
returns-in_err-run_on-clause-write_cut g c = λ is. cut_as _ _ _ _ _ _ _ (ap (λ (z : Shown). z.journal.pieces) c.in_err-run_on.ensures.stays) c.turns.invariant.cuts

pub returns-in_err-fetch_awaited-clause-cut_short : goal.returns-in_err-fetch_awaited-clause-cut_short
returns-in_err-fetch_awaited-clause-cut_short g c =
    on_err _ _ (cut_short_as _ _ _ _ _ _ _ (ap (λ (z : Shown). z.journal.pieces) c.in_err-fetch_awaited.ensures.stays) (cut_at_past _ _ _ _ _ _ _ c.fetch_awaited.ensures.others c.turns.invariant.cuts))

pub returns-in_err-fetch_awaited-clause-write_cut : goal.returns-in_err-fetch_awaited-clause-write_cut
returns-in_err-fetch_awaited-clause-write_cut g c =
    λ is. cut_as _ _ _ _ _ _ _ (ap (λ (z : Shown). z.journal.pieces) c.in_err-fetch_awaited.ensures.stays) (cut_at_past _ _ _ _ _ _ _ c.fetch_awaited.ensures.others c.turns.invariant.cuts)

-- ---- what those who watch were shown

pub returns-in-Some-clause-watched : goal.returns-in-Some-clause-watched
returns-in-Some-clause-watched g c = λ on. c.turns.invariant.follows on

pub returns-in-Some-clause-passed : goal.returns-in-Some-clause-passed
returns-in-Some-clause-passed g c = λ on. (c.turns.invariant.follows on).passed

pub returns-in_err-request-clause-passed : goal.returns-in_err-request-clause-passed
returns-in_err-request-clause-passed g c = passed_as _ _ _ _ _ (stays_on _ _ (along.stays_spent c.turns.doc c.send.new.self c.in_err-request.ensures.err)) c.turns.invariant.follows

pub returns-in_err-ask-clause-passed : goal.returns-in_err-ask-clause-passed
returns-in_err-ask-clause-passed g c = passed_as _ _ _ _ _ (journaled_on event.Send _ _ _ c.in_ok-request.ensures.sent) c.turns.invariant.follows

pub returns-in_err-read_on-clause-passed : goal.returns-in_err-read_on-clause-passed
returns-in_err-read_on-clause-passed g c =
    passed_as _ _ _ _ _ (hands_on _ _ (none-of _ _ _ c.may_read-may_read.ensures.may c.if-may_read.true) c.read_on.ensures.handed) c.turns.invariant.follows

pub returns-in_err-answer-clause-passed : goal.returns-in_err-answer-clause-passed
returns-in_err-answer-clause-passed g c = λ on. (c.turns.invariant.follows on).passed

pub returns-in_err-take_reply-clause-passed : goal.returns-in_err-take_reply-clause-passed
returns-in_err-take_reply-clause-passed g c = passed_as _ _ _ _ _ (stays_on _ _ c.in_err-take_reply.ensures.stays) c.turns.invariant.follows

pub returns-in_err-run_on-clause-passed : goal.returns-in_err-run_on-clause-passed
returns-in_err-run_on-clause-passed g c = λ on.
    subst (AllPassed c.run_on.new.doc) (sym c.in_err-run_on.ensures.unshown) (passed_as _ _ _ _ _ (did_on _ _ c.run_on.ensures.did) c.turns.invariant.follows on)

pub returns-in_err-fetch_awaited-clause-passed : goal.returns-in_err-fetch_awaited-clause-passed
returns-in_err-fetch_awaited-clause-passed g c = passed_as _ _ _ _ _ (stays_on _ _ c.in_err-fetch_awaited.ensures.stays) c.turns.invariant.follows

pub returns-in_err-request-clause-told : goal.returns-in_err-request-clause-told
returns-in_err-request-clause-told g c = λ on.
    on_err _ _ (told_same c.turns.doc c.send.new.self (g.W.Watch.doc c.turns.watch) (g.W.Watch.shown c.turns.watch) (stays_rests _ _ (along.stays_spent c.turns.doc c.send.new.self c.in_err-request.ensures.err)) (c.turns.invariant.follows on))

pub returns-in_err-ask-clause-told : goal.returns-in_err-ask-clause-told
returns-in_err-ask-clause-told g c = λ on.
    on_err _ _ (told_same c.turns.doc c.send.new.self (g.W.Watch.doc c.turns.watch) (g.W.Watch.shown c.turns.watch) (journaled_rests event.Send _ _ _ tt c.in_ok-request.ensures.sent (ap (λ (o : Serial). o.side.doc) (sends-own c.turns.doc.desk))) (c.turns.invariant.follows on))

pub returns-in_err-read_on-clause-told : goal.returns-in_err-read_on-clause-told
returns-in_err-read_on-clause-told g c = λ on. on_err _ _ (told_same c.turns.doc c.read_on.new.doc (g.W.Watch.doc c.turns.watch) (g.W.Watch.shown c.turns.watch) (hands_rests _ _ (none-of _ _ _ c.may_read-may_read.ensures.may c.if-may_read.true) c.read_on.ensures.handed) (c.turns.invariant.follows on))

pub returns-in_err-answer-clause-told : goal.returns-in_err-answer-clause-told
returns-in_err-answer-clause-told g c = λ on. on_err _ _ (told_same c.turns.doc c.turns.doc (g.W.Watch.doc c.turns.watch) (g.W.Watch.shown c.turns.watch) (stands_rests c.turns.doc) (c.turns.invariant.follows on))

pub returns-in_err-take_reply-clause-told : goal.returns-in_err-take_reply-clause-told
returns-in_err-take_reply-clause-told g c = λ on. on_err _ _ (told_same c.turns.doc c.take_reply.new.doc (g.W.Watch.doc c.turns.watch) (g.W.Watch.shown c.turns.watch) (stays_rests _ _ c.in_err-take_reply.ensures.stays) (c.turns.invariant.follows on))

pub returns-in_err-fetch_awaited-clause-told : goal.returns-in_err-fetch_awaited-clause-told
returns-in_err-fetch_awaited-clause-told g c = λ on. on_err _ _ (told_same c.turns.doc c.fetch_awaited.new.doc (g.W.Watch.doc c.turns.watch) (g.W.Watch.shown c.turns.watch) (stays_rests _ _ c.in_err-fetch_awaited.ensures.stays) (c.turns.invariant.follows on))

pub returns-in_err-run_on-clause-told : goal.returns-in_err-run_on-clause-told
returns-in_err-run_on-clause-told g c = λ on.
    on_err _ _ (subst (HasTold c.run_on.new.doc) (sym c.in_err-run_on.ensures.untold) (told_before c.turns.doc c.run_on.new.doc (g.W.Watch.doc c.turns.watch) (g.W.Watch.shown c.turns.watch) c.may_read-may_read.ensures.replayed c.run_on.ensures.did (c.turns.invariant.follows on)))
