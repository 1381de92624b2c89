use Rattle.std.proofs.Common.{◌≡◌, ◌≤◌, ◌+◌, ◌-◌, ◌∙◌, ◌++◌, length, take, drop, true, length-take, sym, ap, refl, arith}
use Rattle.std.specs.Prelude.{string_bytes}
use Rattle.std.specs.Str.{chars}
use Rattle.core_steps.specs.Sides.{Shown, with_ending}
use Rattle.page_turns.proofs.LineLemmas.{on_err, ok_weaker, err_weaker}
use Rattle.page_turns.proofs.ReadLemmas.{has_room, asked_is}
use Rattle.page_turns.proofs.CutLemmas.{cuts_end, cuts_end_short, cuts_unused, cuts_piece, cuts_shut, cuts_shut_short}
use Rattle.page_turns.proofs.StepLemmas.{piece-taken, front-fits, piece-length, reads_end, reads_end_cut, reads_cut, piece_within, reads_open, reads_shut, reads_shut_cut}
use Rattle.page_turns.proofs.AlongLemmas.{hands_end, hands_same, hands_spent, hands_piece, hands_both}
use Rattle.page_turns.proofs.reader.PageReader.read_on.Goals as goal

pub returns-in-Err-clause-ok : goal.returns-in-Err-clause-ok
returns-in-Err-clause-ok g c =
    let at = g.F.Outside.seen in
    let room = has_room c.args.self.now c.args.doc.now.journal.pieces c.args.room.now c.min-most.result c.requires.reading c.requires.room c.min-most.ensures in
    ok_weaker _ _ _ (λ is. reads_end (at c.args.files.now) (at c.read_piece.new.files) c.args.self.now c.args.doc.now c.requires.reading c.in-Err.ending (c.in-Err.ensures.ending room) _ _ refl is) c.end.ensures.ok

pub returns-in-Err-clause-err : goal.returns-in-Err-clause-err
returns-in-Err-clause-err g c =
    let at = g.F.Outside.seen in
    let room = has_room c.args.self.now c.args.doc.now.journal.pieces c.args.room.now c.min-most.result c.requires.reading c.requires.room c.min-most.ensures in
    err_weaker _ _ _ (λ is. reads_end_cut (at c.args.files.now) (at c.read_piece.new.files) c.args.self.now c.args.doc.now c.requires.reading c.in-Err.ending (c.in-Err.ensures.ending room) c.end.new.self is) c.end.ensures.err

pub overflow_sub-self : goal.overflow_sub-self
overflow_sub-self g c =
    omega (arith, c.min-most.ensures, c.in-Ok.ensures.count.1, length-take c.min-most.result c.args.room.now)

pub returns-in_err-fed-in-Ok-clause-err : goal.returns-in_err-fed-in-Ok-clause-err
returns-in_err-fed-in-Ok-clause-err g c =
    let at = g.F.Outside.seen in
    let fits : c.in-Ok.n ≤ length c.read_piece.new.room = omega (arith, c.read_piece.auto.room, c.in-Ok.ensures.count.1) in
    let within : c.in-Ok.n ≤ c.args.self.now.left = omega (arith, c.min-most.ensures, c.in-Ok.ensures.count.1, length-take c.min-most.result c.args.room.now) in
    on_err _ _ (reads_cut (at c.args.files.now) (at c.read_piece.new.files) c.args.self.now c.args.doc.now c.requires.reading c.in-Ok.n (take c.in-Ok.n (c.read_piece.new.room ++ drop c.min-most.result c.args.room.now)) c.in-Ok.ensures.count.0 (piece-length c.read_piece.new.room (drop c.min-most.result c.args.room.now) (c.read_piece.new.room ++ drop c.min-most.result c.args.room.now) c.in-Ok.n refl fits) within (piece-taken _ _ c.read_piece.new.room (drop c.min-most.result c.args.room.now) (c.read_piece.new.room ++ drop c.min-most.result c.args.room.now) c.in-Ok.n refl fits c.in-Ok.ensures.taken) c.in-Ok.ensures.no_fault _ c.in-Ok.ensures.call c.args.doc.now.spent c.args.doc.now refl)

pub piece-requires-clause-within : goal.piece-requires-clause-within
piece-requires-clause-within g c =
    let at = g.F.Outside.seen in
    let fits : c.in-Ok.n ≤ length c.read_piece.new.room = omega (arith, c.read_piece.auto.room, c.in-Ok.ensures.count.1) in
    let within : c.in-Ok.n ≤ c.args.self.now.left = omega (arith, c.min-most.ensures, c.in-Ok.ensures.count.1, length-take c.min-most.result c.args.room.now) in
    piece_within (at c.args.files.now) (at c.read_piece.new.files) c.args.self.now c.args.doc.now c.requires.reading c.in-Ok.n (take c.in-Ok.n (c.read_piece.new.room ++ drop c.min-most.result c.args.room.now)) c.in-Ok.ensures.count.0 (piece-length c.read_piece.new.room (drop c.min-most.result c.args.room.now) (c.read_piece.new.room ++ drop c.min-most.result c.args.room.now) c.in-Ok.n refl fits) within (piece-taken _ _ c.read_piece.new.room (drop c.min-most.result c.args.room.now) (c.read_piece.new.room ++ drop c.min-most.result c.args.room.now) c.in-Ok.n refl fits c.in-Ok.ensures.taken) c.in-Ok.ensures.no_fault _ c.in-Ok.ensures.call (chars (string_bytes c.in_ok-fed-in-Ok.fed.text)) c.in_ok-fed-in-Ok.ensures.text

pub returns-in_err-piece-in-Ok-clause-err : goal.returns-in_err-piece-in-Ok-clause-err
returns-in_err-piece-in-Ok-clause-err g c =
    let at = g.F.Outside.seen in
    let fits : c.in-Ok.n ≤ length c.read_piece.new.room = omega (arith, c.read_piece.auto.room, c.in-Ok.ensures.count.1) in
    let within : c.in-Ok.n ≤ c.args.self.now.left = omega (arith, c.min-most.ensures, c.in-Ok.ensures.count.1, length-take c.min-most.result c.args.room.now) in
    on_err _ _ (reads_cut (at c.args.files.now) (at c.read_piece.new.files) c.args.self.now c.args.doc.now c.requires.reading c.in-Ok.n (take c.in-Ok.n (c.read_piece.new.room ++ drop c.min-most.result c.args.room.now)) c.in-Ok.ensures.count.0 (piece-length c.read_piece.new.room (drop c.min-most.result c.args.room.now) (c.read_piece.new.room ++ drop c.min-most.result c.args.room.now) c.in-Ok.n refl fits) within (piece-taken _ _ c.read_piece.new.room (drop c.min-most.result c.args.room.now) (c.read_piece.new.room ++ drop c.min-most.result c.args.room.now) c.in-Ok.n refl fits c.in-Ok.ensures.taken) c.in-Ok.ensures.no_fault _ c.in-Ok.ensures.call true c.piece.new.self c.in_err-piece-in-Ok.ensures.err)

pub returns-in-None-clause-ok : goal.returns-in-None-clause-ok
returns-in-None-clause-ok g c =
    let at = g.F.Outside.seen in
    let fits : c.in-Ok.n ≤ length c.read_piece.new.room = omega (arith, c.read_piece.auto.room, c.in-Ok.ensures.count.1) in
    let within : c.in-Ok.n ≤ c.args.self.now.left = omega (arith, c.min-most.ensures, c.in-Ok.ensures.count.1, length-take c.min-most.result c.args.room.now) in
    let left : (c.args.self.now.left - c.in-Ok.n) + c.in-Ok.n ≡ c.args.self.now.left = omega (arith, within) in
    reads_open (at c.args.files.now) (at c.read_piece.new.files) c.args.self.now c.args.doc.now c.requires.reading c.in-Ok.n (take c.in-Ok.n (c.read_piece.new.room ++ drop c.min-most.result c.args.room.now)) c.in-Ok.ensures.count.0 (piece-length c.read_piece.new.room (drop c.min-most.result c.args.room.now) (c.read_piece.new.room ++ drop c.min-most.result c.args.room.now) c.in-Ok.n refl fits) within (piece-taken _ _ c.read_piece.new.room (drop c.min-most.result c.args.room.now) (c.read_piece.new.room ++ drop c.min-most.result c.args.room.now) c.in-Ok.n refl fits c.in-Ok.ensures.taken) c.in-Ok.ensures.no_fault _ c.in-Ok.ensures.call (chars (string_bytes c.in_ok-fed-in-Ok.fed.text)) c.in_ok-fed-in-Ok.ensures.text c.in_ok-fed-in-Ok.fed.ending c.in_ok-fed-in-Ok.ensures.ending (record { decoder = c.feed.new.self; left = c.args.self.now.left - c.in-Ok.n }) c.piece.new.self c.in-None.is c.in_ok-fed-in-Ok.ensures.read left c.requires.no_ending c.in_ok-piece-in-Ok.ensures.ok

pub returns-in-Some-clause-ok : goal.returns-in-Some-clause-ok
returns-in-Some-clause-ok g c =
    let at = g.F.Outside.seen in
    let fits : c.in-Ok.n ≤ length c.read_piece.new.room = omega (arith, c.read_piece.auto.room, c.in-Ok.ensures.count.1) in
    let within : c.in-Ok.n ≤ c.args.self.now.left = omega (arith, c.min-most.ensures, c.in-Ok.ensures.count.1, length-take c.min-most.result c.args.room.now) in
    let left : (c.args.self.now.left - c.in-Ok.n) + c.in-Ok.n ≡ c.args.self.now.left = omega (arith, within) in
    ok_weaker _ _ _ (λ is. reads_shut (at c.args.files.now) (at c.read_piece.new.files) c.args.self.now c.args.doc.now c.requires.reading c.in-Ok.n (take c.in-Ok.n (c.read_piece.new.room ++ drop c.min-most.result c.args.room.now)) c.in-Ok.ensures.count.0 (piece-length c.read_piece.new.room (drop c.min-most.result c.args.room.now) (c.read_piece.new.room ++ drop c.min-most.result c.args.room.now) c.in-Ok.n refl fits) within (piece-taken _ _ c.read_piece.new.room (drop c.min-most.result c.args.room.now) (c.read_piece.new.room ++ drop c.min-most.result c.args.room.now) c.in-Ok.n refl fits c.in-Ok.ensures.taken) c.in-Ok.ensures.no_fault _ c.in-Ok.ensures.call (chars (string_bytes c.in_ok-fed-in-Ok.fed.text)) c.in_ok-fed-in-Ok.ensures.text c.in_ok-fed-in-Ok.fed.ending c.in_ok-fed-in-Ok.ensures.ending (record { decoder = c.feed.new.self; left = c.args.self.now.left - c.in-Ok.n }) c.end-in-Some.new.self c.in-Some.ending c.in-Some.is left
    (is ∙ ap (with_ending c.in-Some.ending) c.in_ok-piece-in-Ok.ensures.ok)) c.end-in-Some.ensures.ok

pub returns-in-Some-clause-err : goal.returns-in-Some-clause-err
returns-in-Some-clause-err g c =
    let at = g.F.Outside.seen in
    let fits : c.in-Ok.n ≤ length c.read_piece.new.room = omega (arith, c.read_piece.auto.room, c.in-Ok.ensures.count.1) in
    let within : c.in-Ok.n ≤ c.args.self.now.left = omega (arith, c.min-most.ensures, c.in-Ok.ensures.count.1, length-take c.min-most.result c.args.room.now) in
    err_weaker _ _ _ (λ is. reads_shut_cut (at c.args.files.now) (at c.read_piece.new.files) c.args.self.now c.args.doc.now c.requires.reading c.in-Ok.n (take c.in-Ok.n (c.read_piece.new.room ++ drop c.min-most.result c.args.room.now)) c.in-Ok.ensures.count.0 (piece-length c.read_piece.new.room (drop c.min-most.result c.args.room.now) (c.read_piece.new.room ++ drop c.min-most.result c.args.room.now) c.in-Ok.n refl fits) within (piece-taken _ _ c.read_piece.new.room (drop c.min-most.result c.args.room.now) (c.read_piece.new.room ++ drop c.min-most.result c.args.room.now) c.in-Ok.n refl fits c.in-Ok.ensures.taken) c.in-Ok.ensures.no_fault _ c.in-Ok.ensures.call (chars (string_bytes c.in_ok-fed-in-Ok.fed.text)) c.in_ok-fed-in-Ok.ensures.text c.in_ok-fed-in-Ok.fed.ending c.in_ok-fed-in-Ok.ensures.ending c.end-in-Some.new.self c.in-Some.ending c.in-Some.is
    (is ∙ ap (λ (z : Shown). record z { spent = true }) c.in_ok-piece-in-Ok.ensures.ok)) c.end-in-Some.ensures.err

pub slice_bounds-read_piece-end-2 : goal.slice_bounds-read_piece-end-2
slice_bounds-read_piece-end-2 g c = omega (arith, c.min-most.ensures, length-take c.min-most.result c.args.room.now)

pub slice_bounds-feed-end : goal.slice_bounds-feed-end
slice_bounds-feed-end g c =
    let fits : c.in-Ok.n ≤ length c.read_piece.new.room = omega (arith, c.read_piece.auto.room, c.in-Ok.ensures.count.1) in
    front-fits c.read_piece.new.room (drop c.min-most.result c.args.room.now) c.in-Ok.n fits

pub slice_bounds-feed-end-in-Ok : goal.slice_bounds-feed-end-in-Ok
slice_bounds-feed-end-in-Ok g c =
    let fits : c.in-Ok.n ≤ length c.read_piece.new.room = omega (arith, c.read_piece.auto.room, c.in-Ok.ensures.count.1) in
    sym (piece-length c.read_piece.new.room (drop c.min-most.result c.args.room.now) (c.read_piece.new.room ++ drop c.min-most.result c.args.room.now) c.in-Ok.n refl fits)

pub returns-in-Err-clause-handed : goal.returns-in-Err-clause-handed
returns-in-Err-clause-handed g c = hands_end _ c.requires.no_ending c.end.result c.in-Err.ending _ c.end.ensures.ok c.end.ensures.err

pub returns-in_err-fed-in-Ok-clause-handed : goal.returns-in_err-fed-in-Ok-clause-handed
returns-in_err-fed-in-Ok-clause-handed g c = hands_same _ c.requires.no_ending

pub returns-in_err-piece-in-Ok-clause-handed : goal.returns-in_err-piece-in-Ok-clause-handed
returns-in_err-piece-in-Ok-clause-handed g c = hands_spent _ c.requires.no_ending _ c.in_err-piece-in-Ok.ensures.err

pub returns-in-None-clause-handed : goal.returns-in-None-clause-handed
returns-in-None-clause-handed g c = hands_piece _ c.requires.no_ending _ _ c.in_ok-piece-in-Ok.ensures.ok

pub returns-in-Some-clause-handed : goal.returns-in-Some-clause-handed
returns-in-Some-clause-handed g c = hands_both _ c.requires.no_ending c.end-in-Some.result _ c.in-Some.ending _ _ c.in_ok-piece-in-Ok.ensures.ok c.end-in-Some.ensures.ok c.end-in-Some.ensures.err

-- ---- the calls

pub returns-in-Err-clause-cut : goal.returns-in-Err-clause-cut
returns-in-Err-clause-cut g c =
    let at = g.F.Outside.seen in
    let room = has_room c.args.self.now c.args.doc.now.journal.pieces c.args.room.now c.min-most.result c.requires.reading c.requires.room c.min-most.ensures in
    ok_weaker _ _ _ (λ is. cuts_end (length c.args.room.now) (at c.args.files.now) (at c.read_piece.new.files) c.args.self.now c.args.doc.now c.in-Err.ending (c.in-Err.ensures.ending room) _ _ is) c.end.ensures.ok

pub returns-in-Err-clause-cut_short : goal.returns-in-Err-clause-cut_short
returns-in-Err-clause-cut_short g c =
    let at = g.F.Outside.seen in
    let room = has_room c.args.self.now c.args.doc.now.journal.pieces c.args.room.now c.min-most.result c.requires.reading c.requires.room c.min-most.ensures in
    err_weaker _ _ _ (λ is. cuts_end_short (length c.args.room.now) (at c.args.files.now) (at c.read_piece.new.files) c.args.self.now c.args.doc.now c.in-Err.ending (c.in-Err.ensures.ending room) _ is) c.end.ensures.err

pub returns-in_err-fed-in-Ok-clause-cut_short : goal.returns-in_err-fed-in-Ok-clause-cut_short
returns-in_err-fed-in-Ok-clause-cut_short g c =
    let at = g.F.Outside.seen in
    let fits : c.in-Ok.n ≤ length c.read_piece.new.room = omega (arith, c.read_piece.auto.room, c.in-Ok.ensures.count.1) in
    let asks = asked_is c.args.self.now c.args.room.now c.min-most.result c.min-most.ensures in
    on_err _ _ (cuts_unused (length c.args.room.now) (at c.args.files.now) (at c.read_piece.new.files) c.args.self.now c.args.doc.now _ c.in-Ok.n (take c.in-Ok.n (c.read_piece.new.room ++ drop c.min-most.result c.args.room.now)) c.in-Ok.ensures.count.0 (piece-length c.read_piece.new.room (drop c.min-most.result c.args.room.now) (c.read_piece.new.room ++ drop c.min-most.result c.args.room.now) c.in-Ok.n refl fits) asks (piece-taken _ _ c.read_piece.new.room (drop c.min-most.result c.args.room.now) (c.read_piece.new.room ++ drop c.min-most.result c.args.room.now) c.in-Ok.n refl fits c.in-Ok.ensures.taken) c.in-Ok.ensures.call c.args.doc.now.spent c.args.doc.now refl)

pub returns-in_err-piece-in-Ok-clause-cut_short : goal.returns-in_err-piece-in-Ok-clause-cut_short
returns-in_err-piece-in-Ok-clause-cut_short g c =
    let at = g.F.Outside.seen in
    let fits : c.in-Ok.n ≤ length c.read_piece.new.room = omega (arith, c.read_piece.auto.room, c.in-Ok.ensures.count.1) in
    let asks = asked_is c.args.self.now c.args.room.now c.min-most.result c.min-most.ensures in
    on_err _ _ (cuts_unused (length c.args.room.now) (at c.args.files.now) (at c.read_piece.new.files) c.args.self.now c.args.doc.now _ c.in-Ok.n (take c.in-Ok.n (c.read_piece.new.room ++ drop c.min-most.result c.args.room.now)) c.in-Ok.ensures.count.0 (piece-length c.read_piece.new.room (drop c.min-most.result c.args.room.now) (c.read_piece.new.room ++ drop c.min-most.result c.args.room.now) c.in-Ok.n refl fits) asks (piece-taken _ _ c.read_piece.new.room (drop c.min-most.result c.args.room.now) (c.read_piece.new.room ++ drop c.min-most.result c.args.room.now) c.in-Ok.n refl fits c.in-Ok.ensures.taken) c.in-Ok.ensures.call true c.piece.new.self c.in_err-piece-in-Ok.ensures.err)

pub returns-in-None-clause-cut : goal.returns-in-None-clause-cut
returns-in-None-clause-cut g c =
    let at = g.F.Outside.seen in
    let fits : c.in-Ok.n ≤ length c.read_piece.new.room = omega (arith, c.read_piece.auto.room, c.in-Ok.ensures.count.1) in
    let asks = asked_is c.args.self.now c.args.room.now c.min-most.result c.min-most.ensures in
    let within : c.in-Ok.n ≤ c.args.self.now.left = omega (arith, c.min-most.ensures, c.in-Ok.ensures.count.1, length-take c.min-most.result c.args.room.now) in
    let left : (c.args.self.now.left - c.in-Ok.n) + c.in-Ok.n ≡ c.args.self.now.left = omega (arith, within) in
    cuts_piece (length c.args.room.now) (at c.args.files.now) (at c.read_piece.new.files) c.args.self.now c.args.doc.now _ c.in-Ok.n (take c.in-Ok.n (c.read_piece.new.room ++ drop c.min-most.result c.args.room.now)) c.in-Ok.ensures.count.0 (piece-length c.read_piece.new.room (drop c.min-most.result c.args.room.now) (c.read_piece.new.room ++ drop c.min-most.result c.args.room.now) c.in-Ok.n refl fits) asks (piece-taken _ _ c.read_piece.new.room (drop c.min-most.result c.args.room.now) (c.read_piece.new.room ++ drop c.min-most.result c.args.room.now) c.in-Ok.n refl fits c.in-Ok.ensures.taken) c.in-Ok.ensures.call (chars (string_bytes c.in_ok-fed-in-Ok.fed.text)) c.in_ok-fed-in-Ok.ensures.text (record { decoder = c.feed.new.self; left = c.args.self.now.left - c.in-Ok.n }) c.piece.new.self c.in_ok-fed-in-Ok.ensures.read left c.requires.no_ending c.in_ok-piece-in-Ok.ensures.ok

pub returns-in-Some-clause-cut : goal.returns-in-Some-clause-cut
returns-in-Some-clause-cut g c =
    let at = g.F.Outside.seen in
    let fits : c.in-Ok.n ≤ length c.read_piece.new.room = omega (arith, c.read_piece.auto.room, c.in-Ok.ensures.count.1) in
    let asks = asked_is c.args.self.now c.args.room.now c.min-most.result c.min-most.ensures in
    ok_weaker _ _ _ (λ is. cuts_shut (length c.args.room.now) (at c.args.files.now) (at c.read_piece.new.files) c.args.self.now c.args.doc.now _ c.in-Ok.n (take c.in-Ok.n (c.read_piece.new.room ++ drop c.min-most.result c.args.room.now)) c.in-Ok.ensures.count.0 (piece-length c.read_piece.new.room (drop c.min-most.result c.args.room.now) (c.read_piece.new.room ++ drop c.min-most.result c.args.room.now) c.in-Ok.n refl fits) asks (piece-taken _ _ c.read_piece.new.room (drop c.min-most.result c.args.room.now) (c.read_piece.new.room ++ drop c.min-most.result c.args.room.now) c.in-Ok.n refl fits c.in-Ok.ensures.taken) c.in-Ok.ensures.call (chars (string_bytes c.in_ok-fed-in-Ok.fed.text)) c.in_ok-fed-in-Ok.ensures.text _ c.end-in-Some.new.self c.in-Some.ending (is ∙ ap (with_ending c.in-Some.ending) c.in_ok-piece-in-Ok.ensures.ok)) c.end-in-Some.ensures.ok

pub returns-in-Some-clause-cut_short : goal.returns-in-Some-clause-cut_short
returns-in-Some-clause-cut_short g c =
    let at = g.F.Outside.seen in
    let fits : c.in-Ok.n ≤ length c.read_piece.new.room = omega (arith, c.read_piece.auto.room, c.in-Ok.ensures.count.1) in
    let asks = asked_is c.args.self.now c.args.room.now c.min-most.result c.min-most.ensures in
    err_weaker _ _ _ (λ is. cuts_shut_short (length c.args.room.now) (at c.args.files.now) (at c.read_piece.new.files) c.args.self.now c.args.doc.now _ c.in-Ok.n (take c.in-Ok.n (c.read_piece.new.room ++ drop c.min-most.result c.args.room.now)) c.in-Ok.ensures.count.0 (piece-length c.read_piece.new.room (drop c.min-most.result c.args.room.now) (c.read_piece.new.room ++ drop c.min-most.result c.args.room.now) c.in-Ok.n refl fits) asks (piece-taken _ _ c.read_piece.new.room (drop c.min-most.result c.args.room.now) (c.read_piece.new.room ++ drop c.min-most.result c.args.room.now) c.in-Ok.n refl fits c.in-Ok.ensures.taken) c.in-Ok.ensures.call (chars (string_bytes c.in_ok-fed-in-Ok.fed.text)) c.in_ok-fed-in-Ok.ensures.text c.end-in-Some.new.self (is ∙ ap (λ (z : Shown). record z { spent = true }) c.in_ok-piece-in-Ok.ensures.ok)) c.end-in-Some.ensures.err
