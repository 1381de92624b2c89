use Rattle.std.proofs.Common.{ℕ, ◌≡◌, ◌≤◌, ◌+◌, ◌++◌, length, take, drop, vec_len, arith, refl, sym, ap, subst, ◌∙◌, inl, inr, length-take, length-append}
use Rattle.outside.specs.declared.traits.Port.TheVariants.{Page}
use Rattle.page_turns.specs.declared.page.TheConstants.{PAGE_LIMIT}
use Rattle.page_turns.specs.Given.{AreRead, file_at, begun}
use Rattle.outside.proofs.KeepsLemmas.{keeps-then}
use Rattle.page_turns.proofs.CallLemmas.{IsReadOn, read_on_more, read_on_within, read_on_each, unbegun_each}
use Rattle.page_turns.proofs.KeepsLemmas.{begun_stays, rose-on}
use Rattle.page_turns.proofs.RunReads.{read_more, read_none, read_failed, piece_size, piece_front}
use Rattle.page_batch.proofs.ReadLemmas.{whole-read, cut-read, first-given}
use Rattle.page_batch.proofs.read.read_page.Goals as goal
use Rattle.page_batch.proofs.read.read_page.Goals.{else-reads-test, then-reads-test+in-Ok-eq0}

pub returns-in-Err-read-clause-no_further : goal.returns-in-Err-read-clause-no_further
returns-in-Err-read-clause-no_further g c = begun c.reads.bytes.items (read_failed _ _ _ _ c.reads.invariant.read c.in-Err-read.ensures.failed) (omega (arith, c.reads.bytes.ok.0, c.reads.invariant.bound))

pub reads-preserved : goal.reads-preserved
reads-preserved g c =
    let fits : c.in-Ok.n ≤ length c.read.new.into = omega (arith, c.read.auto.into, c.in-Ok.ensures.count) in
    let len = c.in_ok-extend_from_slice.ensures.len in
    let most = length-take c.in-Ok.n (c.read.new.into ++ drop c.min-room.result c.reads.piece) in
    let room = length-take c.min-room.result c.reads.piece in
    let size = piece_size c.read.new.into (drop c.min-room.result c.reads.piece) c.in-Ok.n fits in
    let more : vec_len c.extend_from_slice.new.self ≡ vec_len c.reads.bytes + c.in-Ok.n = omega (arith, len, size) in
    record {
      opened = ap (λ o. o Page) c.read.ensures.open_at ∙ c.reads.invariant.opened;
      bound = omega (arith, len, most, room, c.read.auto.into, c.in-Ok.ensures.count, c.min-room.ensures, c.len-in-reads.ensures);
      others = keeps-then _ _ _ _ c.reads.invariant.others c.read.ensures.others;
      begun = begun_stays _ _ _ _ c.reads.invariant.begun (ap (λ begun. begun Page) c.read.ensures.begun);
      no_fault = c.in-Ok.ensures.no_fault ∙ c.reads.invariant.no_fault;
      calls = subst (λ k. IsReadOn Page c.args.path.now (g.F.Outside.seen c.args.files.now) (g.F.Outside.seen c.read.new.self) k) (sym more)
          (read_on_more _ _ _ _ _ _ c.reads.invariant.calls _ _ c.read.ensures.calls c.in-Ok.n c.in-Ok.is);
      read = rw c.in_ok-extend_from_slice.ensures.items
          (read_more _ _ _ c.reads.bytes.items c.read.new.into (take c.in-Ok.n (c.read.new.into ++ drop c.min-room.result c.reads.piece)) c.in-Ok.n c.reads.invariant.read c.in-Ok.ensures.moved
          (piece_front c.read.new.into (drop c.min-room.result c.reads.piece) c.in-Ok.n fits));
    }

pub returns-in_err-extend_from_slice-clause-no_further : goal.returns-in_err-extend_from_slice-clause-no_further
returns-in_err-extend_from_slice-clause-no_further g c =
    let most = length-take c.in-Ok.n c.read.new.into in
    let room = length-take c.min-room.result c.reads.piece in
    begun (c.reads.bytes.items ++ take c.in-Ok.n c.read.new.into) (read_more _ _ _ c.reads.bytes.items c.read.new.into _ c.in-Ok.n c.reads.invariant.read c.in-Ok.ensures.moved refl)
    (omega (arith, most, room, length-append c.reads.bytes.items (take c.in-Ok.n c.read.new.into), c.reads.bytes.ok.0, c.read.auto.into, c.in-Ok.ensures.count, c.min-room.ensures, c.len-in-reads.ensures))

pub returns-clause-no_further : goal.returns-clause-no_further
returns-clause-no_further g c =
    let at = g.F.Outside.seen in
    let small : length c.reads.bytes.items ≤ PAGE_LIMIT + 1 = omega (arith, c.reads.bytes.ok.0, c.reads.invariant.bound) in
    let here : AreRead (file_at (at c.args.files.now) c.args.path.now) ((at c.reads-test.files).left Page) c.reads.bytes.items = elim c.reads-test.branch [
      | else-reads-test w ↦ rw w.files-is c.reads.invariant.read
      | then-reads-test+in-Ok-eq0 w ↦ rw w.files-is (read_none _ _ _ _ _ _ c.reads.invariant.read w.in-Ok-eq0.ensures.moved w.in-Ok-eq0.field-0-test)
    ] in
    begun c.reads.bytes.items here small

pub returns-in-Err-read-clause-begun : goal.returns-in-Err-read-clause-begun
returns-in-Err-read-clause-begun g c = begun_stays _ _ _ _ c.reads.invariant.begun (ap (λ begun. begun Page) c.read.ensures.begun)

pub returns-in_err-extend_from_slice-clause-begun : goal.returns-in_err-extend_from_slice-clause-begun
returns-in_err-extend_from_slice-clause-begun g c = begun_stays _ _ _ _ c.reads.invariant.begun (ap (λ begun. begun Page) c.read.ensures.begun)

pub returns-clause-begun : goal.returns-clause-begun
returns-clause-begun g c = elim c.reads-test.branch [
  | else-reads-test w ↦ rw w.files-is c.reads.invariant.begun
  | then-reads-test+in-Ok-eq0 w ↦ rw w.files-is (begun_stays _ _ _ _ c.reads.invariant.begun (ap (λ begun. begun Page) w.read.ensures.begun))
]

-- ---- the calls

pub returns-in-Err-clause-within : goal.returns-in-Err-clause-within
returns-in-Err-clause-within g c = unbegun_each _ _ _ _ _ c.begin.result c.begin.ensures.calls

pub returns-in-Ok-false-clause-within : goal.returns-in-Ok-false-clause-within
returns-in-Ok-false-clause-within g c = unbegun_each _ _ _ _ _ c.begin.result c.begin.ensures.calls

pub returns-in-Err-read-clause-given : goal.returns-in-Err-read-clause-given
returns-in-Err-read-clause-given g c =
    let now = g.F.Outside.seen c.args.files.now in
    let after = g.F.Outside.seen c.read.new.self in (
      cut-read c.args.path.now now after c.reads.bytes.items (read_failed _ _ _ _ c.reads.invariant.read c.in-Err-read.ensures.failed) (omega (arith, c.reads.bytes.ok.0, c.reads.invariant.bound))
          (rose-on _ _ _ (c.reads.invariant.others.faults Page) c.in-Err-read.ensures.faults_rose)
          (first-given c.args.path.now now _ after c.reads.bytes.items (vec_len c.reads.bytes) (omega (arith, c.reads.bytes.ok.0)) c.reads.invariant.calls _ c.read.result _ c.in-Err-read.is c.read.ensures.calls),
      ap (λ o. o Page) c.read.ensures.open_at ∙ c.reads.invariant.opened,
    )

pub returns-clause-given : goal.returns-clause-given
returns-clause-given g c =
    let small : length c.reads.bytes.items ≤ PAGE_LIMIT + 1 = omega (arith, c.reads.bytes.ok.0, c.reads.invariant.bound) in
    let now = g.F.Outside.seen c.args.files.now in
    elim c.reads-test.branch [
      | else-reads-test w ↦ rw w.files-is (
        whole-read c.args.path.now now _ _ c.reads.bytes.items c.reads.invariant.read (inr (omega (arith, c.reads.bytes.ok.0, c.reads.invariant.bound, w.reads-test.false))) small c.reads.invariant.no_fault,
        c.reads.invariant.opened,
      )
      | then-reads-test+in-Ok-eq0 w ↦ rw w.files-is (
        whole-read c.args.path.now now _ _ c.reads.bytes.items c.reads.invariant.read (inl (w.in-Ok-eq0.ensures.end w.in-Ok-eq0.field-0-test (omega (arith, length-take {A = ℕ})))) small (w.in-Ok-eq0.ensures.no_fault ∙ c.reads.invariant.no_fault),
        ap (λ o. o Page) w.read.ensures.open_at ∙ c.reads.invariant.opened,
      )
    ]

pub returns-in-Err-read-clause-within : goal.returns-in-Err-read-clause-within
returns-in-Err-read-clause-within g c =
    let small : vec_len c.reads.bytes ≤ PAGE_LIMIT + 1 = c.reads.invariant.bound in
    read_on_within _ _ _ _ _ _ c.reads.invariant.calls _ _ c.read.ensures.calls PAGE_LIMIT (rw c.in-Err-read.is (omega arith))

pub returns-in_err-extend_from_slice-clause-within : goal.returns-in_err-extend_from_slice-clause-within
returns-in_err-extend_from_slice-clause-within g c =
    let bound : vec_len c.reads.bytes ≤ PAGE_LIMIT + 1 = c.reads.invariant.bound in
    let room = length-take c.min-room.result c.reads.piece in
    read_on_within _ _ _ _ _ _ c.reads.invariant.calls _ _ c.read.ensures.calls PAGE_LIMIT
    (rw c.in-Ok.is (omega (arith, bound, room, c.read.auto.into, c.in-Ok.ensures.count, c.min-room.ensures, c.len-in-reads.ensures)))

pub returns-clause-within : goal.returns-clause-within
returns-clause-within g c =
    let at = g.F.Outside.seen in
    let on = c.reads.invariant.calls in
    let small : vec_len c.reads.bytes ≤ PAGE_LIMIT + 1 = c.reads.invariant.bound in
    elim c.reads-test.branch [
      | else-reads-test w ↦ rw w.files-is (read_on_each _ _ _ _ _ _ on small)
      | then-reads-test+in-Ok-eq0 w ↦ rw w.files-is (read_on_within _ _ _ _ _ _ on _ _ w.read.ensures.calls PAGE_LIMIT (rw (w.in-Ok-eq0.is, w.in-Ok-eq0.field-0-test) (omega arith)))
    ]
