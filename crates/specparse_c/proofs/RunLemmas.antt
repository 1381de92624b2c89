-- A page that is run with its scripts.
use Rattle.std.proofs.Common.{◌≡◌, ◌≢◌, ◌≤◌, ◌+◌, ◌⊎◌, inl, inr, ℕ, List, [], ◌∷◌, ◌++◌, length, take, drop, Contains, Result, Ok, Err, IfOk, IfErr, refl, sym, ap, subst, ◌∙◌, arith, length-append}
use Rattle.std.specs.Prelude.{if◌then◌else◌}
use Rattle.std.specs.Str.{bytes_eq}
use Rattle.std.proofs.Math.Seq.{take-append_seam, drop-append_seam}
use Rattle.html_types.specs.declared.ending.Why.{Why}
use Rattle.html_types.specs.declared.ending.Why.TheVariants as why
use Rattle.serial.specs.Scripts.{Fetched, got}
use Rattle.serial.specs.Serial.{finished, refused}
use Rattle.parse_machine.specs.declared.end.End.{End}
use Rattle.parse_machine.specs.declared.end.End.TheVariants as end
use Rattle.parse_machine.specs.Ends.{result_of}
use Rattle.memory_runner.specs.declared.running.Ran.{Ran}
use Rattle.html_document.specs.declared.spans.FlatAttribute.{FlatAttribute}
use Rattle.specparse_c.specs.declared.failure.Failure.{Failure}
use Rattle.specparse_c.specs.declared.failure.Failure.TheVariants as failure
use Rattle.specparse_c.specs.Statuses.{status_of, failure_by, status_told}
use Rattle.specparse_c.specs.Rooms.{KeepsRun, GivesRun}
use Rattle.specparse_c.specs.Runs.{part_of, with_script, scripts_behind, HasRan, FailsAtScript, FailsAtScripts, FailsAtFlags, FailsAtRun, PrintsTo, PrintsAll, PrintsBad, PrintsLimit, LacksPrintRoom}
use Rattle.specparse_c.specs.Calls.{FailsAtTable}
use Rattle.specparse_c.proofs.Failures.{same-failure, not-done, not-room, fragment-status}

-- ---- the scripts

pub added-script : (old new : List ℕ → Fetched) (bs name text : List ℕ) (r : FlatAttribute) → name ≡ part_of bs r.name → text ≡ part_of bs r.value →
    ((other : List ℕ) → new other ≡ (if bytes_eq name other then got text else old other)) → (other : List ℕ) → new other ≡ with_script old bs r other
added-script old new bs name text r named is added other =
    added other ∙ (ap (λ n. if bytes_eq n other then got text else old other) named ∙ ap (λ t. if bytes_eq (part_of bs r.name) other then got t else old other) is)

one-more : (s : List ℕ → Fetched) (bs : List ℕ) (rs : List FlatAttribute) (r : FlatAttribute) → scripts_behind s bs (rs ++ r ∷ []) ≡ with_script (scripts_behind s bs rs) bs r
one-more s bs [] r = refl
one-more s bs (x ∷ rs) r = one-more (with_script s bs x) bs rs r

pub more-scripts : (none : List ℕ → Fetched) (bs : List ℕ) (rows : List FlatAttribute) (k : ℕ) (r : FlatAttribute) (old new : List ℕ → Fetched) → take (k + 1) rows ≡ take k rows ++ r ∷ [] →
    ((name : List ℕ) → old name ≡ scripts_behind none bs (take k rows) name) → ((name : List ℕ) → new name ≡ with_script old bs r name) → (name : List ℕ) → new name ≡ scripts_behind none bs (take (k + 1) rows) name
more-scripts none bs rows k r old new more so_far added name =
    added name ∙ (ap (λ f. if bytes_eq (part_of bs r.name) name then got (part_of bs r.value) else f) (so_far name)
    ∙ sym (ap (λ (l : List FlatAttribute). scripts_behind none bs l name) more ∙ ap (λ (f : List ℕ → Fetched). f name) (one-more none bs (take k rows) r)))

pub fails-scripts : (bs : List ℕ) (rs : List FlatAttribute) (r : FlatAttribute) (f : Failure) → Contains rs r → FailsAtScript bs r f → FailsAtScripts bs rs f
fails-scripts bs rs r failure.Context is h = (r, is, h)
fails-scripts bs rs r failure.Entities is h = absurd h
fails-scripts bs rs r failure.BadUtf8 is h = absurd h
fails-scripts bs rs r failure.Limit is h = absurd h
fails-scripts bs rs r failure.NoMemory is h = tt

-- ---- a part of a run that fails makes the run fail

pub flags-run : (entities bs : List ℕ) (rs : List FlatAttribute) (flags : ℕ) (f : Failure) → FailsAtFlags flags f → FailsAtRun entities bs rs flags f
flags-run entities bs rs flags failure.Context h = inl h
flags-run entities bs rs flags failure.Entities h = absurd h
flags-run entities bs rs flags failure.BadUtf8 h = absurd h
flags-run entities bs rs flags failure.Limit h = absurd h
flags-run entities bs rs flags failure.NoMemory h = absurd h

pub scripts-run : (entities bs : List ℕ) (rs : List FlatAttribute) (flags : ℕ) (f : Failure) → FailsAtScripts bs rs f → FailsAtRun entities bs rs flags f
scripts-run entities bs rs flags failure.Context h = inr h
scripts-run entities bs rs flags failure.Entities h = absurd h
scripts-run entities bs rs flags failure.BadUtf8 h = absurd h
scripts-run entities bs rs flags failure.Limit h = absurd h
scripts-run entities bs rs flags failure.NoMemory h = tt

pub table-run : (entities bs : List ℕ) (rs : List FlatAttribute) (flags : ℕ) (f : Failure) → FailsAtTable entities f → FailsAtRun entities bs rs flags f
table-run entities bs rs flags failure.Context h = absurd h
table-run entities bs rs flags failure.Entities h = h
table-run entities bs rs flags failure.BadUtf8 h = absurd h
table-run entities bs rs flags failure.Limit h = absurd h
table-run entities bs rs flags failure.NoMemory h = tt

-- ---- the call

-- what is laid into the room
printed-to : (entities page bs : List ℕ) (rs : List FlatAttribute) (flags : ℕ) (ran : Ran) (needed : ℕ) (text new_text : List ℕ) → HasRan entities page bs rs flags ran → needed ≡ length ran.text.items →
    new_text ≡ ran.text.items ++ drop needed text → PrintsTo entities page bs rs flags (result_of ran.outcome) needed new_text
printed-to entities page bs rs flags ran needed text new_text (es, is, runs) size laid =
    let all : List ℕ = ran.text.items in
    let fits : needed ≤ length new_text = omega (arith, size, ap length laid, length-append all (drop needed text)) in (
      runs.outcome,
      (es, is, runs.comes),
      runs.result,
      fits,
      ap (take needed) laid ∙ (ap (λ k. take k (all ++ drop needed text)) size ∙ (take-append_seam all (drop needed text) ∙ runs.text)),
    )

done-told : (k : End) → status_told k ≡ 0 → result_of k ≡ finished
done-told end.Finished e = refl
done-told (end.Refused w) e = absurd (not-done (failure_by w) e)

bad-by : (w : Why) → failure_by w ≡ failure.BadUtf8 → w ≡ why.BadUtf8
bad-by why.BadUtf8 e = refl
bad-by why.Depth e = absurd (cc e)
bad-by why.Writes e = absurd (cc e)
bad-by why.Page e = absurd (cc e)
bad-by why.Fault e = absurd (cc e)

bad-told : (k : End) → status_told k ≡ 4 → result_of k ≡ refused why.BadUtf8
bad-told end.Finished e = absurd (omega (arith, e))
bad-told (end.Refused w) e = ap refused (bad-by w (same-failure (failure_by w) failure.BadUtf8 e))

limit-told : (k : End) → status_told k ≡ 5 → (w : Why) × (w ≢ why.BadUtf8) × (result_of k ≡ refused w)
limit-told end.Finished e = absurd (omega (arith, e))
limit-told (end.Refused w) e = (w, (λ same. absurd (cc (sym (same-failure (failure_by w) failure.Limit e) ∙ ap failure_by same))), refl)

no-room-told : (k : End) → status_told k ≡ 13 → ⊥
no-room-told end.Finished e = omega (arith, e)
no-room-told (end.Refused w) e = not-room (failure_by w) e

no-failure-told : (k : End) (f : Failure) → f ≢ failure.BadUtf8 → f ≢ failure.Limit → status_told k ≡ status_of f → ⊥
no-failure-told end.Finished f bad limit e = not-done f (sym e)
no-failure-told (end.Refused w) f bad limit e = by-cause w (same-failure (failure_by w) f e)
  where
    by-cause : (w : Why) → failure_by w ≡ f → ⊥
    by-cause why.BadUtf8 e = bad (sym e)
    by-cause why.Depth e = limit (sym e)
    by-cause why.Writes e = limit (sym e)
    by-cause why.Page e = limit (sym e)
    by-cause why.Fault e = limit (sym e)

module _ (entities page bs : List ℕ) (rs : List FlatAttribute) (flags : ℕ) where
  pub run-done : (r : Result Ran Failure) (status needed : ℕ) (text new_text : List ℕ) → IfOk r (HasRan entities page bs rs flags) → GivesRun r status needed text new_text → status ≡ 0 → PrintsAll entities page bs rs flags needed new_text
  run-done (Ok ran) status needed text new_text has (size, inl (is, laid)) zero =
      subst (λ o. PrintsTo entities page bs rs flags o needed new_text) (done-told ran.outcome (sym is ∙ zero)) (printed-to entities page bs rs flags ran needed text new_text has size laid)
  run-done (Ok ran) status needed text new_text has (size, inr (full, small, left)) zero = absurd (omega (arith, full, zero))
  run-done (Err f) status needed text new_text has (own, none, left) zero = absurd (not-done f (sym own ∙ zero))

  pub run-bad : (r : Result Ran Failure) (status needed : ℕ) (text new_text : List ℕ) → IfOk r (HasRan entities page bs rs flags) → IfErr r (FailsAtRun entities bs rs flags) → GivesRun r status needed text new_text → status ≡ 4 →
      PrintsBad entities page bs rs flags needed new_text
  run-bad (Ok ran) status needed text new_text has fails (size, inl (is, laid)) four =
      subst (λ o. PrintsTo entities page bs rs flags o needed new_text) (bad-told ran.outcome (sym is ∙ four)) (printed-to entities page bs rs flags ran needed text new_text has size laid)
  run-bad (Ok ran) status needed text new_text has fails (size, inr (full, small, left)) four = absurd (omega (arith, full, four))
  run-bad (Err f) status needed text new_text has fails (own, none, left) four =
      absurd (subst (FailsAtRun entities bs rs flags) (same-failure f failure.BadUtf8 (sym own ∙ four)) fails)

  pub run-limit : (r : Result Ran Failure) (status needed : ℕ) (text new_text : List ℕ) → IfOk r (HasRan entities page bs rs flags) → IfErr r (FailsAtRun entities bs rs flags) → GivesRun r status needed text new_text → status ≡ 5 →
      PrintsLimit entities page bs rs flags needed new_text
  run-limit (Ok ran) status needed text new_text has fails (size, inl (is, laid)) five =
      let (w, other, same) = limit-told ran.outcome (sym is ∙ five) in
      (w, other, subst (λ o. PrintsTo entities page bs rs flags o needed new_text) same (printed-to entities page bs rs flags ran needed text new_text has size laid))
  run-limit (Ok ran) status needed text new_text has fails (size, inr (full, small, left)) five = absurd (omega (arith, full, five))
  run-limit (Err f) status needed text new_text has fails (own, none, left) five =
      absurd (subst (FailsAtRun entities bs rs flags) (same-failure f failure.Limit (sym own ∙ five)) fails)

  pub run-lacks : (r : Result Ran Failure) (status needed : ℕ) (text new_text : List ℕ) → IfOk r (HasRan entities page bs rs flags) → GivesRun r status needed text new_text → status ≡ 13 → LacksPrintRoom entities page bs rs flags needed text
  run-lacks (Ok ran) status needed text new_text has (size, inl (is, laid)) full = absurd (no-room-told ran.outcome (sym is ∙ full))
  run-lacks (Ok ran) status needed text new_text (es, is, runs) (size, inr (own, small, left)) full = (runs.outcome, (es, is, runs.comes), size ∙ ap length runs.text, small)
  run-lacks (Err f) status needed text new_text has (own, none, left) full = absurd (not-room f (sym own ∙ full))

  -- a failure's
  pub run-failed : (f : Failure) (r : Result Ran Failure) (status needed : ℕ) (text new_text : List ℕ) → f ≢ failure.BadUtf8 → f ≢ failure.Limit → IfErr r (FailsAtRun entities bs rs flags) → GivesRun r status needed text new_text →
      status ≡ status_of f → FailsAtRun entities bs rs flags f
  run-failed f (Ok ran) status needed text new_text bad limit h (size, inl (is, laid)) own = absurd (no-failure-told ran.outcome f bad limit (sym is ∙ own))
  run-failed f (Ok ran) status needed text new_text bad limit h (size, inr (full, small, left)) own = absurd (not-room f (sym own ∙ full))
  run-failed f (Err g) status needed text new_text bad limit h (is, none, left) own = subst (FailsAtRun entities bs rs flags) (same-failure g f (sym is ∙ own)) h

told-status : (k : End) → Contains (0 ∷ 2 ∷ 3 ∷ 4 ∷ 5 ∷ 12 ∷ 13 ∷ []) (status_told k)
told-status end.Finished = (0, omega arith, refl)
told-status (end.Refused why.BadUtf8) = (3, omega arith, refl)
told-status (end.Refused why.Depth) = (4, omega arith, refl)
told-status (end.Refused why.Writes) = (4, omega arith, refl)
told-status (end.Refused why.Page) = (4, omega arith, refl)
told-status (end.Refused why.Fault) = (4, omega arith, refl)

pub run-statuses : (r : Result Ran Failure) (status needed : ℕ) (text new_text : List ℕ) → GivesRun r status needed text new_text → Contains (0 ∷ 2 ∷ 3 ∷ 4 ∷ 5 ∷ 12 ∷ 13 ∷ []) status
run-statuses (Ok ran) status needed text new_text (size, inl (is, laid)) = subst (Contains (0 ∷ 2 ∷ 3 ∷ 4 ∷ 5 ∷ 12 ∷ 13 ∷ [])) (sym is) (told-status ran.outcome)
run-statuses (Ok ran) status needed text new_text (size, inr (full, small, left)) = (6, omega arith, sym full)
run-statuses (Err f) status needed text new_text (own, none, left) = subst (Contains (0 ∷ 2 ∷ 3 ∷ 4 ∷ 5 ∷ 12 ∷ 13 ∷ [])) (sym own) (fragment-status f)

told-printed : (k : End) → (status_told k ≡ 0) ⊎ ((status_told k ≡ 4) ⊎ (status_told k ≡ 5))
told-printed end.Finished = inl refl
told-printed (end.Refused why.BadUtf8) = inr (inl refl)
told-printed (end.Refused why.Depth) = inr (inr refl)
told-printed (end.Refused why.Writes) = inr (inr refl)
told-printed (end.Refused why.Page) = inr (inr refl)
told-printed (end.Refused why.Fault) = inr (inr refl)

-- a status that isn't 0, 4 or 5 is none of a page that was run
not-told : (k : End) (status : ℕ) → status ≡ status_told k → status ≢ 0 → status ≢ 4 → status ≢ 5 → ⊥
not-told k status is zero four five = elim (told-printed k) [ inl h ↦ zero (is ∙ h) | inr h ↦ elim h [ inl h ↦ four (is ∙ h) | inr h ↦ five (is ∙ h) ] ]

pub run-empty : (r : Result Ran Failure) (status needed : ℕ) (text new_text : List ℕ) → GivesRun r status needed text new_text → status ≢ 0 → status ≢ 4 → status ≢ 5 → status ≢ 13 → needed ≡ 0
run-empty (Ok ran) status needed text new_text (size, inl (is, laid)) zero four five full = absurd (not-told ran.outcome status is zero four five)
run-empty (Ok ran) status needed text new_text (size, inr (own, small, left)) zero four five full = absurd (full own)
run-empty (Err f) status needed text new_text (own, none, left) zero four five full = none

pub run-keeps : (r : Result Ran Failure) (status needed : ℕ) (text new_text : List ℕ) → GivesRun r status needed text new_text → KeepsRun status needed text new_text
run-keeps (Ok ran) status needed text new_text (size, inl (is, laid)) = record {
  behind = ap (drop needed) laid ∙ (ap (λ k. drop k (ran.text.items ++ drop needed text)) size ∙ drop-append_seam ran.text.items (drop needed text));
  all = λ zero four five. absurd (not-told ran.outcome status is zero four five);
}
run-keeps (Ok ran) status needed text new_text (size, inr (full, small, left)) = record { behind = ap (drop needed) left; all = λ zero four five. left }
run-keeps (Err f) status needed text new_text (own, none, left) = record { behind = ap (drop needed) left; all = λ zero four five. left }
