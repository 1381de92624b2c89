-- What is reported of a page that was run.
use Rattle.std.proofs.Common.{◌≡◌, ℕ, Bool, true, false, true≢false, List, [], ◌∷◌, ◌++◌, Option, Some, None, Ok, IfSome, flat_map, refl, sym, ap, subst, inl, inr, ◌∙◌}
use Rattle.std.specs.Prelude.{◌⊎◌, IsTrue, IsSome, Result}
use Rattle.std.specs.Option.{option_map}
use Rattle.standard.specs.Entities.{Entities}
use Rattle.serial.specs.Output.{line_text}
use Rattle.core_steps.specs.Sides.{Shown}
use Rattle.outside.specs.Outside.{Files, begins, Seen, KeepsOthers}
use Rattle.outside.specs.declared.traits.Failed.{Failed}
use Rattle.outside.specs.declared.traits.Port.TheVariants.{Page}
use Rattle.parse_machine.specs.declared.end.End.{End}
use Rattle.page_turns.specs.declared.page.Failure.{Failure}
use Rattle.page_turns.specs.declared.page.Failure.TheVariants as failures
use Rattle.page_runner.specs.declared.status.Status.{Status}
use Rattle.page_runner.specs.declared.status.Status.TheVariants as status
use Rattle.core_definitions.specs.Core.{joined}
use Rattle.core_definitions.specs.Desk.{done}
use Rattle.page_turns.specs.Calls.{CallsAt}
use Rattle.page_turns.specs.Cuts.{IsCut}
use Rattle.page_turns.specs.Given.{NoFault, file_at}
use Rattle.page_turns.specs.Pages.{EndsWithScripts}
use Rattle.page_turns.specs.Taken.{Took, TookFront}
use Rattle.page_turns.specs.Scripts.{Folder}
use Rattle.parse_machine.specs.Ends.{result_of}
use Rattle.page_runner.specs.Manner.{Manner, manner, result_in}
use Rattle.page_runner.specs.Shown.{status_of}
use Rattle.page_turns.specs.Turns.{Leaves, RunsOut}
use Rattle.page_runner.specs.Answers.{status_for, is_answered, Gives, IsBegun}
use Rattle.page_turns.specs.Replaying.{ReplaysTo}
use Rattle.page_turns.specs.WrittenInPart.{IsDue, WritesInPart}
use Rattle.page_runner.specs.Reports.{HasSide, has_run_out, IsCutByReads, IsMet, IsWritten, EndsAsSerial, IsDueNext, Reports}
use Rattle.page_turns.proofs.CallLemmas.{called_then}
use Rattle.page_turns.proofs.CutLemmas.{cut_short}
use Rattle.page_turns.proofs.PageTakenLemmas.{took_then, with_front}
use Rattle.page_runner.proofs.RunLemmas.{status_is, failure_unanswered, may_page, come_since, FirstSince, file_page_since, may_meet_since}

-- What was met outside is in the journal.
is_met : (es : Entities) (ahead : ℕ) (path : List ℕ) (folder : Folder) (before after : Seen) (s : Shown) → IsBegun path before → Leaves es ahead folder before after s → IsMet path folder before after s.journal
is_met es ahead path folder before after s begun left = record {
  page = left.page.page;
  is_page = may_page es (manner false 0) path folder before after begun left.page.page left.page.read_from;
  front = left.page.is;
  scripts = λ name f is. elim (left.fetches.fresh name f is) [
    | inl none ↦ absurd (cc none)
    | inr may ↦ may
  ];
  known = left.known;
}

module _ (es : Entities) (ahead : ℕ) (how : Manner) (path : List ℕ) (folder : Folder) (before after : Seen) (begun : IsBegun path before) (t t' : Option (List ℕ)) (s : Shown) (left : Leaves es ahead folder before after s) (replays : ReplaysTo es ahead s) where
  -- the parse gave up
  pub reports_failure : (f : Failure) → WritesInPart es ahead t t' (IsDue s) → Reports es ahead how path folder before after t t' s (status_for f)
  reports_failure f part = record {
    entities = left.entities;
    ahead_is = left.ahead_is;
    met = is_met es ahead path folder before after s begun left;
    replays = replays;
    written = λ e. absurd (failure_unanswered f e);
    ended = λ e. absurd (failure_unanswered f e);
    in_part = λ _. record { before = part.before; replays = part.replays; due = part.due; is_due = inl part.is_due; took = part.took };
  }

  -- or it is over
  pub reports_end : (now' : Option (List ℕ)) (o : End) (rose : Type 0) (r : Status) → RunsOut es ahead folder before after t now' s o → EndsWithScripts es folder before after s.desk.own.side.doc s.desk.own.side.lines t now' o
      → Gives rose now' t' (status_of o, result_in how (result_of o) s.desk.own.side.doc.tree) r → Reports es ahead how path folder before after t t' s r
  reports_end now' o rose r out ends gives = record {
    entities = left.entities;
    ahead_is = left.ahead_is;
    met = is_met es ahead path folder before after s begun left;
    replays = replays;
    written = λ e. here (all-of r e gives);
    ended = λ _. as_serial;
    in_part = λ e. part (front-of r e gives);
  }
    where
      as_serial : EndsAsSerial es path folder before after s
      as_serial = record {
        met = record { read = ends.page; scripts = ends.scripts; outcome = ends.ended.outcome };
        may = record { read = may_page es how path folder before after begun ends.page ends.read_from; scripts = ends.are_scripts };
        comes = ends.ended.comes;
        phase = out.phase ∙ ap done (sym ends.ended.result);
        lines = sym ends.ended.lines;
        tree = sym ends.ended.tree;
      }

      front-of : (r : Status) → is_answered r ≡ false → Gives rose now' t' (status_of o, result_in how (result_of o) s.desk.own.side.doc.tree) r → TookFront now' t' (result_in how (result_of o) s.desk.own.side.doc.tree)
      front-of status.WriteFault e gives = gives.1
      front-of status.NoMemory e gives = gives
      front-of status.Done e gives = absurd (true≢false e)
      front-of status.Usage e gives = absurd (true≢false e)
      front-of status.Entities e gives = absurd (true≢false e)
      front-of status.BadUtf8 e gives = absurd (true≢false e)
      front-of (status.Limit which) e gives = absurd (true≢false e)
      front-of status.ReadFault e gives = absurd (true≢false e)
      front-of status.Absent e gives = absurd (true≢false e)
      front-of status.List e gives = absurd (true≢false e)

      part : TookFront now' t' (result_in how (result_of o) s.desk.own.side.doc.tree) → WritesInPart es ahead t t' (IsDueNext how s)
      part front = record {
        before = s;
        replays = replays;
        due = result_in how (result_of o) s.desk.own.side.doc.tree;
        is_due = inr (record { same = refl; result = result_of o; going = out.going; phase = out.phase; text_is = refl });
        took = with_front t now' t' (flat_map line_text s.desk.own.side.lines) (result_in how (result_of o) s.desk.own.side.doc.tree) out.took front;
      }

      All : Status → Type 0
      All r = (r ≡ status_of o) × Took now' t' (result_in how (result_of o) s.desk.own.side.doc.tree)

      all-of : (r : Status) → IsTrue (is_answered r) → Gives rose now' t' (status_of o, result_in how (result_of o) s.desk.own.side.doc.tree) r → All r
      all-of status.WriteFault e gives = absurd (cc e)
      all-of status.NoMemory e gives = absurd (cc e)
      all-of status.Done e gives = gives
      all-of status.Usage e gives = gives
      all-of status.Entities e gives = gives
      all-of status.BadUtf8 e gives = gives
      all-of (status.Limit which) e gives = gives
      all-of status.ReadFault e gives = gives
      all-of status.Absent e gives = gives
      all-of status.List e gives = gives

      here : All r → IsWritten how t t' s r
      here (is, took) = record { result = result_of o; going = out.going; phase = out.phase; outcome_is = is ∙ status_is o; took = took_then t now' t' _ _ out.took took }

-- The page was begun before.
pub reports_since : (es : Entities) (ahead : ℕ) (how : Manner) (path : List ℕ) (folder : Folder) (before now after : Seen) (t t' : Option (List ℕ)) (s : Shown) (r : Status) → KeepsOthers Page before now → NoFault Page before now → FirstSince before now after
    → Reports es ahead how path folder now after t t' s r → Reports es ahead how path folder before after t t' s r
reports_since es ahead how path folder before now after t t' s r keeps quiet first reports =
    let met = reports.met in
    record {
      entities = reports.entities;
      ahead_is = reports.ahead_is;
      met = record {
        page = met.page;
        is_page = file_page_since Page path before now after met.page keeps quiet first met.is_page;
        front = met.front;
        scripts = λ name f is. let (g, may, alike) = met.scripts name f is in (g, come_since Page folder before now after name g (λ e. cc e) keeps may, alike);
        known = met.known;
      };
      replays = reports.replays;
      written = reports.written;
      ended = λ e. ended_since (reports.ended e);
      in_part = reports.in_part;
    }
  where
    ended_since : EndsAsSerial es path folder now after s → EndsAsSerial es path folder before after s
    ended_since x = record {
      met = x.met;
      may = may_meet_since Page path folder before now after x.met (λ e. cc e) keeps quiet first x.may;
      comes = x.comes;
      phase = x.phase;
      lines = x.lines;
      tree = x.tree;
    }

-- ---- what a report has

-- the page was begun, and read into pieces
pub cut_since : (most : ℕ) (path path' : List ℕ) (answer : Result Bool Failed) (before now after : Seen) (r : Status) (pieces : List (List ℕ)) → path' ≡ path → answer ≡ Ok true → KeepsOthers Page before now → CallsAt Page before now (begins path' answer ∷ [])
    → IsBegun path now → IsCut most (has_run_out r) now after pieces → IsCutByReads most path before after r pieces
cut_since most path path' answer before now after r pieces same is keeps made begun c = record {
  parts = c.parts;
  calls = c.calls;
  last = c.last;
  made = subst (λ p. CallsAt Page before after (begins p (Ok true) ∷ (c.calls ++ c.last))) same
      (subst (λ a. CallsAt Page before after (begins path' a ∷ (c.calls ++ c.last))) is (called_then _ _ _ (begins path' answer ∷ []) (c.calls ++ c.last) made c.made));
  is_last = c.is_last;
  cut = c.cut;
  front = subst (λ file. IfSome file (λ f. (rest : List ℕ) × (f ≡ Some (joined c.parts ++ rest)))) (ap (λ files. option_map (λ map. map path) files) keeps.files) (front_of now.files (now.left Page) begun.1 c.front);
}
  where
    there : (file whole : Option (List ℕ)) → IsSome file → whole ≡ file → IfSome whole (λ all. (rest : List ℕ) × (all ≡ joined c.parts ++ rest)) → (rest : List ℕ) × (file ≡ Some (joined c.parts ++ rest))
    there None whole some same front = absurd (cc some)
    there (Some all) whole some same front =
        let (rest, is) = subst (λ w. IfSome w (λ all. (rest : List ℕ) × (all ≡ joined c.parts ++ rest))) same front in
        (rest, ap Some is)

    front_of : (files : Option Files) (whole : Option (List ℕ)) → IfSome files (λ map. IsSome (map path) × (whole ≡ map path)) → IfSome whole (λ all. (rest : List ℕ) × (all ≡ joined c.parts ++ rest))
        → IfSome (option_map (λ map. map path) files) (λ f. (rest : List ℕ) × (f ≡ Some (joined c.parts ++ rest)))
    front_of None whole found front = tt
    front_of (Some map) whole found front = there (map path) whole found.0 found.1 front

-- there is a document's side, or memory ran out first
pub side_since : (path path' : List ℕ) (answer : Result Bool Failed) (before now after : Seen) (t t' : Option (List ℕ)) (r : Status) (side : Option Shown) → path' ≡ path → answer ≡ Ok true → KeepsOthers Page before now → CallsAt Page before now (begins path' answer ∷ [])
    → IsBegun path now → IsSome side ⊎ ((r ≡ status.NoMemory) × (after ≡ now) × (t' ≡ t)) → HasSide path before after t t' r side
side_since path path' answer before now after t t' r side same is keeps made begun (inl some) open_ = inl some
side_since path path' answer before now after t t' r side same is keeps made begun (inr (no_memory, stays, unwritten)) open_ = inr (record {
  outcome_is = no_memory;
  begun = subst (λ s. CallsAt Page before s (begins path (Ok true) ∷ [])) (sym stays)
      (subst (λ p. CallsAt Page before now (begins p (Ok true) ∷ [])) same (subst (λ a. CallsAt Page before now (begins path' a ∷ [])) is made));
  unread = subst (λ s. IfSome (file_at before path) (λ file. s.left Page ≡ file)) (sym stays) (subst (λ file. IfSome file (λ f. now.left Page ≡ f)) (ap (λ files. option_map (λ map. map path) files) keeps.files) (left_of now.files begun.1));
  unwritten = unwritten;
})
  where
    left_of : (files : Option Files) → IfSome files (λ map. IsSome (map path) × (now.left Page ≡ map path)) → IfSome (option_map (λ map. map path) files) (λ f. now.left Page ≡ f)
    left_of None found = tt
    left_of (Some map) found = found.1

-- the page wasn't begun
pub no_side : (path : List ℕ) (before after : Seen) (t t' : Option (List ℕ)) (r : Status) (side : Option Shown) → after.open_at Page ≡ false → HasSide path before after t t' r side
no_side path before after t t' r side closed open_ = absurd (true≢false (sym open_ ∙ closed))

-- ---- a status, and whether memory ran out

run_out_as : (most : ℕ) (now after : Seen) (pieces : List (List ℕ)) (b : Bool) → IsCut most false now after pieces → IsCut most b now after pieces
run_out_as most now after pieces true c = cut_short most now after pieces c
run_out_as most now after pieces false c = c

pub cut_at_ok : (most : ℕ) (now after : Seen) (pieces : List (List ℕ)) (r : Status) → IsCut most false now after pieces → IsCut most (has_run_out r) now after pieces
cut_at_ok most now after pieces r c = run_out_as most now after pieces (has_run_out r) c

pub cut_at_err : (most : ℕ) (now after : Seen) (pieces : List (List ℕ)) (f : Failure) → (f ≡ failures.Write → IsCut most false now after pieces) → IsCut most true now after pieces → IsCut most (has_run_out (status_for f)) now after pieces
cut_at_err most now after pieces failures.Memory write short = short
cut_at_err most now after pieces failures.Write write short = write refl

-- with the room for a read that was asked for
pub cut_as_asked : (most most' : ℕ) (b : Bool) (now after : Seen) (pieces : List (List ℕ)) → most ≡ most' → IsCut most b now after pieces → IsCut most' b now after pieces
cut_as_asked most most' b now after pieces same c = subst (λ k. IsCut k b now after pieces) same c
