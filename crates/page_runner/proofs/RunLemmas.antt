-- From the parts of a run to its answer.
use Rattle.std.proofs.Common.{◌≡◌, ◌≢◌, ℕ, ◌≤◌, ◌+◌, List, [], ◌∷◌, ◌++◌, Bool, true, false, Option, Some, None, IfSome, flat_map, refl, sym, ap, subst, ◌∙◌, inl, inr, arith}
use Rattle.std.specs.Prelude.{◌⊎◌, IsSome, IsSomeAnd, IsTrue, Result}
use Rattle.serial.specs.declared.script.Line.{Line}
use Rattle.std.specs.Bool.{OnTrue, OnFalse}
use Rattle.std.proofs.lemmas.Bool.{OnFalse_at}
use Rattle.std.specs.Option.{option_map}
use Rattle.html_types.specs.declared.ending.Why.TheVariants as why
use Rattle.outside.specs.Outside.{Rose, Files, Begun, begins, Seen, KeepsOthers}
use Rattle.outside.specs.declared.traits.Failed.{Failed}
use Rattle.outside.specs.declared.traits.Port.{Port}
use Rattle.outside.specs.declared.traits.Port.TheVariants.{Entities, Page, Script, List as list_port}
use Rattle.standard.specs.Act.{Doc}
use Rattle.standard.specs.Entities.{Entities as Table}
use Rattle.serial.specs.Scripts.{Fetched}
use Rattle.serial.specs.Scripts as fetched
use Rattle.serial.specs.Serial.{World}
use Rattle.serial.specs.Output.{line_text}
use Rattle.standard_laws.proofs.Total.{has_outcome}
use Rattle.page_runner.specs.declared.command.TheConstants.{ENTITIES_LIMIT}
use Rattle.page_runner.specs.declared.command.Unread.{Unread}
use Rattle.page_runner.specs.declared.command.Unread.TheVariants as unread
use Rattle.page_turns.specs.declared.page.TheConstants.{PAGE_LIMIT}
use Rattle.page_turns.specs.declared.scripts.TheConstants.{SCRIPT_LIMIT}
use Rattle.parse_machine.specs.declared.end.End.{End}
use Rattle.parse_machine.specs.declared.end.End.TheVariants as end
use Rattle.page_turns.specs.declared.page.Failure.{Failure}
use Rattle.page_turns.specs.declared.page.Failure.TheVariants as failures
use Rattle.page_runner.specs.declared.status.Status.{Status}
use Rattle.page_runner.specs.declared.status.Status.TheVariants as status
use Rattle.command_words.specs.declared.words.MakeWords.{MakeWords}
use Rattle.command_words.specs.Words.{PageAsked, BatchAsked, Asked, for_page, for_make, for_batch}
use Rattle.page_batch.specs.declared.list.TheConstants.{LIST_LIMIT}
use Rattle.page_runner.specs.Making.{Makes, MakesTo}
use Rattle.page_turns.specs.Given.{Given, unmet, missing, faulted, got, FaultsRose, NoFault, AbsencesRose, file_at, MayGive, AreRead, ReadTo, untouched, unbegun, begun, KeepsEntities}
use Rattle.page_turns.specs.Calls.{CallsAt, EachWithin}
use Rattle.page_turns.specs.Taken.{Took, TookFront}
use Rattle.page_turns.specs.Scripts.{Folder, MayCome, path_of, IsAbsent, MayFetch, ReadScriptsTo, NamesOnce, none_begun, last}
use Rattle.parse_machine.specs.Ends.{result_of}
use Rattle.page_runner.specs.Manner.{Manner, manner_of, result_in, output_in}
use Rattle.page_runner.proofs.MannerLemmas.{front_in}
use Rattle.page_runner.specs.Shown.{status_of}
use Rattle.page_turns.specs.Pages.{PageRead, page_at, world_of, AreTaken, ReadsOn, GivenFirst, IsReadFrom, Ended, EndsWithScripts, FrontWithScripts}
use Rattle.page_turns.specs.Turns.{LeavesAlone}
use Rattle.page_runner.specs.Answers.{folder_by, IsPageOf, PageMet, MayMeetPage, MayGivePage, FaultsOver, FaultsMet, AwaitsOver, AwaitsEach, IsParsed, Answer, status_with, answer_to_page, answer_over, answer_to, table_of, status_for, Gives, is_answered, IsBegun, PageAnswers, ReadsPage, MayReadPage, ReadsTable, ReadsNone, answer_without, Answers, RunsTo, StopsAtEach, StopsAtLimits, BeginsEach, BeginsOnce, is_finished}
use Rattle.outside.proofs.KeepsLemmas.{keeps-same}
use Rattle.page_turns.proofs.KeepsLemmas.{begun_none, begun_then, begun_stays, begun_since, begun_is, rose-on, rose-stays, alone-same, alone-then, alone-others, entities-same, entities-then, entities-others}
use Rattle.page_turns.proofs.MeetLemmas.{names_none}
use Rattle.page_turns.proofs.CallLemmas.{called_none, called_then, called_stays, called_since, each_none, failed_since, unbegun_each}
use Rattle.page_turns.proofs.PageTakenLemmas.{took_nothing, front_nothing, took_then, front_then}

-- ---- a status and what was written

-- the status of an outcome is that of the parse's result
pub status_is : (o : End) → status_of o ≡ status_with (result_of o)
status_is end.Finished = refl
status_is (end.Refused why.BadUtf8) = refl
status_is (end.Refused why.Depth) = refl
status_is (end.Refused why.Writes) = refl
status_is (end.Refused why.Page) = refl
status_is (end.Refused why.Fault) = refl

pub gives_all : (o : End) (rose : Type 0) (t t' : Option (List ℕ)) (text : List ℕ) → Took t t' text → Gives rose t t' (status_of o, text) (status_of o)
gives_all end.Finished rose t t' text took = (refl, took)
gives_all (end.Refused why.BadUtf8) rose t t' text took = (refl, took)
gives_all (end.Refused why.Depth) rose t t' text took = (refl, took)
gives_all (end.Refused why.Writes) rose t t' text took = (refl, took)
gives_all (end.Refused why.Page) rose t t' text took = (refl, took)
gives_all (end.Refused why.Fault) rose t t' text took = (refl, took)

pub gives_failure : (f : Failure) (rose : Type 0) (t t' : Option (List ℕ)) (answer : Answer) → (f ≡ failures.Write → rose) → TookFront t t' answer.1 → Gives rose t t' answer (status_for f)
gives_failure failures.Memory rose t t' answer cause front = front
gives_failure failures.Write rose t t' answer cause front = (cause refl, front)

pub gives_read_fault : (rose : Type 0) (t t' : Option (List ℕ)) → t' ≡ t → Gives rose t t' (status.ReadFault, []) status.ReadFault
gives_read_fault rose t t' same = (refl, subst (λ k. Took t k []) (sym same) (took_nothing t))

pub gives_write_fault : (rose : Type 0) (t t' : Option (List ℕ)) (answer : Answer) → rose → t' ≡ t → Gives rose t t' answer status.WriteFault
gives_write_fault rose t t' answer cause same = (cause, subst (λ k. TookFront t k answer.1) (sym same) (front_nothing t answer.1))

-- behind a text that was written
gives_behind : (rose rose' : Type 0) (t now t' : Option (List ℕ)) (first : Status) (a b : List ℕ) (r : Status) → (rose → rose') → Took t now a → Gives rose now t' (first, b) r → Gives rose' t t' (first, a ++ b) r
gives_behind rose rose' t now t' first a b status.WriteFault on took gives = (on gives.0, front_then t now t' a b took gives.1)
gives_behind rose rose' t now t' first a b status.NoMemory on took gives = front_then t now t' a b took gives
gives_behind rose rose' t now t' first a b status.Done on took gives = (gives.0, took_then t now t' a b took gives.1)
gives_behind rose rose' t now t' first a b status.Usage on took gives = (gives.0, took_then t now t' a b took gives.1)
gives_behind rose rose' t now t' first a b status.Entities on took gives = (gives.0, took_then t now t' a b took gives.1)
gives_behind rose rose' t now t' first a b status.BadUtf8 on took gives = (gives.0, took_then t now t' a b took gives.1)
gives_behind rose rose' t now t' first a b (status.Limit which) on took gives = (gives.0, took_then t now t' a b took gives.1)
gives_behind rose rose' t now t' first a b status.ReadFault on took gives = (gives.0, took_then t now t' a b took gives.1)
gives_behind rose rose' t now t' first a b status.Absent on took gives = (gives.0, took_then t now t' a b took gives.1)
gives_behind rose rose' t now t' first a b status.List on took gives = (gives.0, took_then t now t' a b took gives.1)

pub failure_unanswered : (f : Failure) → IsTrue (is_answered (status_for f)) → ⊥
failure_unanswered failures.Memory e = cc
failure_unanswered failures.Write e = cc

pub failure_write : (f : Failure) → status_for f ≢ status.NoMemory → f ≡ failures.Write
failure_write failures.Memory some = absurd (some refl)
failure_write failures.Write some = refl

pub failure_unfinished : (f : Failure) → IsTrue (is_finished (status_for f)) → ⊥
failure_unfinished failures.Memory e = cc
failure_unfinished failures.Write e = cc

-- ---- the page

-- the page that a begun port gives is the file's
page_of : (path : List ℕ) (before after : Seen) (page : PageRead) → IfSome before.files (λ map. IsSome (map path) × (before.left Page ≡ map path)) → IsReadFrom before after page → IsPageOf path before after page
page_of path before after page found from = record {
  whole = λ e. whole_of before.files found (from.all e);
  no_fault = from.no_fault;
  cut = λ e. cut_by before.files found (from.cut e);
  cause = from.cause;
  first = from.first;
}
  where
    all_of : (file whole : Option (List ℕ)) (page : PageRead) → IsSome file → whole ≡ file → IfSome whole (λ bytes. bytes ≡ page.bytes) → file ≡ Some page.bytes
    all_of None whole page some same all = absurd (cc some)
    all_of (Some bytes) whole page some same all = let there = subst (λ w. IfSome w (λ bytes. bytes ≡ page.bytes)) same all in ap Some there

    cut_of : (file whole left : Option (List ℕ)) (page : PageRead) → IsSome file → whole ≡ file → AreTaken whole left page.bytes
        → (rest : List ℕ) × (file ≡ Some (page.bytes ++ rest)) × (left ≡ Some rest)
    cut_of None whole left page some same cut = absurd (cc some)
    cut_of (Some bytes) whole left page some same cut =
        let there = subst (λ w. IfSome w (λ all. (rest : List ℕ) × (all ≡ page.bytes ++ rest) × (left ≡ Some rest))) same cut.so_far in
        (there.0, ap Some there.1, there.2)

    whole_of : (files : Option Files) → IfSome files (λ map. IsSome (map path) × (before.left Page ≡ map path)) → IfSome (before.left Page) (λ bytes. bytes ≡ page.bytes)
        → IfSome (option_map (λ map. map path) files) (λ f. f ≡ Some page.bytes)
    whole_of None found all = tt
    whole_of (Some map) found all = all_of (map path) (before.left Page) page found.0 found.1 all

    cut_by : (files : Option Files) → IfSome files (λ map. IsSome (map path) × (before.left Page ≡ map path)) → AreTaken (before.left Page) (after.left Page) page.bytes
        → IfSome (option_map (λ map. map path) files) (λ f. (rest : List ℕ) × (f ≡ Some (page.bytes ++ rest)) × (after.left Page ≡ Some rest))
    cut_by None found cut = tt
    cut_by (Some map) found cut = cut_of (map path) (before.left Page) (after.left Page) page found.0 found.1 cut

-- and what the port has left of it is told
read_of : (files : Option Files) (path : List ℕ) (whole left : Option (List ℕ)) (read : List ℕ) → IfSome files (λ map. IsSome (map path) × (whole ≡ map path))
    → AreTaken whole left read → AreRead (option_map (λ map. map path) files) left read
read_of None path whole left read found taken = record { so_far = tt }
read_of (Some map) path whole left read found taken = record { so_far = there (map path) whole found.0 found.1 taken.so_far }
  where
    there : (file whole : Option (List ℕ)) → IsSome file → whole ≡ file → IfSome whole (λ all. (rest : List ℕ) × (all ≡ read ++ rest) × (left ≡ Some rest))
        → IsSomeAnd file (λ all. (rest : List ℕ) × (all ≡ read ++ rest) × (left ≡ Some rest))
    there None whole some same taken = absurd (cc some)
    there (Some all) whole some same taken = subst (λ w. IfSome w (λ all. (rest : List ℕ) × (all ≡ read ++ rest) × (left ≡ Some rest))) same taken

-- what is written of an outcome depends on the tree only where the parse finished
ended_text : (w : World) (page : PageRead) (doc : Doc) (lines : List Line) (t t' : Option (List ℕ)) (o : End) (end : Ended w page doc lines t t' o) (how : Manner)
    → output_in how end.outcome ≡ flat_map line_text end.outcome.last.side.lines ++ result_in how (result_of o) doc.tree
unfolding output_in
ended_text w page doc lines t t' o end how =
    ap (λ r. flat_map line_text end.outcome.last.side.lines ++ result_in how r end.outcome.last.side.doc.tree) end.result
    ∙ ap (λ x. flat_map line_text end.outcome.last.side.lines ++ result_in how (result_of o) x) end.tree

module _ (es : Table) (how : Manner) (path : List ℕ) (folder : Folder) (before after : Seen) (found : IsBegun path before) where
  pub may_page : (page : PageRead) → IsReadFrom before after page → IsPageOf path before after page
  may_page page from = page_of path before after page found.1 from

  -- the parse gave up
  pub page_gave_up : (k k' : ℕ) (t t' : Option (List ℕ)) (f : Failure) → (f ≡ failures.Write → Rose k k') → LeavesAlone folder.dir before after → FrontWithScripts es folder before after t t'
      → PageAnswers es how path folder before after k k' t t' (status_for f)
  page_gave_up k k' t t' f cause alone part =
      let end = has_outcome (page_at part.page) (world_of es part.scripts) in
      let met : PageMet = record { read = part.page; scripts = part.scripts; outcome = end.0 } in
      record {
        page = got met;
        may = (record { read = may_page part.page part.read_from; scripts = part.are_scripts }, alone.open_at ∙ found.0);
        faults = λ e. absurd (failure_unanswered f e);
        awaited = part.begins;
        parsed = end.1;
        gives = gives_failure f (Rose k k') t t' (answer_to_page how (got met)) cause (front_in how end.0 t t' (part.front how.dump end.0 end.1));
      }

  -- the parse ended, and what comes of it was written, or a front of it
  pub page_ended : (k now_k k' : ℕ) (t now' t' : Option (List ℕ)) (doc doc' : Doc) (lines : List Line) (o : End) (r : Status) → k ≤ now_k → LeavesAlone folder.dir before after → EndsWithScripts es folder before after doc lines t now' o → doc' ≡ doc
      → Gives (Rose now_k k') now' t' (status_of o, result_in how (result_of o) doc'.tree) r → PageAnswers es how path folder before after k k' t t' r
  page_ended k now_k k' t now' t' doc doc' lines o r later alone ends same gives' =
      let gives = subst (λ d. Gives (Rose now_k k') now' t' (status_of o, result_in how (result_of o) d.tree) r) same gives' in
      let end = ends.ended in
      let all = gives_behind (Rose now_k k') (Rose k k') t now' t' (status_of o) _ _ r (λ rose. rose-on k now_k k' later rose) end.took gives in
      record {
        page = got (record { read = ends.page; scripts = ends.scripts; outcome = end.outcome });
        may = (record { read = may_page ends.page ends.read_from; scripts = ends.are_scripts }, alone.open_at ∙ found.0);
        faults = λ _. ends.faults;
        awaited = ends.begins;
        parsed = end.comes;
        gives = subst (λ s. Gives (Rose k k') t t' (s, output_in how end.outcome) r) (status_is o ∙ ap status_with (sym end.result))
            (subst (λ l. Gives (Rose k k') t t' (status_of o, l) r) (sym (ended_text (world_of es ends.scripts) ends.page doc lines t now' o end how)) all);
      }

  page_read_to : ReadsOn (PAGE_LIMIT + 1) (before.left Page) (after.left Page) → ReadTo PAGE_LIMIT Page path before after
  page_read_to reads = begun reads.read (read_of before.files path (before.left Page) (after.left Page) reads.read found.1 reads.taken) reads.at_most

  -- what it read
  pub page_reads : LeavesAlone folder.dir before after → ReadsPage path folder.dir [] before after
  page_reads alone = record {
    others = alone.keeps;
    page = page_read_to alone.read;
    within = alone.within;
    scripts = alone.scripts;
    scripts_within = alone.scripts_within;
    begun = begun_none _ _ alone.begun;
    names = alone.names;
  }

-- ---- the run

-- What may come of a script after a call at another port may come of it over both.
absent_since : (file file' : Option (Option (List ℕ))) (rose rose' : Type 0) → file ≡ file' → (rose → rose') → IsAbsent file rose → IsAbsent file' rose'
absent_since None file' rose rose' same on none = subst (λ f. IsAbsent f rose') same (on none)
absent_since (Some f) file' rose rose' same on none = subst (λ f. IsAbsent f rose') same none

file_since : (path : List ℕ) (before now : Seen) → now.files ≡ before.files → file_at now path ≡ file_at before path
file_since path before now same = ap (λ files. option_map (λ map. map path) files) same

pub fetch_since : (port : Port) (dir : List ℕ) (before now after : Seen) (name : List ℕ) (f : Fetched) → (Script ≡ port → ⊥) → KeepsOthers port before now → MayFetch dir now after name f → MayFetch dir before after name f
fetch_since port dir before now after name (fetched.got bytes) other keeps may = subst (λ file. IfSome file (λ f. f ≡ Some bytes)) (file_since (path_of dir name) before now keeps.files) may
fetch_since port dir before now after name fetched.missing other keeps may =
    absent_since (file_at now (path_of dir name)) (file_at before (path_of dir name)) (AbsencesRose Script now after) (AbsencesRose Script before after)
    (file_since (path_of dir name) before now keeps.files) (λ r. rose-on _ _ _ (keeps.absences Script) r) may
fetch_since port dir before now after name fetched.faulted other keeps may =
    (rose-on _ _ _ (keeps.faults Script) may.0, failed_since Script (path_of dir name) before now after [] (called_none _ _ (keeps.calls Script other)) may.1)

-- and of one that comes early no call of the files tells
pub come_since : (port : Port) (folder : Folder) (before now after : Seen) (name : List ℕ) (f : Fetched) → (Script ≡ port → ⊥) → KeepsOthers port before now → MayCome folder now after name f → MayCome folder before after name f
come_since port folder before now after name f other keeps (inl may) = inl (fetch_since port folder.dir before now after name f other keeps may)
come_since port folder before now after name f other keeps (inr early) = inr early

-- What was given before a read failed was given since, too.
abbrev pub FirstSince : Seen → Seen → Seen → Type 0
FirstSince before now after = (bytes : List ℕ) → GivenFirst now after bytes → GivenFirst before after bytes

first_other : (before now after : Seen) → now.calls Page ≡ before.calls Page → FirstSince before now after
first_other before now after same bytes g = record { calls = g.calls; made = called_since _ _ _ g.calls same g.made; count = g.count }

-- the page was begun
pub first_begun : (path : List ℕ) (answer : Result Bool Failed) (before now after : Seen) → CallsAt Page before now (begins path answer ∷ []) → FirstSince before now after
first_begun path answer before now after made bytes g = record { calls = begins path answer ∷ g.calls; made = called_then _ _ _ (begins path answer ∷ []) g.calls made g.made; count = g.count }

-- and so the page is the file's
pub file_page_since : (port : Port) (path : List ℕ) (before now after : Seen) (page : PageRead) → KeepsOthers port before now → NoFault Page before now → FirstSince before now after → IsPageOf path now after page → IsPageOf path before after page
file_page_since port path before now after page keeps quiet first is = record {
  whole = λ e. subst (λ file. IfSome file (λ f. f ≡ Some page.bytes)) (file_since path before now keeps.files) (is.whole e);
  no_fault = λ e. is.no_fault e ∙ quiet;
  cut = λ e. subst (λ file. IfSome file (λ f. (rest : List ℕ) × (f ≡ Some (page.bytes ++ rest)) × (after.left Page ≡ Some rest))) (file_since path before now keeps.files) (is.cut e);
  cause = λ e. rose-on _ _ _ (keeps.faults Page) (is.cause e);
  first = λ e. first page.bytes (is.first e);
}

-- and may be met all the same
pub may_meet_since : (port : Port) (path : List ℕ) (folder : Folder) (before now after : Seen) (page : PageMet) → (Script ≡ port → ⊥) → KeepsOthers port before now → NoFault Page before now → FirstSince before now after → MayMeetPage path folder now after page
    → MayMeetPage path folder before after page
may_meet_since port path folder before now after page other keeps quiet first may = record {
  read = file_page_since port path before now after page.read keeps quiet first may.read;
  scripts = record { each = λ name. come_since port folder before now after name (page.scripts name) other keeps (may.scripts.each name) };
}

pub may_since : (port : Port) (path : List ℕ) (folder : Folder) (before now after : Seen) (page : Given PageMet) → (Script ≡ port → ⊥) → KeepsOthers port before now → NoFault Page before now → FirstSince before now after → MayGivePage path folder now after page
    → MayGivePage path folder before after page
may_since port path folder before now after unmet other keeps quiet first may = tt
may_since port path folder before now after missing other keeps quiet first may =
    (rose-on _ _ _ (keeps.absences Page) may.0, subst (λ file. IfSome file (λ f. f ≡ None)) (file_since path before now keeps.files) may.1, may.2 ∙ quiet, may.3)
may_since port path folder before now after faulted other keeps quiet first may = (rose-on _ _ _ (keeps.faults Page) may.0, may.1, may.2)
may_since port path folder before now after (got page) other keeps quiet first may = (may_meet_since port path folder before now after page other keeps quiet first may.0, may.1)

-- the scripts that were begun
awaits_over : (table : Option Table) (dir : List ℕ) (before now after : Seen) (page : PageMet) → now.begun Script ≡ before.begun Script → AwaitsOver table dir page now after → AwaitsOver table dir page before after
awaits_over None dir before now after page same none = begun_since _ _ _ [] same none
awaits_over (Some es) dir before now after page same awaits = record { names = awaits.names; begun = begun_since _ _ _ _ same awaits.begun; awaited = awaits.awaited }

awaits_since : (table : Option Table) (dir : List ℕ) (before now after : Seen) (page : Given PageMet) → now.begun Script ≡ before.begun Script → AwaitsEach table dir page now after → AwaitsEach table dir page before after
awaits_since table dir before now after unmet same none = begun_since _ _ _ [] same none
awaits_since table dir before now after missing same none = begun_since _ _ _ [] same none
awaits_since table dir before now after faulted same none = begun_since _ _ _ [] same none
awaits_since table dir before now after (got page) same awaits = awaits_over table dir before now after page same awaits

faults_over : (table : Option Table) (before now after : Seen) (page : PageMet) → NoFault Script before now → FaultsOver table page now after → FaultsOver table page before after
faults_over None before now after page quiet met = met ∙ quiet
faults_over (Some es) before now after page quiet (inl none) = inl (none ∙ quiet)
faults_over (Some es) before now after page quiet (inr stops) = inr stops

faults_since : (table : Option Table) (before now after : Seen) (page : Given PageMet) → NoFault Script before now → FaultsMet table page now after → FaultsMet table page before after
faults_since table before now after unmet quiet met = met ∙ quiet
faults_since table before now after missing quiet met = met ∙ quiet
faults_since table before now after faulted quiet met = met ∙ quiet
faults_since table before now after (got page) quiet met = faults_over table before now after page quiet met

-- the page was begun before
pub page_since : (es : Table) (how : Manner) (path : List ℕ) (folder : Folder) (before now after : Seen) (k k' : ℕ) (t t' : Option (List ℕ)) (result : Status) (path' : List ℕ) (answer : Result Bool Failed) → KeepsOthers Page before now → NoFault Page before now → CallsAt Page before now (begins path' answer ∷ [])
    → PageAnswers es how path folder now after k k' t t' result → PageAnswers es how path folder before after k k' t t' result
page_since es how path folder before now after k k' t t' result path' answer keeps quiet made answers = record {
  page = answers.page;
  may = may_since Page path folder before now after answers.page (λ e. cc e) keeps quiet (first_begun path' answer before now after made) answers.may;
  faults = λ e. faults_since (Some es) before now after answers.page (keeps.other_faults Script (λ e. cc e)) (answers.faults e);
  awaited = awaits_since (Some es) folder.dir before now after answers.page (keeps.begun Script (λ e. cc e)) answers.awaited;
  parsed = answers.parsed;
  gives = answers.gives;
}

-- it could not be begun
module _ (es : Table) (how : Manner) (path : List ℕ) (folder : Folder) (before after : Seen) (keeps : KeepsOthers Page before after) (k k' : ℕ) (t t' : Option (List ℕ)) where
  pub page_faulted : (r : Status) → FaultsRose Page before after → IfSome (after.left Page) (λ rest. rest ≡ []) → after.open_at Page ≡ false → Gives (Rose k k') t t' (status.ReadFault, []) r → PageAnswers es how path folder before after k k' t t' r
  page_faulted r rose none closed gives = record { page = faulted; may = (rose, none, closed); faults = λ _. keeps.other_faults Script (λ e. cc e); awaited = begun_none _ _ (keeps.begun Script (λ e. cc e)); parsed = tt; gives = gives }

  pub page_absent : (b : Bool) (path' : List ℕ) → b ≡ false → path' ≡ path → OnFalse b (Rose (before.absences Page) (after.absences Page)) → OnFalse b (IfSome before.files (λ map. map path' ≡ None)) → NoFault Page before after → after.open_at Page ≡ b → t' ≡ t
      → PageAnswers es how path folder before after k k' t t' status.Absent
  page_absent b path' is same rose none quiet closed stays = record {
    page = missing;
    may = (on_false b is rose, none_at before.files (subst (λ p. IfSome before.files (λ map. map p ≡ None)) same (on_false b is none)), quiet, closed ∙ is);
    faults = λ _. keeps.other_faults Script (λ e. cc e);
    awaited = begun_none _ _ (keeps.begun Script (λ e. cc e));
    parsed = tt;
    gives = (refl, subst (λ k. Took t k []) (sym stays) (took_nothing t));
  }
    where
      on_false : (b : Bool) {P : Type 0} → b ≡ false → OnFalse b P → P
      on_false true is h = absurd (cc is)
      on_false false is h = h

      none_at : (files : Option Files) → IfSome files (λ map. map path ≡ None) → IfSome (option_map (λ map. map path) files) (λ file. file ≡ None)
      none_at None none = tt
      none_at (Some map) none = none

  pub page_unbegun : (path' : List ℕ) → path' ≡ path → IfSome (after.left Page) (λ rest. rest ≡ []) → AbsencesRose Page before after ⊎ FaultsRose Page before after → Begun (before.begun Page) (after.begun Page) (path' ∷ [])
      → (answer : Result Bool Failed) → CallsAt Page before after (begins path' answer ∷ []) → ReadsPage path folder.dir (path ∷ []) before after
  page_unbegun path' same none cause paths answer made = record {
    others = entities-others Page before after (λ e. cc e) (λ e. cc e) keeps;
    page = unbegun none cause;
    within = unbegun_each Page path' before after PAGE_LIMIT answer made;
    scripts = none_begun (keeps.left Script (λ e. cc e));
    scripts_within = each_none SCRIPT_LIMIT Script before after (keeps.calls Script (λ e. cc e));
    begun = begun_is _ _ path' path same paths;
    names = names_none folder.dir _ _ (keeps.begun Script (λ e. cc e));
  }

  -- there is no such file
  pub page_absent_reads : (b : Bool) (path' : List ℕ) → b ≡ false → path' ≡ path → OnFalse b (IfSome (after.left Page) (λ rest. rest ≡ [])) → OnFalse b (Rose (before.absences Page) (after.absences Page))
      → Begun (before.begun Page) (after.begun Page) (path' ∷ []) → (answer : Result Bool Failed) → CallsAt Page before after (begins path' answer ∷ []) → ReadsPage path folder.dir (path ∷ []) before after
  page_absent_reads b path' is same none rose paths answer made = page_unbegun path' same (OnFalse_at is none) (inl (OnFalse_at is rose)) paths answer made

pub answers_on : (asked : PageAsked) (was is : List Seen) (before now after : Seen) (k k' : ℕ) (t t' : Option (List ℕ)) (result : Status) (es : Table) → ReadsTable asked.entities before now es → KeepsOthers Entities before now
    → PageAnswers es (manner_of asked) asked.page (folder_by asked.dir asked.preload was is) now after k k' t t' result → KeepsEntities now after → Answers asked was is before after k k' t t' result
answers_on asked was is before now after k k' t t' result es reads keeps answers keeps' = record {
  entities = got reads.bytes;
  page = answers.page;
  may_entities = (reads.given.0, keeps'.no_fault ∙ reads.given.1);
  may_page = may_since Entities asked.page (folder_by asked.dir asked.preload was is) before now after answers.page (λ e. cc e) keeps (keeps.other_faults Page (λ e. cc e)) (first_other before now after (keeps.calls Page (λ e. cc e))) answers.may;
  faults = λ e. subst (λ table. FaultsMet table answers.page before after) (sym reads.lists) (faults_since (Some es) before now after answers.page (keeps.other_faults Script (λ e. cc e)) (answers.faults e));
  awaited = subst (λ table. AwaitsEach table asked.dir answers.page before after) (sym reads.lists) (awaits_since (Some es) asked.dir before now after answers.page (keeps.begun Script (λ e. cc e)) answers.awaited);
  parsed = λ bytes' es' same table'.
      let same_bytes : reads.bytes ≡ bytes' = cc in
      let one : Some es ≡ Some es' = sym reads.lists ∙ ap table_of same_bytes ∙ table' in
      let are : es ≡ es' = cc in
      subst (λ e. IsParsed e answers.page) are answers.parsed;
  gives = subst (λ table. Gives (Rose k k') t t' (answer_over (manner_of asked) table answers.page) result) (sym reads.lists) answers.gives;
}

-- there is no table
module _ (asked : PageAsked) (was is : List Seen) (before after : Seen) (keeps : KeepsOthers Entities before after) (k k' : ℕ) (t t' : Option (List ℕ)) (r : Status) where
  answers_early : (given : Given (List ℕ)) → MayGive ENTITIES_LIMIT Entities asked.entities before after given → Gives (Rose k k') t t' (answer_to (manner_of asked) given unmet) r → Answers asked was is before after k k' t t' r
  answers_early given may gives = record {
    entities = given;
    page = unmet;
    may_entities = may;
    may_page = tt;
    faults = λ _. keeps.other_faults Script (λ e. cc e);
    awaited = begun_none _ _ (keeps.begun Script (λ e. cc e));
    parsed = λ bytes es same table. tt;
    gives = gives;
  }

  pub answers_without : (u : Unread) → ReadsNone asked.entities before after u → Gives (Rose k k') t t' (answer_without u) r → Answers asked was is before after k k' t t' r
  answers_without unread.NoMemory none gives = answers_early unmet tt gives
  answers_without unread.Missing none gives = answers_early missing none gives
  answers_without unread.Faulted none gives = answers_early faulted none gives
  answers_without unread.NotTable none gives =
      answers_early (got none.0) none.1 (subst (λ table. Gives (Rose k k') t t' (answer_over (manner_of asked) table unmet) r) (sym none.2) gives)

pub none_is : (path path' : List ℕ) (before after : Seen) (u : Unread) → path ≡ path' → ReadsNone path before after u → ReadsNone path' before after u
none_is path path' before after u same none = subst (λ p. ReadsNone p before after u) same none

pub table_is : (path path' : List ℕ) (before after : Seen) (es : Table) → path ≡ path' → ReadsTable path before after es → ReadsTable path' before after es
table_is path path' before after es same reads = subst (λ p. ReadsTable p before after es) same reads

-- how far the entities were read, where the page is read behind them
pub read_still : (limit : ℕ) (path : List ℕ) (before now after : Seen) → ReadTo limit Entities path before now → KeepsEntities now after → ReadTo limit Entities path before after
read_still limit path before now after (untouched same) keeps = untouched (keeps.left ∙ same)
read_still limit path before now after (unbegun none (inl rose)) keeps =
    unbegun (subst (λ l. IfSome l (λ rest. rest ≡ [])) (sym keeps.left) none) (inl (rose-stays _ _ _ rose (keeps.absences Entities)))
read_still limit path before now after (unbegun none (inr rose)) keeps =
    unbegun (subst (λ l. IfSome l (λ rest. rest ≡ [])) (sym keeps.left) none) (inr (rose-stays _ _ _ rose (keeps.faults Entities)))
read_still limit path before now after (begun read taken most) keeps =
    begun read (subst (λ l. AreRead (file_at before path) l read) (sym keeps.left) taken) most

-- and how far another port's file
pub read_since : (limit : ℕ) (port other : Port) (path : List ℕ) (before now after : Seen) → now.left other ≡ before.left other → KeepsOthers port before now → ReadTo limit other path now after → ReadTo limit other path before after
read_since limit port other path before now after left keeps (untouched same) = untouched (same ∙ left)
read_since limit port other path before now after left keeps (unbegun none (inl rose)) = unbegun none (inl (rose-on _ _ _ (keeps.absences other) rose))
read_since limit port other path before now after left keeps (unbegun none (inr rose)) = unbegun none (inr (rose-on _ _ _ (keeps.faults other) rose))
read_since limit port other path before now after left keeps (begun read taken most) =
    begun read (subst (λ file. AreRead file (after.left other) read) (file_since path before now keeps.files) taken) most

pub page_since_entities : (path : List ℕ) (before now after : Seen) → KeepsOthers Entities before now → ReadTo PAGE_LIMIT Page path now after → ReadTo PAGE_LIMIT Page path before after
page_since_entities path before now after keeps reads = read_since PAGE_LIMIT Entities Page path before now after (keeps.left Page (λ e. cc e)) keeps reads

-- the scripts were read behind the entities, or behind the page's beginning
pub scripts_since : (port : Port) (dir : List ℕ) (before now after : Seen) → now.left Script ≡ before.left Script → KeepsOthers port before now → ReadScriptsTo SCRIPT_LIMIT dir now after → ReadScriptsTo SCRIPT_LIMIT dir before after
scripts_since port dir before now after left keeps (none_begun same) = none_begun (same ∙ left)
scripts_since port dir before now after left keeps (last name lawful reads) = last name lawful (read_since SCRIPT_LIMIT port Script (path_of dir name) before now after left keeps reads)

pub scripts_since_entities : (dir : List ℕ) (before now after : Seen) → KeepsOthers Entities before now → ReadScriptsTo SCRIPT_LIMIT dir now after → ReadScriptsTo SCRIPT_LIMIT dir before after
scripts_since_entities dir before now after keeps reads = scripts_since Entities dir before now after (keeps.left Script (λ e. cc e)) keeps reads

pub scripts_since_page : (dir : List ℕ) (before now after : Seen) → KeepsOthers Page before now → ReadScriptsTo SCRIPT_LIMIT dir now after → ReadScriptsTo SCRIPT_LIMIT dir before after
scripts_since_page dir before now after keeps reads = scripts_since Page dir before now after (keeps.left Script (λ e. cc e)) keeps reads

-- The page's file was read since it was begun.
none_read : (files : Option Files) (path : List ℕ) (left left' : Option (List ℕ)) → IfSome files (λ map. IsSome (map path) × (left ≡ map path)) → left' ≡ left → AreRead (option_map (λ map. map path) files) left' []
none_read None path left left' found same = record { so_far = tt }
none_read (Some map) path left left' found same = record { so_far = there (map path) left' found.0 (same ∙ found.1) }
  where
    there : (file left : Option (List ℕ)) → IsSome file → left ≡ file → IsSomeAnd file (λ all. (rest : List ℕ) × (all ≡ [] ++ rest) × (left ≡ Some rest))
    there None left some same = absurd (cc some)
    there (Some all) left some same = (all, refl, same)

pub begun_page_read : (path : List ℕ) (before now after : Seen) → KeepsOthers Page before now → IsBegun path now → ReadTo PAGE_LIMIT Page path now after → ReadTo PAGE_LIMIT Page path before after
begun_page_read path before now after keeps found (untouched same) =
    begun [] (subst (λ file. AreRead file (after.left Page) []) (file_since path before now keeps.files) (none_read now.files path (now.left Page) (after.left Page) found.1 same)) (omega arith)
begun_page_read path before now after keeps found (unbegun none (inl rose)) = unbegun none (inl (rose-on _ _ _ (keeps.absences Page) rose))
begun_page_read path before now after keeps found (unbegun none (inr rose)) = unbegun none (inr (rose-on _ _ _ (keeps.faults Page) rose))
begun_page_read path before now after keeps found (begun read taken most) =
    begun read (subst (λ file. AreRead file (after.left Page) read) (file_since path before now keeps.files) taken) most

-- where the entities alone were read
each_since : (limit : ℕ) (port : Port) (before now after : Seen) → now.calls port ≡ before.calls port → EachWithin limit port now after → EachWithin limit port before after
each_since limit port before now after same each = record { calls = each.calls; made = called_since _ _ _ each.calls same each.made; within = each.within }

each_still : (limit : ℕ) (port : Port) (before now after : Seen) → after.calls port ≡ now.calls port → EachWithin limit port before now → EachWithin limit port before after
each_still limit port before now after same each = record { calls = each.calls; made = called_stays _ _ _ each.calls each.made same; within = each.within }

pub stops_early : (asked : PageAsked) (before after : Seen) → ReadTo ENTITIES_LIMIT Entities asked.entities before after → EachWithin ENTITIES_LIMIT Entities before after → KeepsOthers Entities before after → StopsAtEach asked before after
stops_early asked before after reads within keeps = record {
  list = alone-others list_port Entities before after (λ e. cc e) keeps;
  entities = reads;
  page = untouched (keeps.left Page (λ e. cc e));
  scripts = none_begun (keeps.left Script (λ e. cc e));
  entities_within = within;
  page_within = each_none PAGE_LIMIT Page before after (keeps.calls Page (λ e. cc e));
  scripts_within = each_none SCRIPT_LIMIT Script before after (keeps.calls Script (λ e. cc e));
}

-- the page and its scripts were read behind them
pub stops_on : (asked : PageAsked) (before now after : Seen) → ReadTo ENTITIES_LIMIT Entities asked.entities before now → EachWithin ENTITIES_LIMIT Entities before now → KeepsOthers Entities before now
    → ReadsPage asked.page asked.dir (asked.page ∷ []) now after → StopsAtEach asked before after
stops_on asked before now after reads within keeps page = record {
  list = alone-then list_port before now after (alone-others list_port Entities before now (λ e. cc e) keeps) page.others.list;
  entities = read_still ENTITIES_LIMIT asked.entities before now after reads page.others;
  page = page_since_entities asked.page before now after keeps page.page;
  scripts = scripts_since_entities asked.dir before now after keeps page.scripts;
  entities_within = each_still ENTITIES_LIMIT Entities before now after page.others.calls within;
  page_within = each_since PAGE_LIMIT Page before now after (keeps.calls Page (λ e. cc e)) page.within;
  scripts_within = each_since SCRIPT_LIMIT Script before now after (keeps.calls Script (λ e. cc e)) page.scripts_within;
}

-- what was begun at the ports
pub begins_early : (asked : PageAsked) (path : List ℕ) (before after : Seen) → path ≡ asked.entities → Begun (before.begun Entities) (after.begun Entities) (path ∷ []) → KeepsOthers Entities before after → BeginsEach asked before after
begins_early asked path before after same paths keeps = record {
  entities = inr (begun_is _ _ path asked.entities same paths);
  page = inl (begun_none _ _ (keeps.begun Page (λ e. cc e)));
  scripts = names_none asked.dir _ _ (keeps.begun Script (λ e. cc e));
}

pub begins_on : (asked : PageAsked) (path : List ℕ) (before now after : Seen) → path ≡ asked.entities → Begun (before.begun Entities) (now.begun Entities) (path ∷ []) → KeepsOthers Entities before now
    → ReadsPage asked.page asked.dir (asked.page ∷ []) now after → BeginsEach asked before after
begins_on asked path before now after same paths keeps page = record {
  entities = inr (begun_stays _ _ _ _ (begun_is _ _ path asked.entities same paths) page.others.begun);
  page = inr (begun_since _ _ _ _ (keeps.begun Page (λ e. cc e)) page.begun);
  scripts = subst (λ b. NamesOnce asked.dir b (after.begun Script)) (keeps.begun Script (λ e. cc e)) page.names;
}

-- the page was begun, and read
pub reads_since : (path dir path' : List ℕ) (before now after : Seen) → path' ≡ path → KeepsOthers Page before now → Begun (before.begun Page) (now.begun Page) (path' ∷ []) → (answer : Result Bool Failed) → CallsAt Page before now (begins path' answer ∷ []) → IsBegun path now
    → ReadsPage path dir [] now after → ReadsPage path dir (path ∷ []) before after
reads_since path dir path' before now after same keeps paths answer made found reads = record {
  others = entities-then before now after (entities-others Page before now (λ e. cc e) (λ e. cc e) keeps) reads.others;
  page = begun_page_read path before now after keeps found reads.page;
  within = record { calls = begins path' answer ∷ reads.within.calls; made = called_then _ _ _ (begins path' answer ∷ []) reads.within.calls made reads.within.made; within = λ k. reads.within.within };
  scripts = scripts_since_page dir before now after keeps reads.scripts;
  scripts_within = each_since SCRIPT_LIMIT Script before now after (keeps.calls Script (λ e. cc e)) reads.scripts_within;
  begun = begun_then _ _ _ (path ∷ []) [] (begun_is _ _ path' path same paths) reads.begun;
  names = subst (λ b. NamesOnce dir b (after.begun Script)) (keeps.begun Script (λ e. cc e)) reads.names;
}

-- nothing was read
pub reads_nothing : (path dir : List ℕ) (before : Seen) → ReadsPage path dir [] before before
reads_nothing path dir before = record {
  others = entities-same before;
  page = untouched refl;
  within = record { calls = []; made = called_none _ _ refl; within = tt };
  scripts = none_begun refl;
  scripts_within = each_none SCRIPT_LIMIT Script before before refl;
  begun = begun_none _ _ refl;
  names = names_none dir _ _ refl;
}

pub page_no_memory : (es : Table) (how : Manner) (path : List ℕ) (folder : Folder) (before : Seen) (k : ℕ) (t : Option (List ℕ)) → PageAnswers es how path folder before before k k t t status.NoMemory
page_no_memory es how path folder before k t = record { page = unmet; may = tt; faults = λ _. refl; awaited = begun_none _ _ refl; parsed = tt; gives = front_nothing t [] }

-- ---- the words

pub runs_usage : (asked : Option Asked) (was is : List Seen) (before : Seen) (k : ℕ) (t : Option (List ℕ)) → asked ≡ None → RunsTo asked was is before before k k t t status.Usage
runs_usage asked was is before k t none = subst (λ a. RunsTo a was is before before k k t t status.Usage) (sym none) (refl, took_nothing t)

pub runs_no_memory : (asked : Option Asked) (was is : List Seen) (before : Seen) (k : ℕ) (t : Option (List ℕ)) → RunsTo asked was is before before k k t t status.NoMemory
runs_no_memory None was is before k t = front_nothing t []
runs_no_memory (Some (for_make asked)) was is before k t = tt
runs_no_memory (Some (for_batch asked)) was is before k t = tt
runs_no_memory (Some (for_page asked)) was is before k t = answers_without asked was is before before (keeps-same Entities before) k k t t status.NoMemory unread.NoMemory tt (front_nothing t [])

pub runs_asked : (asked : Option Asked) (a : PageAsked) (was is : List Seen) (before after : Seen) (k k' : ℕ) (t t' : Option (List ℕ)) (result : Status) → Some (for_page a) ≡ asked → Answers a was is before after k k' t t' result → RunsTo asked was is before after k k' t t' result
runs_asked asked a was is before after k k' t t' result same answers = subst (λ o. RunsTo o was is before after k k' t t' result) same answers

pub begins_nothing : (asked : Option Asked) (before : Seen) → BeginsOnce asked before before
begins_nothing None before = refl
begins_nothing (Some (for_make asked)) before = refl
begins_nothing (Some (for_batch asked)) before = record { entities = inl (begun_none _ _ refl); list = inl (begun_none _ _ refl); pages = inl (begun_none _ _ refl); scripts = names_none asked.dir _ _ refl }
begins_nothing (Some (for_page asked)) before = record { entities = inl (begun_none _ _ refl); page = inl (begun_none _ _ refl); scripts = names_none asked.dir _ _ refl }

pub begins_asked : (asked : Option Asked) (a : Asked) (before after : Seen) → Some a ≡ asked → BeginsOnce (Some a) before after → BeginsOnce asked before after
begins_asked asked a before after is once = subst (λ o. BeginsOnce o before after) is once

pub stops_at_once : (asked : Option Asked) (before : Seen) → StopsAtLimits asked before before
stops_at_once None before = (refl, refl)
stops_at_once (Some (for_make asked)) before = (refl, refl)
stops_at_once (Some (for_batch asked)) before = record {
  entities = untouched refl;
  list = untouched refl;
  scripts = none_begun refl;
  entities_within = each_none ENTITIES_LIMIT Entities before before refl;
  list_within = each_none LIST_LIMIT list_port before before refl;
  page_within = each_none PAGE_LIMIT Page before before refl;
  scripts_within = each_none SCRIPT_LIMIT Script before before refl;
}
stops_at_once (Some (for_page asked)) before = record {
  list = alone-same list_port before;
  entities = untouched refl;
  page = untouched refl;
  scripts = none_begun refl;
  entities_within = each_none ENTITIES_LIMIT Entities before before refl;
  page_within = each_none PAGE_LIMIT Page before before refl;
  scripts_within = each_none SCRIPT_LIMIT Script before before refl;
}

pub stops_asked : (asked : Option Asked) (a : Asked) (before after : Seen) → Some a ≡ asked → StopsAtLimits (Some a) before after → StopsAtLimits asked before after
stops_asked asked a before after is stops = subst (λ o. StopsAtLimits o before after) is stops

-- of the command `make` no more is said by these
pub runs_made : (asked : Option Asked) (a : MakeWords) (was is : List Seen) (before after : Seen) (k k' : ℕ) (t t' : Option (List ℕ)) (result : Status) → Some (for_make a) ≡ asked → RunsTo asked was is before after k k' t t' result
runs_made asked a was is before after k k' t t' result same = subst (λ o. RunsTo o was is before after k k' t t' result) same tt

-- what comes of a list is said elsewhere
pub runs_listed : (asked : Option Asked) (a : BatchAsked) (was is : List Seen) (before after : Seen) (k k' : ℕ) (t t' : Option (List ℕ)) (result : Status) → Some (for_batch a) ≡ asked → RunsTo asked was is before after k k' t t' result
runs_listed asked a was is before after k k' t t' result same = subst (λ o. RunsTo o was is before after k k' t t' result) same tt

pub makes_listed : (asked : Option Asked) (a : BatchAsked) (before after : Seen) (k k' : ℕ) (t t' : Option (List ℕ)) (result : Status) → Some (for_batch a) ≡ asked → MakesTo asked before after k k' t t' result
makes_listed asked a before after k k' t t' result is = subst (λ o. MakesTo o before after k k' t t' result) is tt

pub makes_none : (asked : Option Asked) (before after : Seen) (k k' : ℕ) (t t' : Option (List ℕ)) (result : Status) → asked ≡ None → MakesTo asked before after k k' t t' result
makes_none asked before after k k' t t' result is = subst (λ o. MakesTo o before after k k' t t' result) (sym is) tt

pub makes_page : (asked : Option Asked) (a : PageAsked) (before after : Seen) (k k' : ℕ) (t t' : Option (List ℕ)) (result : Status) → Some (for_page a) ≡ asked → MakesTo asked before after k k' t t' result
makes_page asked a before after k k' t t' result is = subst (λ o. MakesTo o before after k k' t t' result) is tt

pub makes_made : (asked : Option Asked) (a : MakeWords) (before : Seen) (k k' : ℕ) (t t' : Option (List ℕ)) (result : Status) → Some (for_make a) ≡ asked → Makes a (Rose k k') t t' result → MakesTo asked before before k k' t t' result
makes_made asked a before k k' t t' result is makes = subst (λ o. MakesTo o before before k k' t t' result) is (refl, makes)

-- ---- small steps

-- the file that was begun is there
pub found_there : (b : Bool) (before now : Seen) (path path' : List ℕ) → b ≡ true → path ≡ path' → OnTrue b (IfSome before.files (λ map. IsSome (map path) × (now.left Page ≡ map path))) → now.open_at Page ≡ b → KeepsOthers Page before now → IsBegun path' now
found_there b before now path path' is same found opened keeps =
    let there = subst (λ b. OnTrue b (IfSome before.files (λ map. IsSome (map path) × (now.left Page ≡ map path)))) is found in (
      opened ∙ is,
      subst (λ files. IfSome files (λ map. IsSome (map path') × (now.left Page ≡ map path'))) (sym keeps.files)
          (subst (λ p. IfSome before.files (λ map. IsSome (map p) × (now.left Page ≡ map p))) same there),
    )

pub read_to_is : (limit : ℕ) (port : Port) (path path' : List ℕ) (before after : Seen) → path ≡ path' → ReadTo limit port path before after → ReadTo limit port path' before after
read_to_is limit port path path' before after same reads = subst (λ p. ReadTo limit port p before after) same reads

-- ---- where memory may have run out before the page was begun

pub may_others : (path dir : List ℕ) (now after : Seen) → MayReadPage path dir now after → KeepsEntities now after
may_others path dir now after (inl page) = page.others
may_others path dir now after (inr same) = subst (KeepsEntities now) (sym same) (entities-same now)

pub stops_may : (asked : PageAsked) (before now after : Seen) → ReadTo ENTITIES_LIMIT Entities asked.entities before now → EachWithin ENTITIES_LIMIT Entities before now → KeepsOthers Entities before now
    → MayReadPage asked.page asked.dir now after → StopsAtEach asked before after
stops_may asked before now after reads within keeps (inl page) = stops_on asked before now after reads within keeps page
stops_may asked before now after reads within keeps (inr same) = subst (StopsAtEach asked before) (sym same) (stops_early asked before now reads within keeps)

pub begins_may : (asked : PageAsked) (path : List ℕ) (before now after : Seen) → path ≡ asked.entities → Begun (before.begun Entities) (now.begun Entities) (path ∷ []) → KeepsOthers Entities before now
    → MayReadPage asked.page asked.dir now after → BeginsEach asked before after
begins_may asked path before now after same paths keeps (inl page) = begins_on asked path before now after same paths keeps page
begins_may asked path before now after same paths keeps (inr still) = subst (BeginsEach asked before) (sym still) (begins_early asked path before now same paths keeps)
