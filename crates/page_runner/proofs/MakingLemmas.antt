-- What comes of the page that is made from a number.
use Rattle.std.proofs.Common.{◌≡◌, ◌≢◌, ◌≤◌, ◌-◌, ◌^◌, ℕ, Bool, true, false, List, [], ◌++◌, Option, Some, None, IfSome, refl, sym, ap, subst, ◌∙◌, inl, inr, true≢false, arith, codes, get_or, append_assoc}
use Rattle.std.specs.Prelude.{◌⊎◌, min, decimal, encode_utf8_all, OnOk, if◌then◌else◌}
use Rattle.std.specs.Prelude.{Result as ResultOf}
use Rattle.std.specs.Char.{encode_utf8}
use Rattle.std.specs.Str.{chars, IsUtf8}
use Rattle.std.proofs.lemmas.Str.{encodes-chars, encodes-IsAscii}
use Rattle.std.specs.Str.{bytes_eq}
use Rattle.std.specs.Option.{option_map}
use Rattle.std.proofs.Math.Path.{fun_ext}
use Rattle.html_types.specs.Text.{same_text}
use Rattle.html_types.specs.declared.ending.Ending.{Ending}
use Rattle.html_types.specs.declared.ending.Ending.TheVariants.{End}
use Rattle.html_types.specs.declared.ending.Why.TheVariants as why
use Rattle.std.specs.Cmp.Lexicographic.{bytes_decides}
use Rattle.outside.specs.Outside.{Rose, Files, Seen}
use Rattle.outside.specs.Memory.{files_of}
use Rattle.outside.specs.declared.never_fails.NeverFails.{NeverFails}
use Rattle.outside.specs.declared.traits.Port.TheVariants.{Page, Script}
use Rattle.standard.specs.Entities.{Entities}
use Rattle.serial.specs.Scripts.{Fetched, got, missing}
use Rattle.serial.specs.Serial.{World, Moment, reading, over, Result, finished, refused, Outcome, IsSerial, first}
use Rattle.standard_laws.proofs.Total.{has_outcome}
use Rattle.standard_laws.proofs.Fuel.{one_outcome}
use Rattle.core_definitions.specs.Verdict.{Watch, first_watch, Watches, stays, goes_on, AreVerdicts}
use Rattle.core_definitions.specs.Core.{whole_page}
use Rattle.core_definitions.specs.Desk.{done, Desk}
use Rattle.core_laws.proofs.Standing.{ends-as-serial}
use Rattle.tally_laws.specs.TallyLaws.{Tallies}
use Rattle.tally_laws.proofs.Tallying.{tallies-as-serial}
use Rattle.core_steps.specs.Journals.{found}
use Rattle.core_steps.specs.Sides.{Shown, ShowsIn, IsReplayed}
use Rattle.core_steps.specs.declared.tally.Tally.{Tally}
use Rattle.core_steps.specs.Tallies.{nodes_below, AreInHand, tally_of, IsTallyOf}
use Rattle.page_maker.specs.Made.{made_page, named_script, made_scripts}
use Rattle.page_maker.specs.declared.page.MadeScript.{MadeScript as ScriptFile}
use Rattle.made_laws.proofs.MadePages.{is-in_ascii, is-read_as_made}
use Rattle.parse_machine.specs.declared.end.End.TheVariants as end
use Rattle.page_turns.specs.Given.{Given, unmet, missing as absent, faulted as failed, got as given, file_at, FaultsRose, NoFault}
use Rattle.page_turns.specs.Taken.{Took}
use Rattle.page_runner.proofs.HelpLemmas.{come_none}
use Rattle.page_turns.specs.Scripts.{Folder, folder_with, path_of, fetched_of, AreScriptsOf, MayMeet, Alike}
use Rattle.page_turns.specs.Pages.{PageRead, page_at, world_of, IsPageBehind}
use Rattle.page_turns.proofs.SameWorlds.{alike-refl, alike-sym, moment-same, serial-back}
use Rattle.page_turns.proofs.DeskLemmas.{shows-phase}
use Rattle.page_turns.proofs.ReachLemmas.{found_or, scripts_with, knows-met, IsRun, is_run}
use Rattle.page_runner.specs.declared.making.MadeRun.{MadeRun}
use Rattle.page_runner.specs.declared.making.MadeRun.TheVariants as made
use Rattle.page_runner.specs.declared.status.Status.{Status}
use Rattle.page_runner.specs.declared.status.Status.TheVariants as status
use Rattle.command_words.specs.declared.words.MakeWords.{MakeWords}
use Rattle.command_words.specs.Words.{Asked, for_page, for_make, for_batch}
use Rattle.page_runner.specs.Manner.{manner}
use Rattle.page_runner.specs.Answers.{IsPageOf, PageMet, MayGivePage, IsParsed, Answer, status_with, answer_to_page, Gives, PageAnswers}
use Rattle.page_runner.specs.Shown.{status_of}
use Rattle.page_runner.specs.Reports.{Reports}
use Rattle.page_runner.specs.Making.{page_made, file_among, made_world, AreNumbers, tally_text, IsLineOf, Makes, MakesTo, Adds, AreFilesOf, IsRefusal, IsRunOf, Tells}
use Rattle.page_turns.proofs.PageTakenLemmas.{took_nothing, front_nothing}
use Rattle.page_runner.proofs.RunLemmas.{status_is, gives_all}
use Rattle.page_runner.proofs.Complete.{scripts_told, fetch_told, some_at}

-- a made page's scripts, which no helper fetches
abbrev in_scripts : Folder
in_scripts = folder_with (codes "scripts") []

-- ---- what is written

is-done : (r : Result) → status.Done ≡ status_with r → r ≡ finished
is-done finished e = refl
is-done (refused why.BadUtf8) e = absurd (cc e)
is-done (refused why.Depth) e = absurd (cc e)
is-done (refused why.Writes) e = absurd (cc e)
is-done (refused why.Page) e = absurd (cc e)
is-done (refused why.Fault) e = absurd (cc e)

-- the numbers
pub makes-finished : (asked : MakeWords) (n : Tally) (rose : Type 0) (t t' : Option (List ℕ)) (r : Status) → IsRunOf asked (made.Finished n) → Gives rose t t' (status.Done, tally_text n) r → Makes asked rose t t' r
makes-finished asked n rose t t' r (o, comes, (is, numbers)) gives = record {
  outcome = o;
  comes = comes;
  text = tally_text n;
  line = inl (subst (λ k. IsLineOf asked o k (tally_text n)) (sym is) (n, numbers, refl));
  gives = subst (λ k. Gives rose t t' (status_with k, tally_text n) r) (sym is) gives;
}

-- or nothing, where the parse was refused
pub makes-refused : (asked : MakeWords) (outcome : Status) (rose : Type 0) (t t' : Option (List ℕ)) (r : Status) → IsRunOf asked (made.Refused outcome) → Gives rose t t' (outcome, []) r → Makes asked rose t t' r
makes-refused asked outcome rose t t' r (o, comes, (w, is, end)) gives = record {
  outcome = o;
  comes = comes;
  text = [];
  line = inl (subst (λ k. IsLineOf asked o k []) (sym is) refl);
  gives = subst (λ k. Gives rose t t' (status_with k, []) r) (sym is) (subst (λ s. Gives rose t t' (s, []) r) end gives);
}

pub refusal-of : (asked : MakeWords) (outcome : Status) → IsRunOf asked (made.Refused outcome) → IsRefusal outcome
refusal-of asked outcome (o, comes, (w, is, end)) = (w, end)

pub gives-refusal : (outcome : Status) (rose : Type 0) (t t' : Option (List ℕ)) → IsRefusal outcome → t' ≡ t → Gives rose t t' (outcome, []) outcome
gives-refusal outcome rose t t' (w, is) same =
    let all : Gives rose t t' (status_of (end.Refused w), []) (status_of (end.Refused w)) = gives_all (end.Refused w) rose t t' [] (subst (λ k. Took t k []) (sym same) (took_nothing t)) in
    subst (λ s. Gives rose t t' (s, []) s) (status_is (end.Refused w) ∙ sym is) all

-- memory ran out before
pub makes-nothing : (asked : MakeWords) (rose : Type 0) (t : Option (List ℕ)) → Makes asked rose t t status.NoMemory
makes-nothing asked rose t =
    let (o, comes) = has_outcome (page_made asked) made_world in
    record { outcome = o; comes = comes; text = []; line = inr (refl, refl); gives = front_nothing t [] }

-- or before it was known what the words ask for
pub makes-no_memory : (words : Option Asked) (before : Seen) (k : ℕ) (t : Option (List ℕ)) → MakesTo words before before k k t t status.NoMemory
makes-no_memory None before k t = tt
makes-no_memory (Some (for_page asked)) before k t = tt
makes-no_memory (Some (for_batch asked)) before k t = tt
makes-no_memory (Some (for_make asked)) before k t = (refl, makes-nothing asked (Rose k k) t)

-- ---- the world of the files

-- the scripts of the folder are the page's own
pub scripts-are : (map : Files) → ((name : List ℕ) → fetched_of (map (path_of (codes "scripts") name)) ≡ file_among made_scripts name) → (λ name. fetched_of (map (path_of (codes "scripts") name))) ≡ file_among made_scripts
scripts-are map each = fun_ext each

-- what is known of the page's scripts along a parse in an alike world
watches-back : (w : World) (scripts : List ℕ → Fetched) → ((name : List ℕ) → Alike (w.scripts name) (scripts name)) → (e : Ending) (a b : Moment) (u x : Watch) →
    Watches e (record { entities = w.entities; scripts = scripts }) a u b x → Watches e w a u b x
watches-back w scripts alike e a b u x (stays m y) = stays m y
watches-back w scripts alike e a b u x (goes_on n m m1 m' y y1 y' q k rest) =
    goes_on n m m1 m' y y1 y' (moment-same w scripts alike n e m ∙ q) k (watches-back w scripts alike e m1 m' y1 y' rest)

-- ---- the parse of the page

-- nothing else comes
given-or : (t t' : Option (List ℕ)) (rose : Type 0) (answer : Answer) (r : Status) → Gives rose t t' answer r → (rose → ⊥) → (r ≡ answer.0) ⊎ (r ≡ status.NoMemory)
given-or t t' rose answer status.WriteFault gives never = absurd (never gives.0)
given-or t t' rose answer status.NoMemory gives never = inr refl
given-or t t' rose answer status.Done gives never = inl gives.0
given-or t t' rose answer status.Usage gives never = inl gives.0
given-or t t' rose answer status.Entities gives never = inl gives.0
given-or t t' rose answer status.BadUtf8 gives never = inl gives.0
given-or t t' rose answer (status.Limit which) gives never = inl gives.0
given-or t t' rose answer status.ReadFault gives never = inl gives.0
given-or t t' rose answer status.Absent gives never = inl gives.0
given-or t t' rose answer status.List gives never = inl gives.0

pub never-rose : Rose 0 0 → ⊥
never-rose (inl less) = absurd (omega (arith, less))
never-rose (inr last) = absurd (omega (arith, last))

-- how the page's parse ended, or memory ran out
pub record IsSettled (asked : MakeWords) (r : Status) : Type 0 where
  pub end : Outcome
  pub comes : IsSerial (page_made asked) made_world end
  pub status_is : (r ≡ status_with end.result) ⊎ (r ≡ status.NoMemory)

module _ (asked : MakeWords) (few : asked.count ≤ 50000) (before after : Seen) (map : Files) (told : before.files ≡ Some map) (page_there : map (codes "page") ≡ Some (made_page asked.number asked.count))
    (scripts_there : (name : List ℕ) → fetched_of (map (path_of (codes "scripts") name)) ≡ file_among made_scripts name)
    (no_page_fault : FaultsRose Page before after → ⊥) (no_script_fault : FaultsRose Script before after → ⊥) where
  file-there : file_at before (codes "page") ≡ Some (Some (made_page asked.number asked.count))
  file-there = ap (option_map (λ m. m (codes "page"))) told ∙ ap Some page_there

  -- the page that was read is the page that was made
  pub read-as_made : (page : PageRead) → IsPageOf (codes "page") before after page → page_at page ≡ page_made asked
  read-as_made page is = by page.fault refl
    where
      by : (b : Bool) → page.fault ≡ b → page_at page ≡ page_made asked
      by true q = absurd (no_page_fault (is.cause q))
      by false q =
          let whole : Some (made_page asked.number asked.count) ≡ Some page.bytes = some_at (file_at before (codes "page")) (λ f. f ≡ Some page.bytes) (Some (made_page asked.number asked.count)) file-there (is.whole q) in
          let bytes : page.bytes ≡ made_page asked.number asked.count = sym cc in
          ap (λ b. page_at (record { bytes = page.bytes; fault = b })) q ∙ ap (λ t. page_at (record { bytes = t; fault = false })) bytes ∙ is-read_as_made asked.number asked.count few

  world-is : (scripts : List ℕ → Fetched) → AreScriptsOf in_scripts before after scripts → world_of [] scripts ≡ made_world
  world-is scripts are = ap (world_of []) (scripts_told (codes "scripts") before after map scripts told no_script_fault (λ name. come_none (codes "scripts") before after name (scripts name) (are.each name)) ∙ scripts-are map scripts_there)

  settled-at : (t t' : Option (List ℕ)) (page : Given PageMet) (r : Status) → MayGivePage (codes "page") in_scripts before after page → IsParsed [] page → Gives (Rose 0 0) t t' (answer_to_page (manner false 0) page) r → IsSettled asked r
  settled-at t t' unmet r may parsed gives =
      let (o, comes) = has_outcome (page_made asked) made_world in
      record { end = o; comes = comes; status_is = elim (given-or t t' (Rose 0 0) _ r gives never-rose) [ inl is ↦ inr is | inr is ↦ inr is ] }
  settled-at t t' absent r may parsed gives = absurd (cc (some_at (file_at before (codes "page")) (λ f. f ≡ None) (Some (made_page asked.number asked.count)) file-there may.1))
  settled-at t t' failed r may parsed gives = absurd (no_page_fault may.0)
  settled-at t t' (given page) r may parsed gives =
      let here : IsSerial (page_at page.read) made_world page.outcome = subst (λ w. IsSerial (page_at page.read) w page.outcome) (world-is page.scripts may.0.scripts) parsed in
      record {
        end = page.outcome;
        comes = subst (λ p. IsSerial p made_world page.outcome) (read-as_made page.read may.0.read) here;
        status_is = given-or t t' (Rose 0 0) _ r gives never-rose;
      }

  pub settled : (t t' : Option (List ℕ)) (r : Status) → PageAnswers [] (manner false 0) (codes "page") in_scripts before after 0 0 t t' r → IsSettled asked r
  settled t t' r answers = settled-at t t' answers.page r answers.may answers.parsed answers.gives

  -- ---- its numbers

  -- what came of each name is to the parse what is in the folder
  met-alike : (met : _) → ((name : List ℕ) (f : Fetched) → found name met ≡ Some f → MayMeet in_scripts before after name f) → (name : List ℕ) → Alike (file_among made_scripts name) (scripts_with met (file_among made_scripts) name)
  met-alike met meets name = by (found name met) refl
    where
      by : (o : Option Fetched) → found name met ≡ o → Alike (file_among made_scripts name) (found_or (file_among made_scripts name) o)
      by None q = alike-refl (file_among made_scripts name)
      by (Some f) q =
          let (g, may, same) = meets name f q in
          let is : g ≡ file_among made_scripts name = fetch_told (codes "scripts") before after map name g told no_script_fault (come_none (codes "scripts") before after name g may) ∙ scripts_there name in
          alike-sym f (file_among made_scripts name) (subst (λ x. Alike f x) is same)

  numbers-at : (s : Shown) (t t' : Option (List ℕ)) (o : Outcome) → IsReplayed s → Reports [] 8 (manner false 0) (codes "page") in_scripts before after t t' s status.Done → s.desk.phase ≡ done finished →
      IsSerial (page_made asked) made_world o → AreNumbers asked o (tally_of 0 s.desk)
  numbers-at s t t' o replayed reports at_done comes =
      let met = reports.met in
      let fetches = s.journal.fetches in
      let scripts : List ℕ → Fetched = scripts_with fetches (file_among made_scripts) in
      let v : World = record { entities = []; scripts = scripts } in
      let alike = met-alike fetches met.scripts in
      let behind : IsPageBehind s.journal.ending s.journal.pieces (page_made asked) = subst (λ p. IsPageBehind s.journal.ending s.journal.pieces p) (read-as_made met.page met.is_page) met.front in
      let run : IsRun (page_made asked) v s.ahead s = is_run (page_made asked) v s behind (sym reports.entities) (knows-met [] fetches (file_among made_scripts) met.known) replayed in
      let phase : run.desk.phase ≡ done finished = ap (λ (z : Desk). z.phase) run.same.1 ∙ shows-phase run.replayed s.desk run.shows ∙ at_done in
      let (o', comes') = has_outcome (page_made asked) v in
      let in_run : IsSerial (whole_page run.run) run.run.world o' = subst (λ x. IsSerial (whole_page run.run) x o') (sym run.world) (subst (λ p. IsSerial p v o') (sym run.page_is) comes') in
      let law : Tallies run.run run.desk o' = tallies-as-serial run.run s.journal.events run.desk o' run.reached phase in_run in
      let same : o' ≡ o = one_outcome (page_made asked) made_world o' o (serial-back made_world scripts alike (page_made asked) o' comes') comes in
      let ends = ends-as-serial run.run s.journal.events run.desk finished o' run.reached phase in_run in
      let (is, doc, lines, (written, executed)) = subst (λ p. ShowsIn p run.replayed s.desk) at_done run.shows in
      let realm : run.desk.realm ≡ s.desk.realm = ap (λ (z : Desk). z.realm) run.same.1 ∙ ap (λ (z : Desk). z.realm) is in
      let epoch : run.desk.epoch ≡ s.desk.epoch = ap (λ (z : Desk). z.epoch) run.same.1 ∙ ap (λ (z : Desk). z.epoch) is in
      let known : AreVerdicts (page_made asked) v law.watch = subst (λ x. AreVerdicts (page_made asked) x law.watch) run.world (subst (λ p. AreVerdicts p run.run.world law.watch) run.page_is law.verdicts) in
      let tree : s.desk.own.side.doc.tree ≡ o.last.side.doc.tree =
      sym (ap (λ (z : Desk). z.own.side.doc.tree) run.same.1 ∙ ap (λ d. d.tree) doc) ∙ (ends.2 ∙ ap (λ (z : Outcome). z.last.side.doc.tree) same) in
      record {
        scripts = sym (ap (λ (z : Desk). z.own.side.executed) run.same.1 ∙ executed) ∙ (law.executed ∙ ap (λ (z : Outcome). z.last.side.executed) same);
        nodes = ap (λ t. min (nodes_below t) (2 ^ 64 - 1)) tree;
        written = sym (ap (λ (z : Desk). z.own.side.written) run.same.1 ∙ written) ∙ (law.written ∙ ap (λ (z : Outcome). z.last.side.written) same);
        watch = law.watch;
        verdicts = (known.0, watches-back made_world scripts alike End (reading (first (page_made asked))) (over known.0) (first_watch (page_made asked)) law.watch known.1);
        kept = omega (arith, law.realms, law.epochs, realm, epoch);
        failed = omega (arith, law.epochs, epoch);
      }

-- ---- what is told of it

module _ (asked : MakeWords) (few : asked.count ≤ 50000) (before after : Seen) (map : Files) (told : before.files ≡ Some map) (page_there : map (codes "page") ≡ Some (made_page asked.number asked.count))
    (scripts_there : (name : List ℕ) → fetched_of (map (path_of (codes "scripts") name)) ≡ file_among made_scripts name)
    (no_page_fault : FaultsRose Page before after → ⊥) (no_script_fault : FaultsRose Script before after → ⊥) (t t' : Option (List ℕ)) where
  finished-run : (s : Shown) (n : Tally) → IsSettled asked status.Done → Reports [] 8 (manner false 0) (codes "page") in_scripts before after t t' s status.Done → IsReplayed s → (s.spent ≡ false → IsTallyOf s.desk n) →
      IsRunOf asked (made.Finished n)
  finished-run s n ended reports replayed numbers =
      let written = reports.written refl in
      let result : written.result ≡ finished = is-done written.result written.outcome_is in
      let at_done : s.desk.phase ≡ done finished = written.phase ∙ ap done result in
      let end : ended.end.result ≡ finished = elim ended.status_is [ inl is ↦ is-done ended.end.result is | inr is ↦ absurd (cc is) ] in
      let (k, in_hand, counted) = numbers written.going in
      let none : k ≡ 0 = subst (λ p. AreInHand p k) at_done in_hand in
      let all : AreNumbers asked ended.end (tally_of 0 s.desk) = numbers-at asked few before after map told page_there scripts_there no_page_fault no_script_fault s t t' ended.end replayed reports at_done ended.comes in
      (ended.end, ended.comes, (end, subst (λ z. AreNumbers asked ended.end z) (sym (counted ∙ ap (λ j. tally_of j s.desk) none)) all))

  refused-run : (r : Status) → IsSettled asked r → r ≢ status.Done → r ≢ status.NoMemory → IsRunOf asked (made.Refused r)
  refused-run r ended other memory = by ended.end.result refl
    where
      status_is : r ≡ status_with ended.end.result
      status_is = elim ended.status_is [ inl is ↦ is | inr is ↦ absurd (memory is) ]

      by : (x : Result) → ended.end.result ≡ x → IsRunOf asked (made.Refused r)
      by finished q = absurd (other (status_is ∙ ap status_with q))
      by (refused w) q = (ended.end, ended.comes, (w, q, status_is ∙ ap status_with q))

  pub run-is : (r : Status) (side : Option Shown) (run : MadeRun) → IsSettled asked r → IfSome side (λ s. Reports [] 8 (manner false 0) (codes "page") in_scripts before after t t' s r) → Tells r side run → IsRunOf asked run
  run-is r side (made.Finished n) ended reports (is, s, there, replayed, numbers) =
      let here : Reports [] 8 (manner false 0) (codes "page") in_scripts before after t t' s r = subst (λ o. IfSome o (λ z. Reports [] 8 (manner false 0) (codes "page") in_scripts before after t t' z r)) there reports in
      finished-run s n (subst (IsSettled asked) is ended) (subst (λ z. Reports [] 8 (manner false 0) (codes "page") in_scripts before after t t' s z) is here) replayed numbers
  run-is r side (made.Refused told_) ended reports (is, other, memory) = subst (λ z. IsRunOf asked (made.Refused z)) (sym is) (refused-run r ended other memory)

  -- what is told of a run over those files
  pub run-over : (es : Entities) (path dir : List ℕ) (r : Status) (side : Option Shown) (run : MadeRun) → es ≡ [] → path ≡ codes "page" → dir ≡ codes "scripts" → PageAnswers es (manner false 0) path (folder_with dir []) before after 0 0 t t' r →
      IfSome side (λ s. Reports es 8 (manner false 0) path (folder_with dir []) before after t t' s r) → Tells r side run → IsRunOf asked run
  run-over es path dir r side run none path_is dir_is answers reports tells =
      let over_none = subst (λ e. PageAnswers e (manner false 0) path (folder_with dir []) before after 0 0 t t' r) none answers in
      let of_page = subst (λ p. PageAnswers [] (manner false 0) p (folder_with dir []) before after 0 0 t t' r) path_is over_none in
      let in_folder = subst (λ d. PageAnswers [] (manner false 0) (codes "page") (folder_with d []) before after 0 0 t t' r) dir_is of_page in
      let told_over_none = subst (λ e. IfSome side (λ s. Reports e 8 (manner false 0) path (folder_with dir []) before after t t' s r)) none reports in
      let told_of_page = subst (λ p. IfSome side (λ s. Reports [] 8 (manner false 0) p (folder_with dir []) before after t t' s r)) path_is told_over_none in
      let told_in_folder = subst (λ d. IfSome side (λ s. Reports [] 8 (manner false 0) (codes "page") (folder_with d []) before after t t' s r)) dir_is told_of_page in
      run-is r side run (settled asked few before after map told page_there scripts_there no_page_fault no_script_fault t t' r in_folder) told_in_folder tells

-- ---- the files of the made page

same-name : (a b : List ℕ) → same_text a b ≡ true → a ≡ b
same-name a b is = (bytes_decides a b).0 is

module _ (f0 f1 f2 f3 : NeverFails) (page : List ℕ) (none : (path : List ℕ) → files_of f0 path ≡ None) (first : Adds (codes "page") page f0 f1)
    (second : Adds (codes "scripts/e") (codes "document.write(\"<br>\");") f1 f2) (third : Adds (codes "scripts/f") (codes "document.write(\"<!--\");") f2 f3) where
  script-at : (name : List ℕ) → fetched_of (files_of f3 (path_of (codes "scripts") name)) ≡ file_among made_scripts name
  script-at name = ap fetched_of (third path ∙ ap (λ o. if bytes_eq (codes "f") name then Some (codes "document.write(\"<!--\");") else o) (second path ∙ ap (λ o. if bytes_eq (codes "e") name then Some (codes "document.write(\"<br>\");") else o) (first path ∙ none path)))
      ∙ by (same_text (codes "e") name) (same_text (codes "f") name) refl refl
    where
      path : List ℕ
      path = path_of (codes "scripts") name

      by : (e f : Bool) → same_text (codes "e") name ≡ e → same_text (codes "f") name ≡ f →
          fetched_of (if f then Some (codes "document.write(\"<!--\");") else (if e then Some (codes "document.write(\"<br>\");") else None))
          ≡ (if e then got (codes "document.write(\"<br>\");") else (if f then got (codes "document.write(\"<!--\");") else missing))
      by true true is is' = absurd (true≢false (ap (λ l. same_text l (codes "e")) (same-name (codes "e") name is ∙ sym (same-name (codes "f") name is'))))
      by true false is is' = refl
      by false true is is' = refl
      by false false is is' = refl

  pub are-files : AreFilesOf page f3
  are-files = record { page_is = third (codes "page") ∙ (second (codes "page") ∙ first (codes "page")); scripts = script-at }

-- the bytes of a script's name and text
pub adds-as : {A E : Type 0} (r : ResultOf A E) (path path' bytes bytes' : List ℕ) (old new : NeverFails) → path ≡ path' → bytes ≡ bytes' → OnOk r (Adds path bytes old new) → OnOk r (Adds path' bytes' old new)
adds-as r path path' bytes bytes' old new p q h = subst (λ x. OnOk r (Adds x bytes' old new)) p (subst (λ x. OnOk r (Adds path x old new)) q h)

pub encoded : (bytes text : List ℕ) → IsUtf8 bytes → chars bytes ≡ text → bytes ≡ encode_utf8_all text
encoded bytes text utf8 is = sym (encodes-chars bytes utf8) ∙ ap encode_utf8_all is

-- the page is ASCII
pub page-encoded : (asked : MakeWords) (page : List ℕ) → asked.count ≤ 50000 → page ≡ made_page asked.number asked.count → encode_utf8_all page ≡ made_page asked.number asked.count
page-encoded asked page few is = ap encode_utf8_all is ∙ encodes-IsAscii (made_page asked.number asked.count) (is-in_ascii asked.number asked.count few)

-- the scripts by their numbers
first-adds : (script : ScriptFile) (old new : NeverFails) → script ≡ named_script (codes "e") (codes "document.write(\"<br>\");") → Adds (codes "scripts/" ++ encode_utf8_all script.name) (encode_utf8_all script.text) old new
    → Adds (codes "scripts/e") (codes "document.write(\"<br>\");") old new
unfolding encode_utf8
first-adds script old new is adds = subst (λ (s : ScriptFile). Adds (codes "scripts/" ++ encode_utf8_all s.name) (encode_utf8_all s.text) old new) is adds

second-adds : (script : ScriptFile) (old new : NeverFails) → script ≡ named_script (codes "f") (codes "document.write(\"<!--\");") → Adds (codes "scripts/" ++ encode_utf8_all script.name) (encode_utf8_all script.text) old new
    → Adds (codes "scripts/f") (codes "document.write(\"<!--\");") old new
unfolding encode_utf8
second-adds script old new is adds = subst (λ (s : ScriptFile). Adds (codes "scripts/" ++ encode_utf8_all s.name) (encode_utf8_all s.text) old new) is adds

pub are-files_of : (f0 f1 f2 f3 : NeverFails) (page : List ℕ) (scripts : List ScriptFile) (e f : ScriptFile) → ((path : List ℕ) → files_of f0 path ≡ None) → Adds (codes "page") page f0 f1 → scripts ≡ made_scripts → e ≡ get_or scripts 0 e → f ≡ get_or scripts 1 f →
    Adds (codes "scripts/" ++ encode_utf8_all e.name) (encode_utf8_all e.text) f1 f2 → Adds (codes "scripts/" ++ encode_utf8_all f.name) (encode_utf8_all f.text) f2 f3 → AreFilesOf page f3
are-files_of f0 f1 f2 f3 page scripts e f none first are e_is f_is second third =
    are-files f0 f1 f2 f3 page none first
    (first-adds e f1 f2 (e_is ∙ ap (λ l. get_or l 0 e) are) second)
    (second-adds f f2 f3 (f_is ∙ ap (λ l. get_or l 1 f) are) third)

-- the line as a format writes it
pub tally-line : (line : List ℕ) (t : Tally) → line ≡ codes "scripts " ++ (decimal t.scripts ++ (codes " kept " ++ (decimal t.kept ++ (codes " failed " ++ (decimal t.failed ++ (codes " nodes " ++ (decimal t.nodes ++ (codes " written " ++ (decimal t.written ++ codes "\n"))))))))) → line ≡ tally_text t
tally-line line t is = is ∙ simp append_assoc
