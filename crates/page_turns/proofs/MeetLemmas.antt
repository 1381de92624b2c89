-- What fetching does to the scripts that were met.
use Rattle.std.proofs.Common.{◌≡◌, ℕ, Bool, true, false, List, [], ◌∷◌, ◌++◌, Option, Some, None, IfSome, refl, sym, ap, ◌∙◌, subst, inl, inr, cond, take, ◌+◌}
use Rattle.std.specs.Prelude.{◌⊎◌, ◌≢◌, IsSome, IsSomeAnd, is_some}
use Rattle.std.specs.List.{AllByRecursion}
use Rattle.std.proofs.lemmas.List.{map-append}
use Rattle.std.specs.Option.{option_map}
use Rattle.html_types.specs.Text.{same_text}
use Rattle.outside.specs.Outside.{Seen, Call, Paths, Begun, KeepsOthers}
use Rattle.outside.specs.declared.traits.Port.{Port}
use Rattle.outside.specs.declared.traits.Port.TheVariants as port
use Rattle.serial.specs.Scripts.{Fetched, got, missing, faulted, is_lawful, file_statements}
use Rattle.core_definitions.specs.Desk.{is_among}
use Rattle.core_steps.specs.declared.fetch.Fetch.{Fetch}
use Rattle.core_steps.specs.declared.fetch.Fetch.TheVariants as fetches
use Rattle.core_steps.specs.Fetches.{fetched_of, names_of}
use Rattle.core_steps.specs.Journals.{found}
use Rattle.core_steps.proofs.FileLemmas.{cut-statements}
use Rattle.page_turns.specs.declared.scripts.TheConstants.{SCRIPT_LIMIT}
use Rattle.page_turns.specs.Calls.{CallsAt, EachWithin}
use Rattle.page_turns.specs.Given.{given_of, NoFault, AbsencesRose, file_at, MayGive, AreRead, ReadTo, untouched, unbegun, begun}
use Rattle.page_turns.specs.Early.{GivesOneMore}
use Rattle.page_turns.specs.Scripts.{Met, Folder, folder_with, IsGiven, GivenEarly, MayComeEarly, MayCome, path_of, IsAbsent, MayFetch, ReadScriptsTo, none_begun, last, MayMeet, AreDistinct, NamesOnce, IsOneOf, BeginsFile, left_alone, begun_once, BeginsNew, Fetches, AreKnown}
use Rattle.page_turns.proofs.CallLemmas.{each_none, failed_stays, failed_since}
use Rattle.page_turns.proofs.CallLemmas as calls
use Rattle.page_turns.proofs.KeepsLemmas.{begun_none, begun_then, rose-on, rose-stays, Later}
use Rattle.page_turns.proofs.SameWorlds.{alike-refl}
use Rattle.page_turns.proofs.TextLemmas.{same-text, same-refl, none-there}

-- ---- one fetch

absent_at : (file : Option (Option (List ℕ))) (rose : Type 0) → rose → IfSome file (λ f. f ≡ None) → IsAbsent file rose
absent_at None rose cause none = cause
absent_at (Some f) rose cause none = none

got_at : (file : Option (Option (List ℕ))) (limit : ℕ) (bytes : List ℕ) → limit ≡ SCRIPT_LIMIT → IfSome file (λ f. IsSomeAnd f (λ whole. bytes ≡ take (limit + 1) whole))
    → (whole : List ℕ) × IfSome file (λ f. f ≡ Some whole) × (file_statements bytes ≡ file_statements whole)
got_at None limit bytes is read = (bytes, tt, refl)
got_at (Some None) limit bytes is read = absurd read
got_at (Some (Some whole)) limit bytes is read = (whole, refl, ap file_statements read ∙ cut-statements limit whole is)

-- what fetching gave of a name may be met
pub may_meet : (folder : Folder) (before after : Seen) (name : List ℕ) (limit : ℕ) (fetch : Fetch) → limit ≡ SCRIPT_LIMIT → MayGive limit port.Script (path_of folder.dir name) before after (given_of fetch)
    → MayMeet folder before after name (fetched_of fetch)
may_meet folder before after name limit (fetches.Got bytes) is may =
    let there = got_at (file_at before (path_of folder.dir name)) limit bytes.items is may.0 in (got there.0, inl there.1, there.2)
may_meet folder before after name limit fetches.Missing is may = (missing, inl (absent_at (file_at before (path_of folder.dir name)) (AbsencesRose port.Script before after) may.0 may.1), tt)
may_meet folder before after name limit fetches.Faulted is may = (faulted, inl may, tt)

-- what was given early may be met
pub may_meet_given : (folder : Folder) (before after : Seen) (name : List ℕ) (f : Fetched) → IsGiven name f folder.given → MayMeet folder before after name f
may_meet_given folder before after name f given = (f, inr (inl given), alike-refl f)

-- no call failed, or the script is faulted
pub unfailed : (limit : ℕ) (path : List ℕ) (before after : Seen) (f : Fetch) → MayGive limit port.Script path before after (given_of f) → NoFault port.Script before after ⊎ (fetched_of f ≡ faulted)
unfailed limit path before after (fetches.Got bytes) may = inl may.1
unfailed limit path before after fetches.Missing may = inl may.2
unfailed limit path before after fetches.Faulted may = inr refl

-- ---- which were begun

each_then : {X : Type 0} (P : X → Type 0) (xs ys : List X) → AllByRecursion P xs → AllByRecursion P ys → AllByRecursion P (xs ++ ys)
each_then P [] ys first second = second
each_then P (x ∷ xs) ys first second = (first.0, each_then P xs ys first.1 second)

each_still : {X : Type 0} (P Q : X → Type 0) (xs : List X) → ((x : X) → P x → Q x) → AllByRecursion P xs → AllByRecursion Q xs
each_still P Q [] on all = tt
each_still P Q (x ∷ xs) on all = (on x all.0, each_still P Q xs on all.1)

abbrev pub names_none : (dir : List ℕ) (b a : Paths) → a ≡ b → NamesOnce dir b a
names_none dir b a e = record { names = []; begun = begun_none b a e; lawful = tt; once = tt }

begins_none : (unmet : List (List ℕ)) (dir : List ℕ) (given : Met) (b a : Paths) (old new : Met) → a ≡ b → BeginsNew unmet dir given b a old new
begins_none unmet dir given b a old new e = record { which = names_none dir b a e; fresh = tt; met = tt; late = tt }

pub begins_one : (unmet : List (List ℕ)) (dir : List ℕ) (given : Met) (b a : Paths) (old new : Met) (name : List ℕ) → Begun b a (path_of dir name ∷ []) → is_lawful name ≡ true → found name old ≡ None
    → IsSome (found name new) ⊎ IsOneOf name unmet → (GivenEarly name given → ⊥) → BeginsNew unmet dir given b a old new
begins_one unmet dir given b a old new name paths lawful fresh met late = record {
  which = record { names = name ∷ []; begun = paths; lawful = (lawful, tt); once = (tt, tt) };
  fresh = (fresh, tt);
  met = (met, tt);
  late = (late, tt);
}

-- nothing is met anew
pub fetches_none : (unmet : List (List ℕ)) (folder : Folder) (before after : Seen) (s : Met) → after.begun port.Script ≡ before.begun port.Script → ReadScriptsTo SCRIPT_LIMIT folder.dir before after
    → EachWithin SCRIPT_LIMIT port.Script before after → Fetches unmet folder before after s s
fetches_none unmet folder before after s same reads within = record {
  kept = λ name script is. is;
  fresh = λ name script is. inl is;
  no_further = reads;
  within = within;
  begins = begins_none unmet folder.dir folder.given _ _ s s same;
}

pub fetches_same : (unmet : List (List ℕ)) (folder : Folder) (before : Seen) (s : Met) → Fetches unmet folder before before s s
fetches_same unmet folder before s = fetches_none unmet folder before before s refl (none_begun refl) (each_none SCRIPT_LIMIT port.Script before before refl)

-- ---- a file was begun

module _ (folder : Folder) (name : List ℕ) (before after : Seen) (lawful : is_lawful name ≡ true) (met : Met) (fresh : found name met ≡ None) where
  -- and memory ran out before it was met
  pub fetch_cut : (GivenEarly name folder.given → ⊥) → BeginsFile folder.dir name before after → Fetches (name ∷ []) folder before after met met
  fetch_cut late (left_alone same) = subst (λ z. Fetches (name ∷ []) folder before z met met) (sym same) (fetches_same (name ∷ []) folder before met)
  fetch_cut late (begun_once paths reads within) = record {
    kept = λ n f is. is;
    fresh = λ n f is. inl is;
    no_further = last name lawful reads;
    within = within;
    begins = begins_one (name ∷ []) folder.dir folder.given _ _ met met name paths lawful fresh (inr (inl refl)) late;
  }

  abbrev more : Fetched → Met
  more f = (name, f) ∷ met

  kept-by : (f : Fetched) (n : List ℕ) (g : Fetched) → found n met ≡ Some g → (b : Bool) → same_text name n ≡ b → cond b (Some f) (found n met) ≡ Some g
  kept-by f n g is true e = let none : found n met ≡ None = subst (λ x. found x met ≡ None) (same-text name n e) fresh in absurd (cc (sym none ∙ is))
  kept-by f n g is false e = is

  fresh-by : (f : Fetched) (may : MayMeet folder before after name f) (n : List ℕ) (g : Fetched) (b : Bool) → same_text name n ≡ b → cond b (Some f) (found n met) ≡ Some g → (found n met ≡ Some g) ⊎ MayMeet folder before after n g
  fresh-by f may n g true e is =
      let same : f ≡ g = cc in inr (subst (λ k. MayMeet folder before after n k) same (subst (λ x. MayMeet folder before after x f) (same-text name n e) may))
  fresh-by f may n g false e is = inl is

  found-more : (f : Fetched) → IsSome (found name (more f))
  found-more f = ap (λ b. is_some (cond b (Some f) (found name met))) (same-refl name)

  -- and it is met
  pub fetch_one : (f : Fetched) → MayMeet folder before after name f → (GivenEarly name folder.given → ⊥) → BeginsFile folder.dir name before after → Fetches [] folder before after met (more f)
  fetch_one f may late begins = record {
    kept = λ n g is. kept-by f n g is (same_text name n) refl;
    fresh = λ n g is. fresh-by f may n g (same_text name n) refl is;
    no_further = reads_to begins;
    within = within_to begins;
    begins = begins_new begins;
  }
    where
      reads_to : BeginsFile folder.dir name before after → ReadScriptsTo SCRIPT_LIMIT folder.dir before after
      reads_to (left_alone same) = subst (λ z. ReadScriptsTo SCRIPT_LIMIT folder.dir before z) (sym same) (none_begun refl)
      reads_to (begun_once paths reads within) = last name lawful reads

      within_to : BeginsFile folder.dir name before after → EachWithin SCRIPT_LIMIT port.Script before after
      within_to (left_alone same) = each_none SCRIPT_LIMIT port.Script before after (ap (λ (z : Seen). z.calls port.Script) same)
      within_to (begun_once paths reads within) = within

      begins_new : BeginsFile folder.dir name before after → BeginsNew [] folder.dir folder.given (before.begun port.Script) (after.begun port.Script) met (more f)
      begins_new (left_alone same) = begins_none [] folder.dir folder.given _ _ met (more f) (ap (λ (z : Seen). z.begun port.Script) same)
      begins_new (begun_once paths reads within) = begins_one [] folder.dir folder.given _ _ met (more f) name paths lawful fresh (inl (found-more f)) late

  -- it came early, and no file was begun
  pub fetch_early : (f : Fetched) → MayMeet folder before after name f → after ≡ before → Fetches [] folder before after met (more f)
  fetch_early f may same = record {
    kept = λ n g is. kept-by f n g is (same_text name n) refl;
    fresh = λ n g is. fresh-by f may n g (same_text name n) refl is;
    no_further = subst (λ z. ReadScriptsTo SCRIPT_LIMIT folder.dir before z) (sym same) (none_begun refl);
    within = each_none SCRIPT_LIMIT port.Script before after (ap (λ (z : Seen). z.calls port.Script) same);
    begins = begins_none [] folder.dir folder.given _ _ met (more f) (ap (λ (z : Seen). z.begun port.Script) same);
  }

pub known_more : (name : List ℕ) (f : Fetched) (met : Met) → is_lawful name ≡ true → is_among name (names_of met) ≡ false → AreKnown met → AreKnown ((name, f) ∷ met)
known_more name f met lawful none known = record { lawful = (lawful, known.lawful); once = (none-there name met none, known.once) }

-- ---- over two calls

module _ (before now after : Seen) (first : Later before now) (second : Later now after) where
  absent-stays : (file : Option (Option (List ℕ))) → IsAbsent file (AbsencesRose port.Script before now) → IsAbsent file (AbsencesRose port.Script before after)
  absent-stays None rose = rose-stays _ _ _ rose (second.absences port.Script)
  absent-stays (Some f) none = none

  absent-since : (file : Option (Option (List ℕ))) → IsAbsent file (AbsencesRose port.Script now after) → IsAbsent file (AbsencesRose port.Script before after)
  absent-since None rose = rose-on _ _ _ (first.absences port.Script) rose
  absent-since (Some f) none = none

  -- what could be fetched before still can
  fetch-stays : (dir name : List ℕ) (f : Fetched) (ys : List Call) → CallsAt port.Script now after ys → MayFetch dir before now name f → MayFetch dir before after name f
  fetch-stays dir name (got bytes) ys made may = may
  fetch-stays dir name missing ys made may = absent-stays (file_at before (path_of dir name)) may
  fetch-stays dir name faulted ys made may = (rose-stays _ _ _ may.0 (second.faults port.Script), failed_stays port.Script (path_of dir name) before now after ys made may.1)

  -- and what can be fetched later
  fetch-since : (dir name : List ℕ) (f : Fetched) (xs : List Call) → CallsAt port.Script before now xs → MayFetch dir now after name f → MayFetch dir before after name f
  fetch-since dir name (got bytes) xs made may = subst (λ files. IfSome (option_map (λ map. map (path_of dir name)) files) (λ file. file ≡ Some bytes)) first.files may
  fetch-since dir name missing xs made may = absent-since (file_at before (path_of dir name)) (subst (λ files. IsAbsent (option_map (λ map. map (path_of dir name)) files) (AbsencesRose port.Script now after)) first.files may)
  fetch-since dir name faulted xs made may = (rose-on _ _ _ (first.faults port.Script) may.0, failed_since port.Script (path_of dir name) before now after xs made may.1)

  -- and so of what may come early, which no call of the files changes
  come-stays : (folder : Folder) (name : List ℕ) (f : Fetched) (ys : List Call) → CallsAt port.Script now after ys → MayCome folder before now name f → MayCome folder before after name f
  come-stays folder name f ys made (inl may) = inl (fetch-stays folder.dir name f ys made may)
  come-stays folder name f ys made (inr early) = inr early

  come-since : (folder : Folder) (name : List ℕ) (f : Fetched) (xs : List Call) → CallsAt port.Script before now xs → MayCome folder now after name f → MayCome folder before after name f
  come-since folder name f xs made (inl may) = inl (fetch-since folder.dir name f xs made may)
  come-since folder name f xs made (inr early) = inr early

  -- how far scripts were read
  read-stays : (path : List ℕ) → after.left port.Script ≡ now.left port.Script → ReadTo SCRIPT_LIMIT port.Script path before now → ReadTo SCRIPT_LIMIT port.Script path before after
  read-stays path same (untouched e) = untouched (same ∙ e)
  read-stays path same (unbegun nothing (inl absence)) = unbegun (subst (λ l. IfSome l (λ rest. rest ≡ [])) (sym same) nothing) (inl (rose-stays _ _ _ absence (second.absences port.Script)))
  read-stays path same (unbegun nothing (inr fault)) = unbegun (subst (λ l. IfSome l (λ rest. rest ≡ [])) (sym same) nothing) (inr (rose-stays _ _ _ fault (second.faults port.Script)))
  read-stays path same (begun read are most) = begun read (subst (λ l. AreRead (file_at before path) l read) (sym same) are) most

  scripts-stay : (dir : List ℕ) → after.left port.Script ≡ now.left port.Script → ReadScriptsTo SCRIPT_LIMIT dir before now → ReadScriptsTo SCRIPT_LIMIT dir before after
  scripts-stay dir same (none_begun e) = none_begun (same ∙ e)
  scripts-stay dir same (last name lawful reads) = last name lawful (read-stays (path_of dir name) same reads)

  scripts-since : (dir name : List ℕ) → is_lawful name ≡ true → ReadScriptsTo SCRIPT_LIMIT dir before now → ReadTo SCRIPT_LIMIT port.Script (path_of dir name) now after → ReadScriptsTo SCRIPT_LIMIT dir before after
  scripts-since dir name lawful reads (untouched e) = scripts-stay dir e reads
  scripts-since dir name lawful reads (unbegun nothing (inl absence)) = last name lawful (unbegun nothing (inl (rose-on _ _ _ (first.absences port.Script) absence)))
  scripts-since dir name lawful reads (unbegun nothing (inr fault)) = last name lawful (unbegun nothing (inr (rose-on _ _ _ (first.faults port.Script) fault)))
  scripts-since dir name lawful reads (begun read are most) = last name lawful (begun read (subst (λ files. AreRead (option_map (λ map. map (path_of dir name)) files) (after.left port.Script) read) first.files are) most)

  pub scripts-then : (dir : List ℕ) → ReadScriptsTo SCRIPT_LIMIT dir before now → ReadScriptsTo SCRIPT_LIMIT dir now after → ReadScriptsTo SCRIPT_LIMIT dir before after
  scripts-then dir reads (none_begun e) = scripts-stay dir e reads
  scripts-then dir reads (last name lawful reads') = scripts-since dir name lawful reads reads'

  -- names that are met, and names that weren't yet
  apart : (files : Met) (x y : List ℕ) → IsSome (found x files) → found y files ≡ None → y ≢ x
  apart files x y some none same = let there : is_some (found y files) ≡ true = subst (λ n. IsSome (found n files)) (sym same) some in cc (sym there ∙ ap is_some none)

  distinct-then : (files : Met) (xs ys : List (List ℕ)) → AreDistinct xs → AreDistinct ys → AllByRecursion (λ x. IsSome (found x files)) xs → AllByRecursion (λ y. found y files ≡ None) ys
      → AreDistinct (xs ++ ys)
  distinct-then files [] ys first second met fresh = second
  distinct-then files (x ∷ xs) ys first second met fresh = (
    each_then (λ y. y ≢ x) xs ys first.0 (each_still (λ y. found y files ≡ None) (λ y. y ≢ x) ys (λ y none. apart files x y met.0 none) fresh),
    distinct-then files xs ys first.1 second met.1 fresh,
  )

  none-before : (old mid : Met) (name : List ℕ) → ((s : Fetched) → found name old ≡ Some s → found name mid ≡ Some s) → found name mid ≡ None → found name old ≡ None
  none-before old mid name kept none = by_met (found name old) refl
    where
      by_met : (o : Option Fetched) → found name old ≡ o → found name old ≡ None
      by_met None e = e
      by_met (Some s) e = absurd (cc (sym (kept s e) ∙ none))

  some-after : (mid new : Met) (name : List ℕ) → ((s : Fetched) → found name mid ≡ Some s → found name new ≡ Some s) → IsSome (found name mid) → IsSome (found name new)
  some-after mid new name kept some = by_met (found name mid) refl some
    where
      by_met : (o : Option Fetched) → found name mid ≡ o → IsSome o → IsSome (found name new)
      by_met None e some = absurd (cc some)
      by_met (Some s) e some = subst IsSome (sym (kept s e)) refl

  abbrev names-then : (dir : List ℕ) (b n a : Paths) (files : Met) (first : NamesOnce dir b n) (second : NamesOnce dir n a) → AllByRecursion (λ x. IsSome (found x files)) first.names
      → AllByRecursion (λ y. found y files ≡ None) second.names → NamesOnce dir b a
  names-then dir b n a files first second met fresh = record {
    names = first.names ++ second.names;
    begun = subst (λ paths. Begun b a paths) (sym (map-append (path_of dir) first.names second.names)) (begun_then b n a _ _ first.begun second.begun);
    lawful = each_then (λ name. is_lawful name ≡ true) first.names second.names first.lawful second.lawful;
    once = distinct-then files first.names second.names first.once second.once met fresh;
  }

  all-met : (mid : Met) (names : List (List ℕ)) → AllByRecursion (λ name. IsSome (found name mid) ⊎ IsOneOf name []) names → AllByRecursion (λ name. IsSome (found name mid)) names
  all-met mid names all = each_still (λ name. IsSome (found name mid) ⊎ IsOneOf name []) (λ name. IsSome (found name mid)) names (λ name one. elim one [ inl some ↦ some | inr none ↦ absurd none ]) all

  begins-then : (unmet : List (List ℕ)) (dir : List ℕ) (given : Met) (b n a : Paths) (old mid new : Met) → ((name : List ℕ) (s : Fetched) → found name old ≡ Some s → found name mid ≡ Some s)
      → ((name : List ℕ) (s : Fetched) → found name mid ≡ Some s → found name new ≡ Some s) → BeginsNew [] dir given b n old mid → BeginsNew unmet dir given n a mid new → BeginsNew unmet dir given b a old new
  begins-then unmet dir given b n a old mid new kept kept' first second =
      let met = all-met mid first.which.names first.met in
      record {
        which = names-then dir b n a mid first.which second.which met second.fresh;
        fresh = each_then (λ name. found name old ≡ None) first.which.names second.which.names first.fresh
            (each_still (λ name. found name mid ≡ None) (λ name. found name old ≡ None) second.which.names (λ name none. none-before old mid name (kept name) none) second.fresh);
        met = each_then (λ name. IsSome (found name new) ⊎ IsOneOf name unmet) first.which.names second.which.names
            (each_still (λ name. IsSome (found name mid)) (λ name. IsSome (found name new) ⊎ IsOneOf name unmet) first.which.names (λ name some. inl (some-after mid new name (kept' name) some)) met) second.met;
        late = each_then (λ name. GivenEarly name given → ⊥) first.which.names second.which.names first.late second.late;
      }

  pub fetches-then : (unmet : List (List ℕ)) (folder : Folder) (old mid new : Met) → Fetches [] folder before now old mid → Fetches unmet folder now after mid new → Fetches unmet folder before after old new
  fetches-then unmet folder old mid new a b = record {
    kept = λ name script is. b.kept name script (a.kept name script is);
    fresh = λ name script is. fresh_of name script (b.fresh name script is);
    no_further = scripts-then folder.dir a.no_further b.no_further;
    within = calls.each_then SCRIPT_LIMIT port.Script before now after a.within b.within;
    begins = begins-then unmet folder.dir folder.given _ _ _ old mid new a.kept b.kept a.begins b.begins;
  }
    where
      stay_of : (name : List ℕ) (script : Fetched) → (found name old ≡ Some script) ⊎ MayMeet folder before now name script → (found name old ≡ Some script) ⊎ MayMeet folder before after name script
      stay_of name script (inl is) = inl is
      stay_of name script (inr may) = inr (may.0, come-stays folder name may.0 b.within.calls b.within.made may.1, may.2)

      fresh_of : (name : List ℕ) (script : Fetched) → (found name mid ≡ Some script) ⊎ MayMeet folder now after name script → (found name old ≡ Some script) ⊎ MayMeet folder before after name script
      fresh_of name script (inl is) = stay_of name script (a.fresh name script is)
      fresh_of name script (inr may) =
          inr (may.0, come-since folder name may.0 a.within.calls a.within.made may.1, may.2)

-- other ports were read
pub fetches-past : (unmet : List (List ℕ)) (folder : Folder) (p : Port) (before after : Seen) (s : Met) → (port.Script ≡ p → ⊥) → KeepsOthers p before after → Fetches unmet folder before after s s
fetches-past unmet folder p before after s other keeps =
    fetches_none unmet folder before after s (keeps.begun port.Script other) (none_begun (keeps.left port.Script other)) (each_none SCRIPT_LIMIT port.Script before after (keeps.calls port.Script other))

-- one more that was met
pub some-more : (name : List ℕ) (f : Fetched) (met : Met) (n : List ℕ) → IsSome (found n met) → IsSome (found n ((name, f) ∷ met))
some-more name f met n some = by (same_text name n)
  where
    by : (b : Bool) → IsSome (cond b (Some f) (found n met))
    by true = refl
    by false = some

-- ---- more is given

module _ (dir : List ℕ) (given given' : Met) (name : List ℕ) (f : Fetched) (one : GivesOneMore name f given given') where
  early-more : (n : List ℕ) (g : Fetched) → MayComeEarly (folder_with dir given) n g → MayComeEarly (folder_with dir given') n g
  early-more n g (inl is) = inl (one.more n g is)
  early-more n g (inr none) = absurd none

  come-more : (before after : Seen) (n : List ℕ) (g : Fetched) → MayCome (folder_with dir given) before after n g → MayCome (folder_with dir given') before after n g
  come-more before after n g (inl may) = inl may
  come-more before after n g (inr early) = inr (early-more n g early)

  -- It wasn't met, and all that were begun were.
  late-more : (met : Met) → found name met ≡ None → (names : List (List ℕ)) → AllByRecursion (λ n. IsSome (found n met) ⊎ IsOneOf n []) names → AllByRecursion (λ n. GivenEarly n given → ⊥) names
      → AllByRecursion (λ n. GivenEarly n given' → ⊥) names
  late-more met none [] all late = tt
  late-more met none (n ∷ names) all late = (here, late-more met none names all.1 late.1)
    where
      apart-of : IsSome (found n met) ⊎ IsOneOf n [] → n ≡ name → ⊥
      apart-of (inl some) same = let there : is_some (found name met) ≡ true = subst (λ m. IsSome (found m met)) same some in cc (sym there ∙ ap is_some none)
      apart-of (inr of_none) same = absurd of_none

      here : GivenEarly n given' → ⊥
      here (g, is) = elim (one.only n g is) [ inl was ↦ late.0 (g, was) | inr same ↦ apart-of all.0 same ]

  pub fetches-more : (before after : Seen) (old new : Met) → found name new ≡ None → Fetches [] (folder_with dir given) before after old new → Fetches [] (folder_with dir given') before after old new
  fetches-more before after old new none a = record {
    kept = a.kept;
    fresh = λ n g is. still n g (a.fresh n g is);
    no_further = a.no_further;
    within = a.within;
    begins = record {
      which = a.begins.which;
      fresh = a.begins.fresh;
      met = a.begins.met;
      late = late-more new none a.begins.which.names a.begins.met a.begins.late;
    };
  }
    where
      still : (n : List ℕ) (g : Fetched) → (found n old ≡ Some g) ⊎ MayMeet (folder_with dir given) before after n g → (found n old ≡ Some g) ⊎ MayMeet (folder_with dir given') before after n g
      still n g (inl is) = inl is
      still n g (inr may) = inr (may.0, come-more before after n may.0 may.1, may.2)
