-- Scripts that helpers fetched early.
use Rattle.std.proofs.Common.{◌≡◌, ◌≤◌, ℕ, zero, suc, List, [], ◌∷◌, ◌++◌, length, Option, Some, None, IfSome, IsTrue, refl, sym, ap, ◌∙◌, subst, inl, inr, arith, take, ◌+◌}
use Rattle.std.specs.Prelude.{◌⊎◌, IsSomeAnd}
use Rattle.std.specs.List.{AllByRecursion}
use Rattle.std.specs.Option.{option_map}
use Rattle.outside.specs.Outside.{Files, Seen, KeepsOthers}
use Rattle.outside.specs.declared.traits.Port.TheVariants.{Script}
use Rattle.standard.specs.Entities.{Entities as Table}
use Rattle.serial.specs.Scripts.{Fetched, got, missing, faulted, file_statements}
use Rattle.core_steps.proofs.FileLemmas.{cut-statements}
use Rattle.core_steps.specs.Sides.{Shown}
use Rattle.page_turns.specs.declared.scripts.TheConstants.{SCRIPT_LIMIT}
use Rattle.page_turns.specs.Given.{Given, FaultsRose, AbsencesRose, file_at}
use Rattle.page_turns.specs.Given as given
use Rattle.page_turns.specs.Scripts.{Met, Crew, Help, Folder, folder_with, AnyOf, IsGiven, MayHelp, MayComeEarly, MayCome, MayFetch, AreScriptsOf, Alike, MayMeet, path_of, fetched_of}
use Rattle.page_turns.proofs.SameWorlds.{alike-refl}
use Rattle.preload.specs.declared.helper.HelperLanes.{HelperLanes}
use Rattle.preload.proofs.Giving.{keeps-none}
use Rattle.preload.specs.Teams.{HelpedBy, HelpedEach, helps_first}
use Rattle.command_words.specs.Words.{PageAsked, Asked, for_page, for_make, for_batch}
use Rattle.page_runner.specs.declared.status.Status.{Status}
use Rattle.page_runner.specs.Answers.{PageMet, MayMeetPage, MayGivePage, PageAnswers, folder_by, HelpersBack, HelpersBackOf, TellAll, is_answered}
use Rattle.page_runner.specs.Manner.{Manner}
use Rattle.page_runner.specs.Reports.{IsMet, EndsAsSerial, Reports}

-- ---- none come early

pub come_none : (dir : List ℕ) (before after : Seen) (name : List ℕ) (f : Fetched) → MayCome (folder_with dir []) before after name f → MayFetch dir before after name f
come_none dir before after name f (inl may) = may
come_none dir before after name f (inr (inl none)) = absurd none
come_none dir before after name f (inr (inr none)) = absurd none

-- ---- none that come early are faulted

never_faulted : (dir name : List ℕ) (helps : List Help) → AnyOf (MayHelp dir name faulted) helps → ⊥
never_faulted dir name [] none = none
never_faulted dir name (h ∷ helps) (inl none) = none
never_faulted dir name (h ∷ helps) (inr some) = never_faulted dir name helps some

pub come_faulted : (dir : List ℕ) (helps : List Help) (before after : Seen) (name : List ℕ) → MayCome (record { dir = dir; given = []; helps = helps }) before after name faulted → FaultsRose Script before after
come_faulted dir helps before after name (inl may) = may.0
come_faulted dir helps before after name (inr (inl none)) = absurd none
come_faulted dir helps before after name (inr (inr some)) = absurd (never_faulted dir name helps some)

-- ---- where all tell the same files

module _ (dir : List ℕ) (map : Files) (name : List ℕ) where
  helped_is : (f : Fetched) (h : Help) → h.before.files ≡ Some map → MayHelp dir name f h → Alike f (fetched_of (map (path_of dir name)))
  helped_is (got bytes) h told may = by (map (path_of dir name)) there
    where
      there : IsSomeAnd (map (path_of dir name)) (λ whole. bytes ≡ take (SCRIPT_LIMIT + 1) whole)
      there = subst (λ files. IfSome (option_map (λ m. m (path_of dir name)) files) (λ file. IsSomeAnd file (λ whole. bytes ≡ take (SCRIPT_LIMIT + 1) whole))) told may

      by : (file : Option (List ℕ)) → IsSomeAnd file (λ whole. bytes ≡ take (SCRIPT_LIMIT + 1) whole) → Alike (got bytes) (fetched_of file)
      by None none = absurd none
      by (Some whole) is = ap file_statements is ∙ cut-statements SCRIPT_LIMIT whole refl
  helped_is missing h told may = by (map (path_of dir name)) there
    where
      there : map (path_of dir name) ≡ None
      there = subst (λ files. IfSome (option_map (λ m. m (path_of dir name)) files) (λ file. file ≡ None)) told may.1

      by : (file : Option (List ℕ)) → file ≡ None → Alike missing (fetched_of file)
      by None is = tt
      by (Some whole) is = absurd (cc is)
  helped_is faulted h told may = absurd may

  pub helped_told : (f : Fetched) (helps : List Help) → TellAll map helps → AnyOf (MayHelp dir name f) helps → Alike f (fetched_of (map (path_of dir name)))
  helped_told f [] told none = absurd none
  helped_told f (h ∷ helps) told (inl one) = helped_is f h told.0 one
  helped_told f (h ∷ helps) told (inr some) = helped_told f helps told.1 some

-- ---- what was given came of the helpers

first_more : (P : Help → Type 0) (n m : ℕ) (was now : List Seen) → n ≤ m → AnyOf P (helps_first n was now) → AnyOf P (helps_first m was now)
first_more P zero m was now le none = absurd none
first_more P (suc n) zero was now le some = absurd (omega (arith, le))
first_more P (suc n) (suc m) [] now le none = absurd none
first_more P (suc n) (suc m) (w ∷ was) [] le none = absurd none
first_more P (suc n) (suc m) (w ∷ was) (s ∷ now) le (inl one) = inl one
first_more P (suc n) (suc m) (w ∷ was) (s ∷ now) le (inr some) = inr (first_more P n m was now (omega (arith, le)) some)

module _ (dir : List ℕ) (met : Met) (n most : ℕ) (was now : List Seen) (le : n ≤ most)
    (own : (name : List ℕ) (came : Fetched) → IsGiven name came met → AnyOf (MayHelp dir name came) (helps_first n was now)) where
  come_as : (before after : Seen) (name : List ℕ) (f : Fetched) → MayCome (folder_with dir met) before after name f → MayCome (folder_by dir most was now) before after name f
  come_as before after name f (inl may) = inl may
  come_as before after name f (inr (inl given)) = inr (inr (first_more (MayHelp dir name f) n most was now le (own name f given)))
  come_as before after name f (inr (inr none)) = absurd none

  met_page_as : (path : List ℕ) (before after : Seen) (page : PageMet) → MayMeetPage path (folder_with dir met) before after page → MayMeetPage path (folder_by dir most was now) before after page
  met_page_as path before after page may = record { read = may.read; scripts = record { each = λ name. come_as before after name (page.scripts name) (may.scripts.each name) } }

  may_as : (path : List ℕ) (before after : Seen) (page : Given PageMet) → MayGivePage path (folder_with dir met) before after page → MayGivePage path (folder_by dir most was now) before after page
  may_as path before after given.unmet may = tt
  may_as path before after given.missing may = may
  may_as path before after given.faulted may = may
  may_as path before after (given.got page) may = (met_page_as path before after page may.0, may.1)

  pub answers_as : (es : Table) (how : Manner) (path : List ℕ) (before after : Seen) (k k' : ℕ) (t t' : Option (List ℕ)) (r : Status)
      → PageAnswers es how path (folder_with dir met) before after k k' t t' r → PageAnswers es how path (folder_by dir most was now) before after k k' t t' r
  answers_as es how path before after k k' t t' r answers = record {
    page = answers.page;
    may = may_as path before after answers.page answers.may;
    faults = answers.faults;
    awaited = answers.awaited;
    parsed = answers.parsed;
    gives = answers.gives;
  }

  pub reports_as : (es : Table) (ahead : ℕ) (how : Manner) (path : List ℕ) (before after : Seen) (t t' : Option (List ℕ)) (s : Shown) (r : Status)
      → Reports es ahead how path (folder_with dir met) before after t t' s r → Reports es ahead how path (folder_by dir most was now) before after t t' s r
  reports_as es ahead how path before after t t' s r reports = record {
    entities = reports.entities;
    ahead_is = reports.ahead_is;
    met = record {
      page = reports.met.page;
      is_page = reports.met.is_page;
      front = reports.met.front;
      scripts = λ name f is. let (g, may, alike) = reports.met.scripts name f is in (g, come_as before after name g may, alike);
      known = reports.met.known;
    };
    replays = reports.replays;
    written = reports.written;
    ended = λ e. ended_as (reports.ended e);
    in_part = reports.in_part;
  }
    where
      ended_as : EndsAsSerial es path (folder_with dir met) before after s → EndsAsSerial es path (folder_by dir most was now) before after s
      ended_as x = record { met = x.met; may = met_page_as path before after x.met x.may; comes = x.comes; phase = x.phase; lines = x.lines; tree = x.tree }

-- ---- the helpers are back

pub helped_back : (dir : List ℕ) (lanes : List (Option HelperLanes)) (n : ℕ) (was now : List Seen) → length lanes ≤ n → HelpedEach dir lanes was now → HelpersBack n was now
helped_back dir [] zero was now le is = is
helped_back dir [] (suc n) [] now le is = is
helped_back dir [] (suc n) (w ∷ was) [] le is = absurd (cc is)
helped_back dir [] (suc n) (w ∷ was) (s ∷ now) le is =
    let one : s ≡ w = cc is in
    let rest : now ≡ was = cc is in
    (subst (λ z. KeepsOthers Script w z) (sym one) (keeps-none Script w), helped_back dir [] n was now (omega arith) rest)
helped_back dir (l ∷ lanes) zero was now le all = absurd (omega (arith, le))
helped_back dir (l ∷ lanes) (suc n) [] now le all = absurd all
helped_back dir (l ∷ lanes) (suc n) (w ∷ was) [] le all = absurd all
helped_back dir (None ∷ lanes) (suc n) (w ∷ was) (s ∷ now) le all = (subst (λ z. KeepsOthers Script w z) (sym all.0) (keeps-none Script w), helped_back dir lanes n was now (omega (arith, le)) all.1)
helped_back dir (Some l ∷ lanes) (suc n) (w ∷ was) (s ∷ now) le all = (all.0.others, helped_back dir lanes n was now (omega (arith, le)) all.1)

pub helpers_stay : (n : ℕ) (was : List Seen) → HelpersBack n was was
helpers_stay n was = helped_back [] [] n was was (omega arith) refl

pub helpers_stay_of : (asked : Option Asked) (was : List Seen) → HelpersBackOf asked was was
helpers_stay_of None was = refl
helpers_stay_of (Some (for_make asked)) was = refl
helpers_stay_of (Some (for_batch asked)) was = refl
helpers_stay_of (Some (for_page asked)) was = helpers_stay asked.preload was

pub helpers_asked : (asked : Option Asked) (a : PageAsked) (was now : List Seen) → Some (for_page a) ≡ asked → HelpersBack a.preload was now → HelpersBackOf asked was now
helpers_asked asked a was now is back = subst (λ o. HelpersBackOf o was now) is back

-- ---- the crew is that of the helpers

module _ (start end : Crew) (met : Met) (dir dir' : List ℕ) (most : ℕ) (was now : List Seen) (lanes : List (Option HelperLanes)) (begun : start.dir ≡ dir') (were : start.was ≡ was) (few : start.used ≤ most)
    (same : end ≡ start) (folder : dir' ≡ dir) where
  d : end.dir ≡ dir
  d = ap (λ (k : Crew). k.dir) same ∙ (begun ∙ folder)

  w : end.was ≡ was
  w = ap (λ (k : Crew). k.was) same ∙ were

  pub helped_in : HelpedEach end.dir lanes end.was now → HelpedEach dir lanes was now
  helped_in all = subst (λ x. HelpedEach x lanes was now) d (subst (λ x. HelpedEach end.dir lanes x now) w all)

  module _ (own : (name : List ℕ) (came : Fetched) → IsGiven name came met → AnyOf (MayHelp end.dir name came) (helps_first end.used end.was now)) where
    own_in : (name : List ℕ) (came : Fetched) → IsGiven name came met → AnyOf (MayHelp dir name came) (helps_first start.used was now)
    own_in name came given =
        let u : end.used ≡ start.used = ap (λ (k : Crew). k.used) same in
        subst (λ x. AnyOf (MayHelp x name came) (helps_first start.used was now)) d
        (subst (λ x. AnyOf (MayHelp end.dir name came) (helps_first start.used x now)) w
        (subst (λ x. AnyOf (MayHelp end.dir name came) (helps_first x end.was now)) u (own name came given)))

    pub answers_in : (es : Table) (how : Manner) (path : List ℕ) (before after : Seen) (k k' : ℕ) (t t' : Option (List ℕ)) (r : Status)
        → PageAnswers es how path (folder_with dir met) before after k k' t t' r → PageAnswers es how path (folder_by dir most was now) before after k k' t t' r
    answers_in = answers_as dir met start.used most was now few own_in

    pub reports_in : (es : Table) (ahead : ℕ) (how : Manner) (path : List ℕ) (before after : Seen) (t t' : Option (List ℕ)) (s : Shown) (r : Status)
        → Reports es ahead how path (folder_with dir met) before after t t' s r → Reports es ahead how path (folder_by dir most was now) before after t t' s r
    reports_in = reports_as dir met start.used most was now few own_in
