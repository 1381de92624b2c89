-- Scripts that are fetched while a page is read, and a world that has them all.
use Rattle.std.proofs.Common.{◌≡◌, ℕ, List, [], Option, Some, None, IfSome, refl, sym, subst, inl, inr}
use Rattle.std.specs.Prelude.{◌⊎◌}
use Rattle.outside.specs.Outside.{Seen}
use Rattle.outside.specs.declared.traits.Port.TheVariants as port
use Rattle.serial.specs.Scripts.{Fetched, got, missing}
use Rattle.core_steps.specs.Journals.{found}
use Rattle.page_turns.specs.Given.{AbsencesRose, file_at}
use Rattle.page_turns.specs.Scripts.{Folder, Met, Alike, path_of, IsAbsent, MayFetch, MayCome, AreScriptsOf, MayMeet, Fetches}
use Rattle.page_turns.proofs.ReachLemmas.{found_or, scripts_with}
use Rattle.page_turns.proofs.SameWorlds.{alike-refl, alike-sym}

-- ---- a world with all that was met

-- what may come of a name that wasn't met
abbrev file_of : Option (Option (List ℕ)) → Fetched
file_of None = got []
file_of (Some None) = missing
file_of (Some (Some bytes)) = got bytes

file_may : (dir : List ℕ) (before after : Seen) (name : List ℕ) → MayFetch dir before after name (file_of (file_at before (path_of dir name)))
file_may dir before after name = by_file (file_at before (path_of dir name)) refl
  where
    by_file : (file : Option (Option (List ℕ))) → file_at before (path_of dir name) ≡ file → MayFetch dir before after name (file_of file)
    by_file None is = subst (λ f. IfSome f (λ file. file ≡ Some [])) (sym is) tt
    by_file (Some None) is = subst (λ f. IsAbsent f (AbsencesRose port.Script before after)) (sym is) refl
    by_file (Some (Some bytes)) is = subst (λ f. IfSome f (λ file. file ≡ Some bytes)) (sym is) refl

-- a script of the name that agrees with what was met
record Agreed (folder : Folder) (before after : Seen) (met : Option Fetched) (name : List ℕ) : Type 0 where
  given : Fetched
  may : MayCome folder before after name given
  alike : Alike given (found_or given met)

agreed : (folder : Folder) (before after : Seen) (met : Option Fetched) (name : List ℕ) → ((f : Fetched) → met ≡ Some f → MayMeet folder before after name f) → Agreed folder before after met name
agreed folder before after None name meets =
    let f = file_of (file_at before (path_of folder.dir name)) in
    record { given = f; may = inl (file_may folder.dir before after name); alike = alike-refl f }
agreed folder before after (Some f) name meets =
    let there = meets f refl in
    record { given = there.0; may = there.1; alike = alike-sym f there.0 there.2 }

-- There are scripts of the folder that are to the parse as all that was met.
pub record HasWorld (folder : Folder) (before after : Seen) (met : Met) : Type 0 where
  pub scripts : List ℕ → Fetched
  pub are_scripts : AreScriptsOf folder before after scripts
  pub alike : (name : List ℕ) → Alike (scripts name) (scripts_with met scripts name)

pub has_world : {unmet : List (List ℕ)} (folder : Folder) (before after : Seen) (met : Met) → Fetches unmet folder before after [] met → HasWorld folder before after met
has_world folder before after met fetches = record {
  scripts = λ name. (at name).given;
  are_scripts = record { each = λ name. (at name).may };
  alike = λ name. (at name).alike;
}
  where
    only_fresh : (name : List ℕ) (f : Fetched) → (found name [] ≡ Some f) ⊎ MayMeet folder before after name f → MayMeet folder before after name f
    only_fresh name f (inl was) = absurd (cc was)
    only_fresh name f (inr may) = may

    at : (name : List ℕ) → Agreed folder before after (found name met) name
    at name = agreed folder before after (found name met) name (λ f is. only_fresh name f (fetches.fresh name f is))
