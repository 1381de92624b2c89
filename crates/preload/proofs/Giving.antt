-- One name more, and its answer; and what the answers say of the files.
use Rattle.std.proofs.Common.{◌≡◌, ◌≤◌, ℕ, ◌+◌, Bool, true, false, List, [], ◌∷◌, ◌++◌, take, Option, Some, None, IfSome, map, refl, ap, sym, ◌∙◌, subst, inl, inr, arith}
use Rattle.std.specs.Prelude.{◌⊎◌, IsSomeAnd}
use Rattle.std.specs.Option.{option_map}
use Rattle.std.proofs.lemmas.List.{map-append}
use mathlib.Core.List.{IsPrefix}
use Rattle.outside.specs.Outside.{Seen, KeepsOthers}
use Rattle.outside.specs.declared.traits.Port.{Port}
use Rattle.outside.specs.declared.traits.Port.TheVariants.{Script}
use Rattle.serial.specs.Scripts.{Fetched as Came, got, missing, faulted}
use Rattle.page_turns.specs.declared.scripts.TheConstants.{SCRIPT_LIMIT}
use Rattle.page_turns.specs.Given.{AbsencesRose, file_at, MayGive}
use Rattle.page_turns.specs.Scripts.{Met, Help, path_of, IsGiven, GivesMore, AnyOf, MayHelp}
use Rattle.page_turns.proofs.KeepsLemmas.{rose-on, rose-stays}
use Rattle.preload.specs.declared.messages.Wanted.{Wanted}
use Rattle.preload.specs.declared.messages.Wanted.TheVariants.{Ask}
use Rattle.preload.specs.declared.messages.Fetched.{Fetched}
use Rattle.preload.specs.declared.messages.Fetched.TheVariants.{Got, Missing, Tried, NoMemory}
use Rattle.preload.specs.Fetching.{told_by, GivesOne, BeginsOne, GivesAll, Serving, came_of, came_by, given_by}

gives-snoc : (dir : List ℕ) (names : List (List ℕ)) (answers : List Fetched) (name : List ℕ) (answer : Fetched) (before now after : Seen)
    → GivesAll dir names answers before now → GivesOne dir now after name answer → BeginsOne dir name now after answer → KeepsOthers Script now after → GivesAll dir (names ++ name ∷ []) (answers ++ answer ∷ []) before after
gives-snoc dir [] [] name answer before now after is one begins keeps =
    (after, subst (λ z. GivesOne dir z after name answer) is one, subst (λ z. BeginsOne dir name z after answer) is begins, subst (λ z. KeepsOthers Script z after) is keeps, refl)
gives-snoc dir (n ∷ ns) (a ∷ rest) name answer before now after (mid, first, file, kept, more) one begins keeps = (mid, first, file, kept, gives-snoc dir ns rest name answer mid now after more one begins keeps)
gives-snoc dir [] (a ∷ rest) name answer before now after none one begins keeps = absurd none
gives-snoc dir (n ∷ ns) [] name answer before now after none one begins keeps = absurd none

pub serves : (dir : List ℕ) (before now after : Seen) (taken taken' : List Wanted) (given given' : List Fetched) (name : List ℕ) (answer : Fetched)
    → taken' ≡ taken ++ Ask name ∷ [] → given' ≡ given ++ answer ∷ [] → GivesOne dir now after name answer → BeginsOne dir name now after answer → KeepsOthers Script now after
    → Serving dir before now taken given → Serving dir before after taken' given'
serves dir before now after taken taken' given given' name answer took gave one begins keeps (names, are, all) = (
  names ++ name ∷ [],
  took ∙ (ap (λ l. l ++ Ask name ∷ []) are ∙ sym (map-append Ask names (name ∷ []))),
  subst (λ g. GivesAll dir (names ++ name ∷ []) g before after) (sym gave) (gives-snoc dir names given name answer before now after all one begins keeps),
)

-- ---- what stays at the other ports, over all of them

pub keeps-none : (port : Port) (s : Seen) → KeepsOthers port s s
keeps-none port s = record {
  files = refl;
  left = λ other ne. refl;
  begun = λ other ne. refl;
  calls = λ other ne. refl;
  open_at = λ other ne. refl;
  other_faults = λ other ne. refl;
  other_absences = λ other ne. refl;
  faults = λ p. omega arith;
  absences = λ p. omega arith;
}

pub keeps-then : (port : Port) (before now after : Seen) → KeepsOthers port before now → KeepsOthers port now after → KeepsOthers port before after
keeps-then port before now after a b = record {
  files = b.files ∙ a.files;
  left = λ other ne. b.left other ne ∙ a.left other ne;
  begun = λ other ne. b.begun other ne ∙ a.begun other ne;
  calls = λ other ne. b.calls other ne ∙ a.calls other ne;
  open_at = λ other ne. b.open_at other ne ∙ a.open_at other ne;
  other_faults = λ other ne. b.other_faults other ne ∙ a.other_faults other ne;
  other_absences = λ other ne. b.other_absences other ne ∙ a.other_absences other ne;
  faults = λ p. let first = a.faults p in let second = b.faults p in omega arith;
  absences = λ p. let first = a.absences p in let second = b.absences p in omega arith;
}

pub gives-keeps : (dir : List ℕ) (names : List (List ℕ)) (answers : List Fetched) (before after : Seen) → GivesAll dir names answers before after → KeepsOthers Script before after
gives-keeps dir [] [] before after is = subst (λ z. KeepsOthers Script before z) (sym is) (keeps-none Script before)
gives-keeps dir (n ∷ ns) (a ∷ rest) before after (mid, one, begins, keeps, more) = keeps-then Script before mid after keeps (gives-keeps dir ns rest mid after more)
gives-keeps dir [] (a ∷ rest) before after none = absurd none
gives-keeps dir (n ∷ ns) [] before after none = absurd none

-- ---- what came of the names, came of the files

any-append : {A : Type 0} (P : A → Type 0) (xs ys : List A) → AnyOf P (xs ++ ys) → AnyOf P xs ⊎ AnyOf P ys
any-append P [] ys some = inr some
any-append P (x ∷ xs) ys (inl one) = inl (inl one)
any-append P (x ∷ xs) ys (inr some) = elim (any-append P xs ys some) [ inl a ↦ inl (inr a) | inr b ↦ inr b ]

pub any-front : {A : Type 0} (P : A → Type 0) (xs ys : List A) → AnyOf P xs → AnyOf P (xs ++ ys)
any-front P [] ys none = absurd none
any-front P (x ∷ xs) ys (inl one) = inl one
any-front P (x ∷ xs) ys (inr some) = inr (any-front P xs ys some)

pub any-back : {A : Type 0} (P : A → Type 0) (xs ys : List A) → AnyOf P ys → AnyOf P (xs ++ ys)
any-back P [] ys some = some
any-back P (x ∷ xs) ys some = inr (any-back P xs ys some)

pub any-of-both : {A : Type 0} (P : A → Type 0) (xs ys : List A) → AnyOf P (xs ++ ys) → AnyOf P xs ⊎ AnyOf P ys
any-of-both P xs ys some = any-append P xs ys some

-- by one answer
came-here : (dir name n : List ℕ) (came : Came) (answer : Fetched) (before now after : Seen) → GivesOne dir before now n answer → KeepsOthers Script now after → IsGiven name came (came_of n answer)
    → MayHelp dir name came (record { before = before; after = after })
came-here dir name n came (Got bytes) before now after one keeps (inl is) =
    let same : n ≡ name = ap (λ (e : List ℕ × Came). e.0) is in
    let what : got bytes.items ≡ came = ap (λ (e : List ℕ × Came). e.1) is in
    subst (λ c. MayHelp dir name c (record { before = before; after = after })) what
    (subst (λ m. IfSome (file_at before (path_of dir m)) (λ file. IsSomeAnd file (λ whole. bytes.items ≡ take (SCRIPT_LIMIT + 1) whole))) same one.0)
came-here dir name n came (Got bytes) before now after one keeps (inr none) = absurd none
came-here dir name n came Missing before now after one keeps (inl is) =
    let same : n ≡ name = ap (λ (e : List ℕ × Came). e.0) is in
    let what : missing ≡ came = ap (λ (e : List ℕ × Came). e.1) is in
    subst (λ c. MayHelp dir name c (record { before = before; after = after })) what
    (rose-stays _ _ _ one.0 (keeps.absences Script), subst (λ m. IfSome (file_at before (path_of dir m)) (λ file. file ≡ None)) same one.1)
came-here dir name n came Missing before now after one keeps (inr none) = absurd none
came-here dir name n came Tried before now after one keeps none = absurd none
came-here dir name n came NoMemory before now after one keeps none = absurd none

-- what a helper may give later, it may give from before on
help-since : (dir name : List ℕ) (came : Came) (before now after : Seen) → KeepsOthers Script before now → MayHelp dir name came (record { before = now; after = after }) → MayHelp dir name came (record { before = before; after = after })
help-since dir name (got bytes) before now after keeps may = subst (λ files. IfSome (option_map (λ map. map (path_of dir name)) files) (λ file. IsSomeAnd file (λ whole. bytes ≡ take (SCRIPT_LIMIT + 1) whole))) keeps.files may
help-since dir name missing before now after keeps may =
    (rose-on _ _ _ (keeps.absences Script) may.0, subst (λ files. IfSome (option_map (λ map. map (path_of dir name)) files) (λ file. file ≡ None)) keeps.files may.1)
help-since dir name faulted before now after keeps may = absurd may

gave-own : (dir : List ℕ) (names : List (List ℕ)) (taken rest put : List Fetched) (before after : Seen) → put ≡ taken ++ rest → GivesAll dir names put before after
    → (name : List ℕ) (came : Came) → IsGiven name came (came_by names taken) → MayHelp dir name came (record { before = before; after = after })
gave-own dir [] taken rest put before after is all name came given = absurd given
gave-own dir (n ∷ ns) [] rest put before after is all name came given = absurd given
gave-own dir (n ∷ ns) (a ∷ taken) rest [] before after is all name came given = absurd all
gave-own dir (n ∷ ns) (a ∷ taken) rest (p ∷ put) before after is (mid, one, begins, keeps, more) name came given =
    let same : p ≡ a = ap (head p) is in
    let then : put ≡ taken ++ rest = ap tail is in
    elim (any-of-both (λ (e : List ℕ × Came). e ≡ (name, came)) (came_of n a) (came_by ns taken) given) [
      | inl here ↦ came-here dir name n came a before mid after (subst (λ x. GivesOne dir before mid n x) same one) (gives-keeps dir ns put mid after more) here
      | inr later ↦ help-since dir name came before mid after keeps (gave-own dir ns taken rest put mid after then more name came later)
    ]
  where
    head : Fetched → List Fetched → Fetched
    head d [] = d
    head d (x ∷ xs) = x

    tail : List Fetched → List Fetched
    tail [] = []
    tail (x ∷ xs) = xs

pub gave_own : (dir : List ℕ) (names : List (List ℕ)) (taken put : List Fetched) (before after : Seen) → IsPrefix taken put → GivesAll dir names put before after
    → (name : List ℕ) (came : Came) → IsGiven name came (came_by names taken) → MayHelp dir name came (record { before = before; after = after })
gave_own dir names taken put before after (rest, is) all name came given = gave-own dir names taken rest put before after (sym is) all name came given

-- what is given is among what came
pub given-came : (names : List (List ℕ)) (told : List Bool) (answers : List Fetched) → GivesMore (given_by names told answers) (came_by names answers)
given-came [] told answers name f some = absurd some
given-came (n ∷ ns) [] answers name f some = absurd some
given-came (n ∷ ns) (b ∷ told) [] name f some = absurd some
given-came (n ∷ ns) (true ∷ told) (a ∷ answers) name f some =
    elim (any-of-both (λ (e : List ℕ × Came). e ≡ (name, f)) (came_of n a) (given_by ns told answers) some) [
      | inl here ↦ any-front (λ (e : List ℕ × Came). e ≡ (name, f)) (came_of n a) (came_by ns answers) here
      | inr later ↦ any-back (λ (e : List ℕ × Came). e ≡ (name, f)) (came_of n a) (came_by ns answers) (given-came ns told answers name f later)
    ]
given-came (n ∷ ns) (false ∷ told) (a ∷ answers) name f some = any-back (λ (e : List ℕ × Came). e ≡ (name, f)) (came_of n a) (came_by ns answers) (given-came ns told answers name f some)
