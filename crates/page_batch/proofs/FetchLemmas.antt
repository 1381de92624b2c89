-- Scripts that a batch fetches, one behind another.
use Rattle.std.proofs.Common.{◌≡◌, ◌≤◌, ◌+◌, ℕ, true, false, true≢false, List, [], ◌∷◌, Some, None, refl, sym, ap, subst, ◌∙◌, arith}
use Rattle.std.specs.Prelude.{Bool, Result, Ok, Err, OnOk, OnErr, Option, IfNone, is_some}
use Rattle.outside.specs.Outside.{Seen}
use Rattle.outside.specs.declared.traits.Port.TheVariants as port
use Rattle.serial.specs.Scripts.{is_lawful}
use Rattle.core_definitions.specs.Desk.{is_among}
use Rattle.core_steps.specs.declared.fetch.Fetch.{Fetch}
use Rattle.core_steps.specs.declared.fetch.Fetch.TheVariants as fetches
use Rattle.core_steps.specs.Fetches.{fetched_of, names_of}
use Rattle.core_steps.specs.Journals.{found}
use Rattle.core_steps.proofs.Events.{found-among}
use Rattle.page_turns.specs.declared.scripts.TheConstants.{SCRIPT_LIMIT}
use Rattle.page_turns.specs.Given.{MayGive, given_of}
use Rattle.page_turns.specs.Scripts.{Met, folder_with, path_of, GivenEarly, BeginsFile}
use Rattle.page_turns.proofs.KeepsLemmas.{Later}
use Rattle.page_turns.proofs.MeetLemmas.{may_meet, fetches_same, fetch_one, fetch_cut, known_more, fetches-then}
use Rattle.page_batch.specs.Reading.{RoseBy}
use Rattle.page_batch.specs.Rounds.{is_faulted, faulted_among, FetchesMore, FetchesOrSpends}
use Rattle.page_batch.proofs.CountLemmas.{rose-none, rose-one, rose-then, rose-is}

-- nobody fetches for a batch early
none-given : (name : List ℕ) → GivenEarly name [] → ⊥
none-given name (f, none) = none

pub more-none : (unmet : List (List ℕ)) (dir : List ℕ) (before : Seen) (s : Met) → FetchesMore unmet dir before before s s
more-none unmet dir before s =
    record { fetches = fetches_same unmet (folder_with dir []) before s; known = λ k. k; more = 0; count = omega arith; rose = rose-none (before.faults port.Script) (before.faults port.Script) (omega arith) }

fault-rose : (limit : ℕ) (path : List ℕ) (before after : Seen) (fetch : Fetch) → before.faults port.Script ≤ after.faults port.Script → MayGive limit port.Script path before after (given_of fetch)
    → RoseBy (is_faulted (fetched_of fetch)) (before.faults port.Script) (after.faults port.Script)
fault-rose limit path before after (fetches.Got bytes) le may = rose-none (before.faults port.Script) (after.faults port.Script) le
fault-rose limit path before after fetches.Missing le may = rose-none (before.faults port.Script) (after.faults port.Script) le
fault-rose limit path before after fetches.Faulted le may = rose-one (before.faults port.Script) (after.faults port.Script) may.0

module _ (dir name : List ℕ) (before after : Seen) (lawful : is_lawful name ≡ true) (met : Met) (fresh : found name met ≡ None) (le : before.faults port.Script ≤ after.faults port.Script) (begins : BeginsFile dir name before after) where
  -- memory ran out before the script was met
  pub more-cut : FetchesMore (name ∷ []) dir before after met met
  more-cut = record { fetches = fetch_cut (folder_with dir []) name before after lawful met fresh (none-given name) begins; known = λ k. k; more = 0; count = omega arith; rose = rose-none (before.faults port.Script) (after.faults port.Script) le }

  -- and it was met
  pub more-one : (fetch : Fetch) → MayGive SCRIPT_LIMIT port.Script (path_of dir name) before after (given_of fetch) → FetchesMore [] dir before after met ((name, fetched_of fetch) ∷ met)
  more-one fetch may = record {
    fetches = fetch_one (folder_with dir []) name before after lawful met fresh (fetched_of fetch) (may_meet (folder_with dir []) before after name SCRIPT_LIMIT fetch refl may) (none-given name) begins;
    known = known_more name (fetched_of fetch) met lawful (sym (found-among name met) ∙ ap is_some fresh);
    more = is_faulted (fetched_of fetch);
    count = refl;
    rose = fault-rose SCRIPT_LIMIT (path_of dir name) before after fetch le may;
  }

pub more-then : (unmet : List (List ℕ)) (dir : List ℕ) (before now after : Seen) (old mid new : Met) → Later before now → Later now after → FetchesMore [] dir before now old mid → FetchesMore unmet dir now after mid new
    → FetchesMore unmet dir before after old new
more-then unmet dir before now after old mid new first second a b = record {
  fetches = fetches-then before now after first second unmet (folder_with dir []) old mid new a.fetches b.fetches;
  known = λ k. b.known (a.known k);
  more = a.more + b.more;
  count = let one = a.count in let two = b.count in omega (arith, one, two);
  rose = rose-then a.more b.more (before.faults port.Script) (now.faults port.Script) (after.faults port.Script) a.rose b.rose (second.faults port.Script);
}

-- ---- by what the calls answer

pub none-there : {A : Type 0} (o : Option A) (P : Type 0) (b : Bool) → b ≡ is_some o → b ≡ false → IfNone o P → P
none-there None P b is none there = there
none-there (Some a) P b is none there = absurd (true≢false (sym is ∙ none))

pub fetched-new : {T E : Type 0} (r : Result T E) (dir name name' : List ℕ) (before after : Seen) (lawful : is_lawful name ≡ true) (met new : Met) (fresh : found name met ≡ None) (le : before.faults port.Script ≤ after.faults port.Script)
    → BeginsFile dir name before after → (fetch : Fetch) → MayGive SCRIPT_LIMIT port.Script (path_of dir name) before after (given_of fetch) → name' ≡ name → OnOk r (new ≡ (name', fetched_of fetch) ∷ met) → OnOk r (FetchesMore [] dir before after met new)
fetched-new (Ok x) dir name name' before after lawful met new fresh le begins fetch may same is =
    subst (λ (m : Met). FetchesMore [] dir before after met m) (sym (is ∙ ap (λ n. (n, fetched_of fetch) ∷ met) same)) (more-one dir name before after lawful met fresh le begins fetch may)
fetched-new (Err e) dir name name' before after lawful met new fresh le begins fetch may same is = tt

pub spent-new : {T E : Type 0} (r : Result T E) (dir name : List ℕ) (before after : Seen) (lawful : is_lawful name ≡ true) (met new : Met) (fresh : found name met ≡ None) (le : before.faults port.Script ≤ after.faults port.Script)
    → BeginsFile dir name before after → OnErr r (new ≡ met) → OnErr r (FetchesOrSpends dir before after met new)
spent-new (Ok x) dir name before after lawful met new fresh le begins is = tt
spent-new (Err e) dir name before after lawful met new fresh le begins is =
    (name ∷ [], subst (λ (m : Met). FetchesMore (name ∷ []) dir before after met m) (sym is) (more-cut dir name before after lawful met fresh le begins))
