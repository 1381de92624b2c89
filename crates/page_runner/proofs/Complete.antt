-- A run completes where nothing stands in its way.
use Rattle.std.proofs.Common.{◌≡◌, ℕ, ◌+◌, List, [], Bool, true, false, Option, Some, None, IfSome, refl, sym, ap, subst, ◌∙◌, inl, inr, arith, length, take}
use Rattle.std.specs.Prelude.{◌⊎◌, IsSomeAnd, nat_le, if◌then◌else◌}
use Rattle.std.proofs.Math.Path.{fun_ext}
use Rattle.std.proofs.lemmas.List.{take_all}
use Rattle.std.proofs.lemmas.Bool.{leb-true}
use Rattle.std.specs.Option.{option_map}
use Rattle.outside.specs.Outside.{Rose, Files, Seen}
use Rattle.outside.specs.declared.traits.Port.TheVariants.{Entities, Page, Script}
use Rattle.standard.specs.Entities.{Entities as Table, entities_of}
use Rattle.serial.specs.Scripts.{Fetched}
use Rattle.serial.specs.Scripts as fetched
use Rattle.serial.specs.Serial.{Outcome, finished}
use Rattle.page_runner.specs.Manner.{Manner, manner_of, output_in}
use Rattle.standard_laws.proofs.Fuel.{one_outcome}
use Rattle.page_runner.specs.declared.command.TheConstants.{ENTITIES_LIMIT}
use Rattle.page_runner.specs.declared.status.Status.{Status}
use Rattle.page_runner.specs.declared.status.Status.TheVariants as status
use Rattle.command_words.specs.Words.{PageAsked, Asked, for_page, for_make, for_batch}
use Rattle.page_turns.specs.Given.{Given, unmet, missing, faulted, got, FaultsRose, NoFault, AbsencesRose, file_at, MayGive}
use Rattle.page_turns.specs.Taken.{Took}
use Rattle.page_turns.specs.Scripts.{Folder, Help, path_of, IsAbsent, MayFetch, MayCome, AreScriptsOf, Alike, fetched_of, world_in}
use Rattle.page_turns.proofs.SameWorlds.{alike-refl, serial-same}
use Rattle.preload.specs.Teams.{helps_first}
use Rattle.page_turns.specs.Pages.{page_at, world_of, ComesTo}
use Rattle.page_runner.proofs.HelpLemmas.{helped_told}
use Rattle.page_runner.specs.Answers.{folder_by, TellAll, IsPageOf, PageMet, MayGivePage, IsParsed, Answer, status_with, answer_to_page, answer_over, answer_to, table_of, Gives, RunsTo, CompletesRun}

abbrev pub Only : Option (List ℕ) → Option (List ℕ) → Answer → Status → Type 0
Only t t' answer r = (r ≡ status.NoMemory) ⊎ ((r ≡ answer.0) × Took t t' answer.1)

pub gives_only : (rose : Type 0) (t t' : Option (List ℕ)) (answer : Answer) (r : Status) → Gives rose t t' answer r → ¬ rose → Only t t' answer r
gives_only rose t t' answer status.WriteFault gives unless = absurd (unless gives.0)
gives_only rose t t' answer status.NoMemory gives unless = inl refl
gives_only rose t t' answer status.Done gives unless = inr gives
gives_only rose t t' answer status.Usage gives unless = inr gives
gives_only rose t t' answer status.Entities gives unless = inr gives
gives_only rose t t' answer status.BadUtf8 gives unless = inr gives
gives_only rose t t' answer (status.Limit which) gives unless = inr gives
gives_only rose t t' answer status.ReadFault gives unless = inr gives
gives_only rose t t' answer status.Absent gives unless = inr gives
gives_only rose t t' answer status.List gives unless = inr gives

-- nothing but want of memory
memory_only : {P : Type 0} (rose : Type 0) (t t' : Option (List ℕ)) (r : Status) → Gives rose t t' (status.NoMemory, []) r → ¬ rose → (r ≡ status.NoMemory) ⊎ P
memory_only rose t t' r gives unless = elim (gives_only rose t t' (status.NoMemory, []) r gives unless) [ inl is ↦ inl is | inr both ↦ inl both.0 ]

pub all_taken : (limit : ℕ) (bytes : List ℕ) → nat_le (length bytes) limit ≡ true → take (limit + 1) bytes ≡ bytes
all_taken limit bytes fits = let small = leb-true (length bytes) limit fits in take_all (limit + 1) bytes (omega arith)

-- a table isn't too long
pub table_fits : (bytes : List ℕ) (es : Table) → table_of bytes ≡ Some es → nat_le (length bytes) ENTITIES_LIMIT ≡ true
table_fits bytes es is = by_test (nat_le (length bytes) ENTITIES_LIMIT) is
  where
    by_test : (b : Bool) → (if b then entities_of bytes else None) ≡ Some es → b ≡ true
    by_test true is = refl
    by_test false is = absurd (cc is)

pub if_some : {A : Type 0} (o : Option A) (P : A → Type 0) → ((x : A) → o ≡ Some x → P x) → IfSome o P
if_some None P h = tt
if_some (Some x) P h = h x refl

pub some_at : {A : Type 0} (o : Option A) (P : A → Type 0) (x : A) → o ≡ Some x → IfSome o P → P x
some_at o P x is h = let there = subst (λ q. IfSome q P) is h in there

-- where the files are told and no read of a script failed, this came of each script
absent_told : (file : Option (Option (List ℕ))) (rose : Type 0) (told : Option (List ℕ)) → file ≡ Some told → IsAbsent file rose → told ≡ None
absent_told file rose told is none = let there = subst (λ f. IsAbsent f rose) is none in there

pub fetch_told : (dir : List ℕ) (before after : Seen) (map : Files) (name : List ℕ) (f : Fetched) → before.files ≡ Some map → ¬ (FaultsRose Script before after) → MayFetch dir before after name f
    → f ≡ fetched_of (map (path_of dir name))
fetch_told dir before after map name (fetched.got bytes) told none may =
    let at : file_at before (path_of dir name) ≡ Some (map (path_of dir name)) = ap (option_map (λ m. m (path_of dir name))) told in
    let is : map (path_of dir name) ≡ Some bytes = some_at (file_at before (path_of dir name)) (λ f. f ≡ Some bytes) (map (path_of dir name)) at may in
    sym (ap fetched_of is)
fetch_told dir before after map name fetched.missing told none may =
    let at : file_at before (path_of dir name) ≡ Some (map (path_of dir name)) = ap (option_map (λ m. m (path_of dir name))) told in
    let is : map (path_of dir name) ≡ None = absent_told (file_at before (path_of dir name)) (AbsencesRose Script before after) (map (path_of dir name)) at may in
    sym (ap fetched_of is)
fetch_told dir before after map name fetched.faulted told none may = absurd (none may.0)

-- so the scripts are those of the folder
pub scripts_told : (dir : List ℕ) (before after : Seen) (map : Files) (scripts : List ℕ → Fetched) → before.files ≡ Some map → ¬ (FaultsRose Script before after) → ((name : List ℕ) → MayFetch dir before after name (scripts name))
    → scripts ≡ (λ name. fetched_of (map (path_of dir name)))
scripts_told dir before after map scripts told none each = fun_ext (λ name. fetch_told dir before after map name (scripts name) told none (each name))

-- or are the same to the parse, where helpers tell those files too
scripts_alike : (dir : List ℕ) (helps : List Help) (before after : Seen) (map : Files) (name : List ℕ) (f : Fetched) → before.files ≡ Some map → ¬ (FaultsRose Script before after) → TellAll map helps
    → MayCome (record { dir = dir; given = []; helps = helps }) before after name f → Alike f (fetched_of (map (path_of dir name)))
scripts_alike dir helps before after map name f told none all (inl may) = subst (λ g. Alike f g) (fetch_told dir before after map name f told none may) (alike-refl f)
scripts_alike dir helps before after map name f told none all (inr (inl nothing)) = absurd nothing
scripts_alike dir helps before after map name f told none all (inr (inr some)) = helped_told dir map name f helps all some

abbrev Finishes : Manner → Option (List ℕ) → Option (List ℕ) → Status → Outcome → Type 0
Finishes how t t' r o = (r ≡ status.NoMemory) ⊎ ((r ≡ status_with o.result) × Took t t' (output_in how o))

module _ (asked : PageAsked) (was is : List Seen) (before after : Seen) (map : Files) (told : before.files ≡ Some map) (rose : Type 0) (t t' : Option (List ℕ)) (r : Status) (unless : ¬ rose)
    (none : ¬ (FaultsRose Entities before after)) (none' : ¬ (FaultsRose Page before after)) (none'' : ¬ (FaultsRose Script before after))
    (es : Table) (page : List ℕ) (there : map asked.page ≡ Some page) (o : Outcome) (comes : ComesTo (world_in es map asked.dir) (record { bytes = page; fault = false }) o) (all : TellAll map (helps_first asked.preload was is)) where
  abbrev folder : Folder
  folder = folder_by asked.dir asked.preload was is

  file_told : (path : List ℕ) → file_at before path ≡ Some (map path)
  file_told path = ap (option_map (λ m. m path)) told

  read_page : (bytes : List ℕ) (fault : Bool) (scripts : List ℕ → Fetched) (end : Outcome) → IsPageOf asked.page before after (record { bytes = bytes; fault = fault })
      → AreScriptsOf folder before after scripts → ComesTo (world_of es scripts) (record { bytes = bytes; fault = fault }) end
      → Gives rose t t' (status_with end.result, output_in (manner_of asked) end) r → Finishes (manner_of asked) t t' r o
  read_page bytes true scripts end may are parsed gives = absurd (none' (may.cause refl))
  read_page bytes false scripts end may are parsed gives =
      let same : Some page ≡ Some bytes = some_at (file_at before asked.page) (λ f. f ≡ Some bytes) (Some page) (file_told asked.page ∙ ap Some there) (may.whole refl) in
      let all_read : bytes ≡ page = cc in
      let here = subst (λ b. ComesTo (world_of es scripts) (record { bytes = b; fault = false }) end) all_read parsed in
      let alike : (name : List ℕ) → Alike (scripts name) (fetched_of (map (path_of asked.dir name))) = λ name. scripts_alike asked.dir folder.helps before after map name (scripts name) told none'' all (are.each name) in
      let here' = serial-same (world_of es scripts) (λ name. fetched_of (map (path_of asked.dir name))) alike (page_at (record { bytes = page; fault = false })) end here in
      let one : end ≡ o = one_outcome (page_at (record { bytes = page; fault = false })) (world_in es map asked.dir) end o here' comes in
      gives_only rose t t' (status_with o.result, output_in (manner_of asked) o) r (subst (λ e. Gives rose t t' (status_with e.result, output_in (manner_of asked) e) r) one gives) unless

  met_page : (given : Given PageMet) → MayGivePage asked.page folder before after given → IsParsed es given → Gives rose t t' (answer_to_page (manner_of asked) given) r → Finishes (manner_of asked) t t' r o
  met_page unmet may parsed gives = memory_only rose t t' r gives unless
  met_page missing may parsed gives = absurd (cc (some_at (file_at before asked.page) (λ f. f ≡ None) (Some page) (file_told asked.page ∙ ap Some there) may.1))
  met_page faulted may parsed gives = absurd (none' may.0)
  met_page (got p) may parsed gives = read_page p.read.bytes p.read.fault p.scripts p.outcome may.0.read may.0.scripts parsed gives

  met_entities : (entities : List ℕ) (given : Given (List ℕ)) (given' : Given PageMet) → map asked.entities ≡ Some entities → table_of entities ≡ Some es
      → MayGive ENTITIES_LIMIT Entities asked.entities before after given → MayGivePage asked.page folder before after given'
      → ((bytes : List ℕ) (es : Table) → given ≡ got bytes → table_of bytes ≡ Some es → IsParsed es given')
      → Gives rose t t' (answer_to (manner_of asked) given given') r → Finishes (manner_of asked) t t' r o
  met_entities entities unmet given' at table may may' parsed gives = memory_only rose t t' r gives unless
  met_entities entities missing given' at table may may' parsed gives = absurd (cc (some_at (file_at before asked.entities) (λ f. f ≡ None) (Some entities) (file_told asked.entities ∙ ap Some at) may.1))
  met_entities entities faulted given' at table may may' parsed gives = absurd (none may.0)
  met_entities entities (got bytes) given' at table may may' parsed gives =
      let read = some_at (file_at before asked.entities) (λ f. IsSomeAnd f (λ whole. bytes ≡ take (ENTITIES_LIMIT + 1) whole)) (Some entities) (file_told asked.entities ∙ ap Some at) may.0 in
      let all : bytes ≡ entities = read ∙ all_taken ENTITIES_LIMIT entities (table_fits entities es table) in
      let here : table_of bytes ≡ Some es = ap table_of all ∙ table in
      met_page given' may' (parsed bytes es refl here) (subst (λ k. Gives rose t t' (answer_over (manner_of asked) k given') r) here gives)

-- the whole
pub completes : (asked : Option Asked) (was is : List Seen) (before after : Seen) (sink sink' : ℕ) (t t' : Option (List ℕ)) (r : Status) → RunsTo asked was is before after sink sink' t t' r → CompletesRun asked was is before after sink sink' t t' r
completes None was is before after sink sink' t t' r runs = tt
completes (Some (for_make asked)) was is before after sink sink' t t' r runs = tt
completes (Some (for_batch asked)) was is before after sink sink' t t' r runs = tt
completes (Some (for_page asked)) was is before after sink sink' t t' r runs = if_some before.files _ (λ map told entities page es o there table there' all comes none.
    met_entities asked was is before after map told (Rose sink sink') t t' r none.at_sink none.entities none.page none.script es page there' o comes all
    entities runs.entities runs.page there table runs.may_entities runs.may_page runs.parsed runs.gives)
