-- The helpers of a run, one more and one changed.
use Rattle.std.proofs.Common.{◌≡◌, ◌≤◌, ◌<◌, ℕ, suc, zero, Bool, true, false, true≢false, ◌+◌, List, [], ◌∷◌, ◌++◌, length, map, flat_map, Option, Some, None, set, get_or, slice_get, eq-or-lt_of_le, refl, sym, ap, ap₂, ◌∙◌, subst, inl, inr, append-nil, append_assoc, length-append, arith}
use Rattle.std.specs.Prelude.{◌⊎◌, ◌≢◌, if◌then◌else◌, ◌||◌, vec_len}
use Rattle.std.specs.Vec.{vec_capacity}
use Rattle.std.specs.List.{AllByRecursion, list_any}
use Rattle.std.specs.String.{string_bytes}
use Rattle.std.proofs.lemmas.List.{map-append}
use mathlib.Core.List.{IsPrefix}
use Rattle.html_types.specs.Text.{same_text}
use Rattle.outside.specs.Outside.{Seen}
use Rattle.outside.specs.declared.traits.Outside as Outside
use Rattle.serial.specs.Scripts.{Fetched as Came, is_lawful}
use Rattle.core_steps.specs.Fetches.{fetched_of}
use Rattle.page_turns.specs.declared.prefetch.Early.{Early}
use Rattle.page_turns.specs.declared.prefetch.Early.TheVariants.{Unasked, Nothing, Came as Brought}
use Rattle.page_turns.specs.Scripts.{Met, Help, AreDistinct, IsGiven, GivesMore, AnyOf, MayHelp}
use Rattle.page_turns.specs.Early.{GivesOneMore, IsNew, TakesNext}
use Rattle.page_turns.proofs.TextLemmas.{same-refl}
use Rattle.preload.specs.declared.messages.Wanted.{Wanted}
use Rattle.preload.specs.declared.messages.Wanted.TheVariants.{Ask, Stop}
use Rattle.preload.specs.declared.messages.Fetched.{Fetched}
use Rattle.preload.specs.declared.helper.Helper.{Helper}
use Rattle.preload.specs.declared.helper.HelperLanes.{HelperLanes}
use Rattle.preload.specs.declared.team.Fetcher.{Fetcher}
use Rattle.preload.specs.declared.team.Member.{Member}
use Rattle.preload.specs.declared.team.Member.TheVariants.{Works, Idle}
use Rattle.preload.specs.Names.{is_listed}
use Rattle.preload.specs.Fetching.{GivesAll, FetchedAll, came_of, came_by, given_by}
use Rattle.preload.proofs.AllTaken.{all-taken}
use Rattle.preload.specs.Helping.{IsWorking}
use Rattle.preload.specs.Teams.{Placed, to_member, to_rest, IsAsked, given_of, to_come_of, HelpedBy, HelpedEach, helps_first, asked_in, names_in_lanes, names_through, given_in_lanes, given_through, CameAs, AsksMore, IsMember, AreMembers, was_of, helper_of, IsIn, AreIn, names_to, names_in, to_come_to, to_come_in, given_to, given_in, SameMember, SameMembers, IsUnasked, AreUnasked, CameBack, GaveOwn, IsAskedIn, CameBackEach}
use Rattle.preload.proofs.Giving.{any-front, any-back, any-of-both, gives-keeps, gave_own, given-came}

-- ---- what is given of the answers

-- where none was taken
given-none : (names : List (List ℕ)) (answers : List Fetched) → given_by names [] answers ≡ []
given-none [] answers = refl
given-none (n ∷ ns) answers = refl

-- a name more, which isn't answered yet
pub given-named : (names : List (List ℕ)) (name : List ℕ) (told : List Bool) (answers : List Fetched) → length told ≤ length names → given_by (names ++ name ∷ []) told answers ≡ given_by names told answers
given-named [] name [] answers le = refl
given-named [] name (b ∷ told) answers le = absurd (omega (arith, le))
given-named (n ∷ ns) name [] answers le = refl
given-named (n ∷ ns) name (b ∷ told) [] le = refl
given-named (n ∷ ns) name (b ∷ told) (a ∷ answers) le = ap (λ l. (if b then came_of n a else []) ++ l) (given-named ns name told answers (omega (arith, le)))

-- an answer more
told-more : (names : List (List ℕ)) (told : List Bool) (answers : List Fetched) (name : List ℕ) (b : Bool) (answer : Fetched) → length told ≡ length answers → slice_get names (length told) ≡ Some name
    → given_by names (told ++ b ∷ []) (answers ++ answer ∷ []) ≡ given_by names told answers ++ (if b then came_of name answer else [])
told-more [] told answers name b answer same at = absurd (cc at)
told-more (n ∷ ns) [] [] name b answer same at =
    let is : n ≡ name = cc at in
    ap (λ l. (if b then came_of n answer else []) ++ l) (given-none ns []) ∙ append-nil (if b then came_of n answer else []) ∙ ap (λ m. if b then came_of m answer else []) is
told-more (n ∷ ns) (t ∷ told) (a ∷ answers) name b answer same at =
    ap (λ l. (if t then came_of n a else []) ++ l) (told-more ns told answers name b answer (omega (arith, same)) at)
    ∙ sym (append_assoc (if t then came_of n a else []) (given_by ns told answers) (if b then came_of name answer else []))
told-more (n ∷ ns) [] (a ∷ answers) name b answer same at = absurd (omega (arith, same))
told-more (n ∷ ns) (t ∷ told) [] name b answer same at = absurd (omega (arith, same))

-- what is given besides
one-more : (name : List ℕ) (f : Came) (old : Met) → GivesOneMore name f old (old ++ (name, f) ∷ [])
one-more name f old = record {
  more = λ n g some. any-front (λ (e : List ℕ × Came). e ≡ (n, g)) old ((name, f) ∷ []) some;
  here = any-back (λ (e : List ℕ × Came). e ≡ (name, f)) old ((name, f) ∷ []) (inl refl);
  only = λ n g some. elim (any-of-both (λ (e : List ℕ × Came). e ≡ (n, g)) old ((name, f) ∷ []) some) [
    | inl before ↦ inl before
    | inr last ↦ inr (elim last [ inl is ↦ sym (ap (λ (e : List ℕ × Came). e.0) is) | inr none ↦ absurd none ])
  ];
}

module _ (names : List (List ℕ)) (told : List Bool) (answers : List Fetched) (name : List ℕ) (answer : Fetched) (met : Met) (n n' : ℕ) (same : length told ≡ length answers) (at : slice_get names (length told) ≡ Some name)
    (less : n' < n) where
  abbrev Given : Met
  Given = given_by names told answers

  -- what came of a script that hadn't arrived is told
  pub takes_told : (early : Early) → CameAs name answer early → IsNew name met → TakesNext early met Given (given_by names (told ++ true ∷ []) (answers ++ answer ∷ [])) n n'
  takes_told Unasked came new = absurd came
  takes_told Nothing came new = (told-more names told answers name true answer same at ∙ ap (λ l. Given ++ l) came ∙ append-nil Given, less)
  takes_told (Brought other fetch) came new =
      let is : given_by names (told ++ true ∷ []) (answers ++ answer ∷ []) ≡ Given ++ (name, fetched_of fetch) ∷ [] = told-more names told answers name true answer same at ∙ ap (λ l. Given ++ l) came.1 in (
        subst (λ m. GivesOneMore m (fetched_of fetch) Given (given_by names (told ++ true ∷ []) (answers ++ answer ∷ []))) (sym came.0) (subst (λ z. GivesOneMore name (fetched_of fetch) Given z) (sym is) (one-more name (fetched_of fetch) Given)),
        subst (λ m. IsNew m met) (sym came.0) new,
        less,
      )

  -- and another isn't
  pub takes_untold : TakesNext Nothing met Given (given_by names (told ++ false ∷ []) (answers ++ answer ∷ [])) n n'
  takes_untold = (told-more names told answers name false answer same at ∙ append-nil Given, less)

-- ---- names, each once

-- none of them is that name
pub unlisted : (names : List (List ℕ)) (name : List ℕ) → ((k : ℕ) (n : List ℕ) → slice_get names k ≡ Some n → same_text n name ≡ false) → is_listed name names ≡ false
unlisted [] name none = refl
unlisted (n ∷ names) name none = ap₂ (λ a b. a || b) (none 0 n refl) (unlisted names name (λ k m there. none (suc k) m there))

-- one more was looked at
pub passed : {A : Type 0} (P : A → Type 0) (xs : List A) (i : ℕ) (x : A) → slice_get xs i ≡ Some x → P x → ((k : ℕ) (y : A) → k < i → slice_get xs k ≡ Some y → P y) → (k : ℕ) (y : A) → k < i + 1 → slice_get xs k ≡ Some y → P y
passed P xs i x there one all k y less is =
    let le : k ≤ i = omega (arith, less) in
    elim (eq-or-lt_of_le le) [
      | inl e ↦ (let same : Some y ≡ Some x = sym is ∙ (ap (slice_get xs) e ∙ there) in let same' : x ≡ y = cc same in subst P same' one)
      | inr lt ↦ all k y lt is
    ]

apart : (name : List ℕ) (others : List (List ℕ)) → is_listed name others ≡ false → AllByRecursion (λ other. name ≢ other) others
apart name [] none = tt
apart name (o ∷ others) none = by (λ e. apart name others e) (same_text o name) refl none
  where
    by : (is_listed name others ≡ false → AllByRecursion (λ other. name ≢ other) others) → (b : Bool) → same_text o name ≡ b → (b || is_listed name others) ≡ false → (name ≢ o) × AllByRecursion (λ other. name ≢ other) others
    by rest true q e = absurd (true≢false e)
    by rest false q e = (λ same. true≢false (sym (same-refl o) ∙ ap (same_text o) (sym same) ∙ q), rest e)

all-snoc : {A : Type 0} (P : A → Type 0) (xs : List A) (x : A) → AllByRecursion P xs → P x → AllByRecursion P (xs ++ x ∷ [])
all-snoc P [] x all one = (one, tt)
all-snoc P (y ∷ ys) x all one = (all.0, all-snoc P ys x all.1 one)

pub distinct-snoc : (names : List (List ℕ)) (name : List ℕ) → AreDistinct names → is_listed name names ≡ false → AreDistinct (names ++ name ∷ [])
distinct-snoc names name distinct none = by names distinct (apart name names none)
  where
    by : (ns : List (List ℕ)) → AreDistinct ns → AllByRecursion (λ other. name ≢ other) ns → AreDistinct (ns ++ name ∷ [])
    by [] distinct all = (tt, tt)
    by (n ∷ ns) distinct all = (all-snoc (λ other. other ≢ n) ns name distinct.0 all.0, by ns distinct.1 all.1)

-- one more among them
all-insert : {A : Type 0} (P : A → Type 0) (xs ys : List A) (x : A) → AllByRecursion P (xs ++ ys) → P x → AllByRecursion P (xs ++ x ∷ ys)
all-insert P [] ys x all one = (one, all)
all-insert P (z ∷ xs) ys x all one = (all.0, all-insert P xs ys x all.1 one)

all-turned : (name : List ℕ) (others : List (List ℕ)) → AllByRecursion (λ other. name ≢ other) others → AllByRecursion (λ other. other ≢ name) others
all-turned name [] all = tt
all-turned name (o ∷ others) all = ((λ same. all.0 (sym same)), all-turned name others all.1)

distinct-insert : (xs ys : List (List ℕ)) (name : List ℕ) → AreDistinct (xs ++ ys) → AllByRecursion (λ other. name ≢ other) (xs ++ ys) → AreDistinct (xs ++ name ∷ ys)
distinct-insert [] ys name distinct all = (all-turned name ys all, distinct)
distinct-insert (x ∷ xs) ys name distinct all = (all-insert (λ other. other ≢ x) xs ys name distinct.0 all.0, distinct-insert xs ys name distinct.1 all.1)

all-both : {A : Type 0} (P : A → Type 0) (xs ys : List A) → AllByRecursion P xs → AllByRecursion P ys → AllByRecursion P (xs ++ ys)
all-both P [] ys first second = second
all-both P (x ∷ xs) ys first second = (first.0, all-both P xs ys first.1 second)

-- ---- lists that are joined

pub flat-snoc : {X A : Type 0} (f : X → List A) (xs : List X) (x : X) → flat_map f xs ≡ [] → f x ≡ [] → flat_map f (xs ++ x ∷ []) ≡ []
flat-snoc f [] x none one = ap (λ l. l ++ []) one
flat-snoc {A = A} f (y ∷ xs) x none one = by (λ e. flat-snoc f xs x e one) (f y) none
  where
    by : (flat_map f xs ≡ [] → flat_map f (xs ++ x ∷ []) ≡ []) → (ys : List A) → ys ++ flat_map f xs ≡ [] → ys ++ flat_map f (xs ++ x ∷ []) ≡ []
    by rest [] e = rest e
    by rest (z ∷ zs) e = absurd (cc e)

pub flat-set : {X A : Type 0} (f : X → List A) (xs : List X) (k : ℕ) (x y : X) → slice_get xs k ≡ Some x → f y ≡ f x → flat_map f (set xs k y) ≡ flat_map f xs
flat-set f [] k x y there same = refl
flat-set f (z ∷ xs) zero x y there same = let is : z ≡ x = cc there in ap (λ l. l ++ flat_map f xs) (same ∙ ap f (sym is))
flat-set f (z ∷ xs) (suc k) x y there same = ap (λ l. f z ++ l) (flat-set f xs k x y there same)

-- ---- a fetcher, one name more, or one answer

module _ {F : Type 0} (g : Outside.Ghosts F) (f f' : Fetcher F) (is : IsAsked g f) where
  pub asks_one : (name : List ℕ) → vec_len f.names < 64 → is_listed name f.names.items ≡ false → is_lawful name ≡ true → f'.names.items ≡ f.names.items ++ name ∷ [] → vec_len f'.names ≡ vec_len f.names + 1
      → vec_capacity f'.names ≡ vec_capacity f.names → f'.told ≡ f.told → f'.helper.ask.put ≡ f.helper.ask.put ++ Ask name ∷ [] → f'.helper.ask.lane ≡ f.helper.ask.lane → f'.helper ≡ record f.helper { ask = f'.helper.ask }
      → IsAsked g f'
  asks_one name few new lawful names count room told put lane same = record {
    working = subst (λ (h : Helper F). IsWorking g (string_bytes h.dir) h) (sym same) (record {
      seated = is.working.seated;
      asked = is.working.asked ∙ sym lane;
      answers = is.working.answers;
      folder = refl;
    });
    put = put ∙ (ap (λ l. l ++ Ask name ∷ []) is.put ∙ (sym (map-append Ask f.names.items (name ∷ [])) ∙ ap (map Ask) (sym names)));
    told = ap (λ v. vec_len v) told ∙ (is.told ∙ sym (ap (λ (h : Helper F). length h.answers.taken) same));
    so_far = let n = ap (λ v. vec_len v) told in let le = is.so_far in omega (arith, n, le, count);
    lawful = subst (AllByRecursion (λ n. is_lawful n ≡ true)) (sym names) (all-snoc (λ n. is_lawful n ≡ true) f.names.items name is.lawful lawful);
    once = subst AreDistinct (sym names) (distinct-snoc f.names.items name is.once new);
    few = omega (arith, few, count);
    room = (subst (λ n. 64 ≤ n) (sym room) is.room.0, subst (λ v. 64 ≤ vec_capacity v) (sym told) is.room.1);
  }

  pub given_one : (name : List ℕ) → f'.names.items ≡ f.names.items ++ name ∷ [] → f'.told ≡ f.told → f'.helper ≡ record f.helper { ask = f'.helper.ask } → given_of f' ≡ given_of f
  given_one name names told same =
      let so_far = is.so_far in
      let told_are = f.told.ok.0 in
      let names_are = f.names.ok.0 in
      let n : length f.told.items ≤ length f.names.items = omega (arith, so_far, told_are, names_are) in
      ap (λ l. given_by l f'.told.items f'.helper.answers.taken) names ∙ (ap (λ v. given_by (f.names.items ++ name ∷ []) v.items f'.helper.answers.taken) told
      ∙ (ap (λ (h : Helper F). given_by (f.names.items ++ name ∷ []) f.told.items h.answers.taken) same ∙ given-named f.names.items name f.told.items f.helper.answers.taken n))

  pub takes_one : (b : Bool) (answer : Fetched) → vec_len f.told < vec_len f.names → f'.names ≡ f.names → f'.told.items ≡ f.told.items ++ b ∷ [] → vec_len f'.told ≡ vec_len f.told + 1 → vec_capacity f'.told ≡ vec_capacity f.told
      → f'.helper.answers.taken ≡ f.helper.answers.taken ++ answer ∷ [] → f'.helper.answers.lane ≡ f.helper.answers.lane → f'.helper ≡ record f.helper { answers = f'.helper.answers } → IsAsked g f'
  takes_one b answer some names told count room taken lane same = record {
    working = subst (λ (h : Helper F). IsWorking g (string_bytes h.dir) h) (sym same) (record {
      seated = is.working.seated;
      asked = is.working.asked;
      answers = is.working.answers ∙ sym lane;
      folder = refl;
    });
    put = ap (λ (h : Helper F). h.ask.put) same ∙ (is.put ∙ ap (λ v. map Ask v.items) (sym names));
    told = let n = is.told in let m = ap (λ l. length l) taken ∙ length-append f.helper.answers.taken (answer ∷ []) in omega (arith, n, m, count);
    so_far = let n = ap (λ v. vec_len v) names in omega (arith, n, some, count);
    lawful = subst (λ v. AllByRecursion (λ n. is_lawful n ≡ true) v.items) (sym names) is.lawful;
    once = subst (λ v. AreDistinct v.items) (sym names) is.once;
    few = subst (λ v. vec_len v ≤ 64) (sym names) is.few;
    room = (subst (λ v. 64 ≤ vec_capacity v) (sym names) is.room.0, subst (λ n. 64 ≤ n) (sym room) is.room.1);
  }

-- what an answer gives, of the fetcher as it is and as it was
module _ {F : Type 0} (g : Outside.Ghosts F) (f f' : Fetcher F) (is : IsAsked g f) (name : List ℕ) (answer : Fetched) (met : Met) (some : vec_len f.told < vec_len f.names) (at : slice_get f.names.items (vec_len f.told) ≡ Some name)
    (names : f'.names ≡ f.names) (count : vec_len f'.told ≡ vec_len f.told + 1) (taken : f'.helper.answers.taken ≡ f.helper.answers.taken ++ answer ∷ []) where
  told_are : length f.told.items ≡ length f.helper.answers.taken
  told_are = sym f.told.ok.0 ∙ is.told

  at_told : slice_get f.names.items (length f.told.items) ≡ Some name
  at_told = subst (λ n. slice_get f.names.items n ≡ Some name) f.told.ok.0 at

  less : to_come_of f' < to_come_of f
  less = let same = ap (λ v. vec_len v) names in let few = is.few in omega (arith, same, few, some, count)

  with-told : (b : Bool) (early : Early) → f'.told.items ≡ f.told.items ++ b ∷ [] → TakesNext early met (given_of f) (given_by f.names.items (f.told.items ++ b ∷ []) (f.helper.answers.taken ++ answer ∷ [])) (to_come_of f) (to_come_of f')
      → TakesNext early met (given_of f) (given_of f') (to_come_of f) (to_come_of f')
  with-told b early told next =
      let same : given_of f' ≡ given_by f.names.items (f.told.items ++ b ∷ []) (f.helper.answers.taken ++ answer ∷ []) =
      ap (λ v. given_by v.items f'.told.items f'.helper.answers.taken) names ∙ (ap (λ l. given_by f.names.items l f'.helper.answers.taken) told ∙ ap (λ l. given_by f.names.items (f.told.items ++ b ∷ []) l) taken) in
      subst (λ m. TakesNext early met (given_of f) m (to_come_of f) (to_come_of f')) (sym same) next

  pub next_told : (early : Early) → f'.told.items ≡ f.told.items ++ true ∷ [] → CameAs name answer early → IsNew name met → TakesNext early met (given_of f) (given_of f') (to_come_of f) (to_come_of f')
  next_told early told came new = with-told true early told (takes_told f.names.items f.told.items f.helper.answers.taken name answer met (to_come_of f) (to_come_of f') told_are at_told less early came new)

  pub next_untold : f'.told.items ≡ f.told.items ++ false ∷ [] → TakesNext Nothing met (given_of f) (given_of f') (to_come_of f) (to_come_of f')
  next_untold told = with-told false Nothing told (takes_untold f.names.items f.told.items f.helper.answers.taken name answer met (to_come_of f) (to_come_of f') told_are at_told less)

-- ---- one of them changes

module _ {F : Type 0} (g : Outside.Ghosts F) where
  pub member-at : (ms : List (Member F)) (k : ℕ) (m : Member F) → AreMembers g ms → slice_get ms k ≡ Some m → IsMember g m
  member-at [] k m all there = absurd (cc there)
  member-at (x ∷ ms) zero m all there = let same : x ≡ m = cc there in subst (IsMember g) same all.0
  member-at (x ∷ ms) (suc k) m all there = member-at ms k m all.1 there

  pub members-set : (ms : List (Member F)) (k : ℕ) (m : Member F) → AreMembers g ms → IsMember g m → AreMembers g (set ms k m)
  members-set [] k m all one = tt
  members-set (x ∷ ms) zero m all one = (one, all.1)
  members-set (x ∷ ms) (suc k) m all one = (all.0, members-set ms k m all.1 one)

  pub members-snoc : (ms : List (Member F)) (m : Member F) → AreMembers g ms → IsMember g m → AreMembers g (ms ++ m ∷ [])
  members-snoc [] m all one = (one, tt)
  members-snoc (x ∷ ms) m all one = (all.0, members-snoc ms m all.1 one)

module _ {F : Type 0} where
  helper-same : (m m' : Member F) → SameMember m m' → helper_of m' ≡ helper_of m
  helper-same (Works f) (Works f') same = ap (λ w. w.value) same.0
  helper-same (Idle h) (Idle h') same = same
  helper-same (Works f) (Idle h) same = absurd same
  helper-same (Idle h) (Works f) same = absurd same

  pub helpers_same : (ms ms' : List (Member F)) → SameMembers ms ms' → map helper_of ms' ≡ map helper_of ms
  helpers_same [] [] same = refl
  helpers_same (m ∷ ms) (m' ∷ ms') same = ap₂ (λ x xs. x ∷ xs) (helper-same m m' same.0) (helpers_same ms ms' same.1)
  helpers_same [] (m' ∷ ms') same = absurd same
  helpers_same (m ∷ ms) [] same = absurd same

  pub same-refl-member : (m : Member F) → SameMember m m
  same-refl-member (Works f) = (refl, refl)
  same-refl-member (Idle h) = refl

  pub same_members : (ms : List (Member F)) → SameMembers ms ms
  same_members [] = tt
  same_members (m ∷ ms) = (same-refl-member m, same_members ms)

  pub same-set : (ms : List (Member F)) (k : ℕ) (m m' : Member F) → slice_get ms k ≡ Some m → SameMember m m' → SameMembers ms (set ms k m')
  same-set [] k m m' there same = absurd (cc there)
  same-set (x ∷ ms) zero m m' there same = let is : x ≡ m = cc there in (subst (λ z. SameMember z m') (sym is) same, same_members ms)
  same-set (x ∷ ms) (suc k) m m' there same = (same-refl-member x, same-set ms k m m' there same)

  in-same : (dir : List ℕ) (m m' : Member F) → SameMember m m' → IsIn dir m → IsIn dir m'
  in-same dir (Works f) (Works f') same is = ap string_bytes same.1 ∙ is
  in-same dir (Idle h) (Idle h') same is = tt
  in-same dir (Works f) (Idle h) same is = absurd same
  in-same dir (Idle h) (Works f) same is = absurd same

  pub ins_same : (dir : List ℕ) (ms ms' : List (Member F)) → SameMembers ms ms' → AreIn dir ms → AreIn dir ms'
  ins_same dir [] [] same all = tt
  ins_same dir (m ∷ ms) (m' ∷ ms') same all = (in-same dir m m' same.0 all.0, ins_same dir ms ms' same.1 all.1)
  ins_same dir [] (m' ∷ ms') same all = absurd same
  ins_same dir (m ∷ ms) [] same all = absurd same

  pub count_same : (ms ms' : List (Member F)) → SameMembers ms ms' → length ms' ≡ length ms
  count_same [] [] same = refl
  count_same (m ∷ ms) (m' ∷ ms') same = ap suc (count_same ms ms' same.1)
  count_same [] (m' ∷ ms') same = absurd same
  count_same (m ∷ ms) [] same = absurd same

  pub ins-snoc : (dir : List ℕ) (ms : List (Member F)) (m : Member F) → AreIn dir ms → IsIn dir m → AreIn dir (ms ++ m ∷ [])
  ins-snoc dir [] m all one = (one, tt)
  ins-snoc dir (x ∷ ms) m all one = (all.0, ins-snoc dir ms m all.1 one)

  -- the names, where one is asked for a name more
  names-split : (ms : List (Member F)) (k : ℕ) (m m' : Member F) (name : List ℕ) → slice_get ms k ≡ Some m → names_to m' ≡ names_to m ++ name ∷ []
      → (xs : List (List ℕ)) × (ys : List (List ℕ)) × (names_in ms ≡ xs ++ ys) × (names_in (set ms k m') ≡ xs ++ name ∷ ys)
  names-split [] k m m' name there more = absurd (cc there)
  names-split (x ∷ ms) zero m m' name there more =
      let is : x ≡ m = cc there in
      (names_to m, names_in ms, ap (λ z. names_to z ++ names_in ms) is, ap (λ l. l ++ names_in ms) more ∙ append_assoc (names_to m) (name ∷ []) (names_in ms))
  names-split (x ∷ ms) (suc k) m m' name there more =
      let (xs, ys, was, is) = names-split ms k m m' name there more in
      (names_to x ++ xs, ys, ap (λ l. names_to x ++ l) was ∙ sym (append_assoc (names_to x) xs ys), ap (λ l. names_to x ++ l) is ∙ sym (append_assoc (names_to x) xs (name ∷ ys)))

  unasked-all : (name : List ℕ) (ms : List (Member F)) → AreUnasked name ms → AllByRecursion (λ other. name ≢ other) (names_in ms)
  unasked-all name [] none = tt
  unasked-all name (m ∷ ms) none = all-both (λ other. name ≢ other) (names_to m) (names_in ms) (one m (none 0 m refl)) (unasked-all name ms (λ k x there. none (suc k) x there))
    where
      one : (x : Member F) → IsUnasked name x → AllByRecursion (λ other. name ≢ other) (names_to x)
      one (Works f) un = apart name f.names.items un
      one (Idle h) un = tt

  pub names-set : (ms : List (Member F)) (k : ℕ) (m m' : Member F) (name : List ℕ) → slice_get ms k ≡ Some m → AsksMore name (names_to m) (names_to m') → AreUnasked name ms → AreDistinct (names_in ms)
      → AreDistinct (names_in (set ms k m'))
  names-set ms k m m' name there (inl same) none distinct = subst AreDistinct (sym (flat-set names_to ms k m m' there same)) distinct
  names-set ms k m m' name there (inr more) none distinct =
      let (xs, ys, was, is) = names-split ms k m m' name there more in
      subst AreDistinct (sym is) (distinct-insert xs ys name (subst AreDistinct was distinct) (subst (λ l. AllByRecursion (λ other. name ≢ other) l) was (unasked-all name ms none)))

  -- how much is to come
  to-come-set : (ms : List (Member F)) (k : ℕ) (m m' : Member F) → slice_get ms k ≡ Some m → to_come_in (set ms k m') + to_come_to m ≡ to_come_in ms + to_come_to m'
  to-come-set [] k m m' there = absurd (cc there)
  to-come-set (x ∷ ms) zero m m' there = let is : x ≡ m = cc there in let same : to_come_to x ≡ to_come_to m = ap to_come_to is in omega (arith, same)
  to-come-set (x ∷ ms) (suc k) m m' there = let rest = to-come-set ms k m m' there in omega (arith, rest)

  pub to-come-less : (ms : List (Member F)) (k : ℕ) (m m' : Member F) → slice_get ms k ≡ Some m → to_come_to m' < to_come_to m → to_come_in (set ms k m') < to_come_in ms
  to-come-less ms k m m' there less = let all = to-come-set ms k m m' there in omega (arith, all, less)

  pub to-come-le : (ms : List (Member F)) (k : ℕ) (m m' : Member F) → slice_get ms k ≡ Some m → to_come_to m' ≤ to_come_to m → to_come_in (set ms k m') ≤ to_come_in ms
  to-come-le ms k m m' there less = let all = to-come-set ms k m m' there in omega (arith, all, less)

  pub given-set-more : (ms : List (Member F)) (k : ℕ) (m m' : Member F) → slice_get ms k ≡ Some m → GivesMore (given_to m) (given_to m') → GivesMore (given_in ms) (given_in (set ms k m'))
  given-set-more [] k m m' there more name f some = some
  given-set-more (x ∷ ms) zero m m' there more name f some =
      let is : x ≡ m = cc there in
      elim (any-of-both (λ (e : List ℕ × Came). e ≡ (name, f)) (given_to x) (given_in ms) some) [
        | inl here ↦ any-front (λ (e : List ℕ × Came). e ≡ (name, f)) (given_to m') (given_in ms) (more name f (subst (λ z. IsGiven name f (given_to z)) is here))
        | inr later ↦ any-back (λ (e : List ℕ × Came). e ≡ (name, f)) (given_to m') (given_in ms) later
      ]
  given-set-more (x ∷ ms) (suc k) m m' there more name f some =
      elim (any-of-both (λ (e : List ℕ × Came). e ≡ (name, f)) (given_to x) (given_in ms) some) [
        | inl here ↦ any-front (λ (e : List ℕ × Came). e ≡ (name, f)) (given_to x) (given_in (set ms k m')) here
        | inr later ↦ any-back (λ (e : List ℕ × Came). e ≡ (name, f)) (given_to x) (given_in (set ms k m')) (given-set-more ms k m m' there more name f later)
      ]

  pub given-at : (ms : List (Member F)) (k : ℕ) (m m' : Member F) (name : List ℕ) (f : Came) → slice_get ms k ≡ Some m → IsGiven name f (given_to m') → IsGiven name f (given_in (set ms k m'))
  given-at [] k m m' name f there given = absurd (cc there)
  given-at (x ∷ ms) zero m m' name f there given = any-front (λ (e : List ℕ × Came). e ≡ (name, f)) (given_to m') (given_in ms) given
  given-at (x ∷ ms) (suc k) m m' name f there given = any-back (λ (e : List ℕ × Came). e ≡ (name, f)) (given_to x) (given_in (set ms k m')) (given-at ms k m m' name f there given)

  given-only : (ms : List (Member F)) (k : ℕ) (m m' : Member F) (name : List ℕ) → slice_get ms k ≡ Some m → ((n : List ℕ) (f : Came) → IsGiven n f (given_to m') → IsGiven n f (given_to m) ⊎ (n ≡ name))
      → (n : List ℕ) (f : Came) → IsGiven n f (given_in (set ms k m')) → IsGiven n f (given_in ms) ⊎ (n ≡ name)
  given-only [] k m m' name there only n f some = absurd some
  given-only (x ∷ ms) zero m m' name there only n f some =
      let is : x ≡ m = cc there in
      elim (any-of-both (λ (e : List ℕ × Came). e ≡ (n, f)) (given_to m') (given_in ms) some) [
        | inl here ↦ elim (only n f here) [
          | inl was ↦ inl (any-front (λ (e : List ℕ × Came). e ≡ (n, f)) (given_to x) (given_in ms) (subst (λ z. IsGiven n f (given_to z)) (sym is) was))
          | inr same ↦ inr same
        ]
        | inr later ↦ inl (any-back (λ (e : List ℕ × Came). e ≡ (n, f)) (given_to x) (given_in ms) later)
      ]
  given-only (x ∷ ms) (suc k) m m' name there only n f some =
      elim (any-of-both (λ (e : List ℕ × Came). e ≡ (n, f)) (given_to x) (given_in (set ms k m')) some) [
        | inl here ↦ inl (any-front (λ (e : List ℕ × Came). e ≡ (n, f)) (given_to x) (given_in ms) here)
        | inr later ↦ elim (given-only ms k m m' name there only n f later) [
          | inl was ↦ inl (any-back (λ (e : List ℕ × Came). e ≡ (n, f)) (given_to x) (given_in ms) was)
          | inr same ↦ inr same
        ]
      ]

  -- one takes an answer
  pub next_set : (early : Early) (met : Met) (ms : List (Member F)) (k : ℕ) (m m' : Member F) → slice_get ms k ≡ Some m → TakesNext early met (given_to m) (given_to m') (to_come_to m) (to_come_to m')
      → TakesNext early met (given_in ms) (given_in (set ms k m')) (to_come_in ms) (to_come_in (set ms k m'))
  next_set Unasked met ms k m m' there next = (flat-set given_to ms k m m' there next.0, to-come-le ms k m m' there next.1)
  next_set Nothing met ms k m m' there next = (flat-set given_to ms k m m' there next.0, to-come-less ms k m m' there next.1)
  next_set (Brought name fetch) met ms k m m' there next = (
    record {
      more = given-set-more ms k m m' there next.0.more;
      here = given-at ms k m m' name (fetched_of fetch) there next.0.here;
      only = given-only ms k m m' name there next.0.only;
    },
    next.1,
    to-come-less ms k m m' there next.2,
  )

-- ---- one at its place is lent, and comes back changed

pub below : {A : Type 0} (xs : List A) (k : ℕ) (x : A) → slice_get xs k ≡ Some x → k < length xs
below [] k x is = absurd (cc is)
below (y ∷ xs) zero x is = omega arith
below (y ∷ xs) (suc k) x is = let less = below xs k x is in omega (arith, less)

pub at_read : {A : Type 0} (xs : List A) (k : ℕ) (x : A) → k < length xs → x ≡ get_or xs k x → slice_get xs k ≡ Some x
at_read [] k x less is = absurd (omega (arith, less))
at_read (y ∷ xs) zero x less is = ap Some (sym is)
at_read (y ∷ xs) (suc k) x less is = at_read xs k x (omega (arith, less)) is

same-at : {A : Type 0} (xs : List A) (k : ℕ) (x y : A) → slice_get xs k ≡ Some x → slice_get xs k ≡ Some y → x ≡ y
same-at xs k x y one two = let is : Some x ≡ Some y = sym one ∙ two in cc is

module _ {F : Type 0} (g : Outside.Ghosts F) (ms : List (Member F)) (k : ℕ) (x x' : Member F) (less : k < length ms) (read : x ≡ get_or ms k x) where
  at : slice_get ms k ≡ Some x
  at = at_read ms k x less read

  -- of the one that was found
  pub as_read : (P : Member F → Type 0) → (m : Member F) × (slice_get ms k ≡ Some m) × P m → P x
  as_read P (m, there, p) = subst P (same-at ms k m x there at) p

  pub member_read : AreMembers g ms → IsMember g x
  member_read all = member-at g ms k x all at

  pub members_after : AreMembers g ms → IsMember g x' → AreMembers g (set ms k x')
  members_after all one = members-set g ms k x' all one

  pub same_after : SameMember x x' → SameMembers ms (set ms k x')
  same_after same = same-set ms k x x' at same

  pub given_after : given_to x' ≡ given_to x → given_in (set ms k x') ≡ given_in ms
  given_after same = flat-set given_to ms k x x' at same

  pub names_after : names_to x' ≡ names_to x → names_in (set ms k x') ≡ names_in ms
  names_after same = flat-set names_to ms k x x' at same

  pub apart_after : (name : List ℕ) → AsksMore name (names_to x) (names_to x') → AreUnasked name ms → AreDistinct (names_in ms) → AreDistinct (names_in (set ms k x'))
  apart_after name more none distinct = names-set ms k x x' name at more none distinct

  pub to_come_after : to_come_to x' ≤ to_come_to x → to_come_in (set ms k x') ≤ to_come_in ms
  to_come_after le = to-come-le ms k x x' at le

  pub next_after : (early : Early) (met : Met) → TakesNext early met (given_to x) (given_to x') (to_come_to x) (to_come_to x') → TakesNext early met (given_in ms) (given_in (set ms k x')) (to_come_in ms) (to_come_in (set ms k x'))
  next_after early met next = next_set early met ms k x x' at next

-- where none was asked for a name
pub distinct_none : {F : Type 0} (ms : List (Member F)) → names_in ms ≡ [] → AreDistinct (names_in ms)
distinct_none ms none = subst AreDistinct (sym none) tt

-- ---- as they are shared out

module _ {F : Type 0} (g : Outside.Ghosts F) where
  -- what holds of those that were shared out so far
  pub record AreShared (dir : List ℕ) (most : ℕ) (ms : List (Member F)) (rest so_far : List F) : Type 0 where
    pub members : AreMembers g ms
    pub folder : AreIn dir ms
    pub was : map helper_of ms ++ rest ≡ so_far
    pub names : names_in ms ≡ []
    pub given : given_in ms ≡ []
    pub used : length ms ≤ most
    pub front : length ms < most → rest ≡ []
    pub count : length ms + length rest ≡ length so_far

  pub shared_none : (dir : List ℕ) (most : ℕ) → AreShared dir most [] [] []
  shared_none dir most = record { members = tt; folder = tt; was = refl; names = refl; given = refl; used = omega arith; front = λ less. refl; count = refl }

  pub shared_one : (dir : List ℕ) (most : ℕ) (helper : F) (ms ms' : List (Member F)) (rest rest' so_far : List F) → Placed g dir most helper ms ms' rest rest' → AreShared dir most ms rest so_far
      → AreShared dir most ms' rest' (so_far ++ helper ∷ [])
  shared_one dir most helper ms ms' rest rest' so_far (to_member m less member folder was names given more same) h =
      subst (λ x. AreShared dir most x rest' (so_far ++ helper ∷ [])) (sym more) (subst (λ x. AreShared dir most (ms ++ m ∷ []) x (so_far ++ helper ∷ [])) (sym same) (record {
        members = members-snoc g ms m h.members member;
        folder = ins-snoc dir ms m h.folder folder;
        was = all-were;
        names = flat-snoc names_to ms m h.names names;
        given = flat-snoc given_to ms m h.given given;
        used = let longer = length-append ms (m ∷ []) in omega (arith, longer, less);
        front = λ _. none;
        count = let count = h.count in let longer = length-append ms (m ∷ []) in let all = length-append so_far (helper ∷ []) in omega (arith, count, longer, all);
      }))
    where
      none : rest ≡ []
      none = h.front less

      all-were : map helper_of (ms ++ m ∷ []) ++ rest ≡ so_far ++ helper ∷ []
      all-were =
          let before : map helper_of ms ≡ so_far = sym (append-nil (map helper_of ms)) ∙ (ap (λ r. map helper_of ms ++ r) (sym none) ∙ h.was) in
          ap (λ r. map helper_of (ms ++ m ∷ []) ++ r) none ∙ (append-nil (map helper_of (ms ++ m ∷ [])) ∙ (map-append helper_of ms (m ∷ []) ∙ ap₂ (λ a b. a ++ b ∷ []) before was))
  shared_one dir most helper ms ms' rest rest' so_far (to_rest full same more) h =
      subst (λ x. AreShared dir most x rest' (so_far ++ helper ∷ [])) (sym same) (subst (λ x. AreShared dir most ms x (so_far ++ helper ∷ [])) (sym more) (record {
        members = h.members;
        folder = h.folder;
        was = sym (append_assoc (map helper_of ms) rest (helper ∷ [])) ∙ ap (λ l. l ++ helper ∷ []) h.was;
        names = h.names;
        given = h.given;
        used = h.used;
        front = λ less. absurd (omega (arith, full, less));
        count = let count = h.count in let longer = length-append rest (helper ∷ []) in let all = length-append so_far (helper ∷ []) in omega (arith, count, longer, all);
      }))

-- ---- as they come back

module _ {F : Type 0} (g : Outside.Ghosts F) where
  -- what all were
  pub were_all : (ms : List (Member F)) (rest : List F) → map g.seen (map helper_of ms ++ rest) ≡ map (was_of g) ms ++ map g.seen rest
  were_all [] rest = refl
  were_all (Works f ∷ ms) rest = ap (λ l. g.seen f.helper.was.value ∷ l) (were_all ms rest)
  were_all (Idle h ∷ ms) rest = ap (λ l. g.seen h ∷ l) (were_all ms rest)

  back-one : (dir : List ℕ) (m : Member F) (l : Option HelperLanes) (s : Seen) → IsIn dir m → CameBack g m l s → HelpedBy dir l (was_of g m) s
  back-one dir (Works f) l s is back = subst (λ d. HelpedBy d l (g.seen f.helper.was.value) s) is back.0
  back-one dir (Idle h) l s is back = subst (λ o. HelpedBy dir o (g.seen h) s) (sym back.0) back.1

  back-asked : (m : Member F) (l : Option HelperLanes) (s : Seen) → CameBack g m l s → IsAskedIn m l
  back-asked (Works f) l s back = (back.1, back.2)
  back-asked (Idle h) l s back = (ap names_in_lanes back.0, λ name f none. absurd none)

  pub back-snoc : (dir : List ℕ) (ms : List (Member F)) (ls : List (Option HelperLanes)) (ss : List Seen) (m : Member F) (l : Option HelperLanes) (s : Seen) → IsIn dir m → CameBack g m l s → GaveOwn g m s
      → CameBackEach g dir ms ls ss → CameBackEach g dir (ms ++ m ∷ []) (ls ++ l ∷ []) (ss ++ s ∷ [])
  back-snoc dir [] [] [] m l s is back own all = (back-one dir m l s is back, own, back-asked m l s back, tt)
  back-snoc dir (x ∷ ms) (y ∷ ls) (z ∷ ss) m l s is back own all = (all.0, all.1, all.2, back-snoc dir ms ls ss m l s is back own all.3)
  back-snoc dir [] [] (z ∷ ss) m l s is back own all = absurd all
  back-snoc dir [] (y ∷ ls) [] m l s is back own all = absurd all
  back-snoc dir [] (y ∷ ls) (z ∷ ss) m l s is back own all = absurd all
  back-snoc dir (x ∷ ms) [] [] m l s is back own all = absurd all
  back-snoc dir (x ∷ ms) [] (z ∷ ss) m l s is back own all = absurd all
  back-snoc dir (x ∷ ms) (y ∷ ls) [] m l s is back own all = absurd all

  pub back-pushed : (dir : List ℕ) (ms : List (Member F)) (ls ls' : List (Option HelperLanes)) (bs bs' : List F) (m : Member F) (l : Option HelperLanes) (h : F) → bs' ≡ bs ++ h ∷ [] → ls' ≡ ls ++ l ∷ [] → IsIn dir m
      → CameBack g m l (g.seen h) → GaveOwn g m (g.seen h) → CameBackEach g dir ms ls (map g.seen bs) → CameBackEach g dir (ms ++ m ∷ []) ls' (map g.seen bs')
  back-pushed dir ms ls ls' bs bs' m l h back through is came own all =
      subst (λ x. CameBackEach g dir (ms ++ m ∷ []) x (map g.seen bs')) (sym through)
      (subst (λ x. CameBackEach g dir (ms ++ m ∷ []) (ls ++ l ∷ []) (map g.seen x)) (sym back)
      (subst (λ x. CameBackEach g dir (ms ++ m ∷ []) (ls ++ l ∷ []) x) (sym (map-append g.seen bs (h ∷ []))) (back-snoc dir ms ls (map g.seen bs) m l (g.seen h) is came own all)))

  pub back_count : (dir : List ℕ) (ms : List (Member F)) (ls : List (Option HelperLanes)) (ss : List Seen) → CameBackEach g dir ms ls ss → length ls ≡ length ms
  back_count dir [] [] [] all = refl
  back_count dir (m ∷ ms) (l ∷ ls) (s ∷ ss) all = ap suc (back_count dir ms ls ss all.3)
  back_count dir [] [] (z ∷ ss) all = absurd all
  back_count dir [] (y ∷ ls) ss all = absurd all
  back_count dir (x ∷ ms) [] ss all = absurd all
  back_count dir (x ∷ ms) (y ∷ ls) [] all = absurd all

  pub back-all : (dir : List ℕ) (ms : List (Member F)) (ls : List (Option HelperLanes)) (ss rest : List Seen) → CameBackEach g dir ms ls ss → HelpedEach dir ls (map (was_of g) ms ++ rest) (ss ++ rest)
  back-all dir [] [] [] rest all = refl
  back-all dir (m ∷ ms) (l ∷ ls) (s ∷ ss) rest all = (all.0, back-all dir ms ls ss rest all.3)
  back-all dir [] [] (z ∷ ss) rest all = absurd all
  back-all dir [] (y ∷ ls) ss rest all = absurd all
  back-all dir (x ∷ ms) [] ss rest all = absurd all
  back-all dir (x ∷ ms) (y ∷ ls) [] rest all = absurd all

  own-one : (dir : List ℕ) (m : Member F) (s : Seen) (name : List ℕ) (came : Came) → IsIn dir m → GaveOwn g m s → IsGiven name came (given_to m) → MayHelp dir name came (record { before = was_of g m; after = s })
  own-one dir (Works f) s name came is own given = subst (λ d. MayHelp d name came (record { before = g.seen f.helper.was.value; after = s })) is (own name came given)
  own-one dir (Idle h) s name came is own given = absurd given

  pub own-all : (dir : List ℕ) (ms : List (Member F)) (ls : List (Option HelperLanes)) (ss rest : List Seen) (name : List ℕ) (came : Came) → AreIn dir ms → CameBackEach g dir ms ls ss → IsGiven name came (given_in ms)
      → AnyOf (MayHelp dir name came) (helps_first (length ms) (map (was_of g) ms ++ rest) (ss ++ rest))
  own-all dir [] [] [] rest name came is all given = absurd given
  own-all dir (m ∷ ms) (l ∷ ls) (s ∷ ss) rest name came is all given =
      elim (any-of-both (λ (e : List ℕ × Came). e ≡ (name, came)) (given_to m) (given_in ms) given) [
        | inl here ↦ inl (own-one dir m s name came is.0 all.1 here)
        | inr later ↦ inr (own-all dir ms ls ss rest name came is.1 all.3 later)
      ]
  own-all dir [] [] (z ∷ ss) rest name came is all given = absurd all
  own-all dir [] (y ∷ ls) ss rest name came is all given = absurd all
  own-all dir (x ∷ ms) [] ss rest name came is all given = absurd all
  own-all dir (x ∷ ms) (y ∷ ls) [] rest name came is all given = absurd all

  -- what went through all lanes
  pub names_back : (dir : List ℕ) (ms : List (Member F)) (ls : List (Option HelperLanes)) (ss : List Seen) → CameBackEach g dir ms ls ss → names_through ls ≡ names_in ms
  names_back dir [] [] [] all = refl
  names_back dir (m ∷ ms) (l ∷ ls) (s ∷ ss) all = ap₂ (λ a b. a ++ b) all.2.0 (names_back dir ms ls ss all.3)
  names_back dir [] [] (z ∷ ss) all = absurd all
  names_back dir [] (y ∷ ls) ss all = absurd all
  names_back dir (x ∷ ms) [] ss all = absurd all
  names_back dir (x ∷ ms) (y ∷ ls) [] all = absurd all

  pub given_back : (dir : List ℕ) (ms : List (Member F)) (ls : List (Option HelperLanes)) (ss : List Seen) → CameBackEach g dir ms ls ss → GivesMore (given_in ms) (given_through ls)
  given_back dir [] [] [] all name f some = absurd some
  given_back dir (m ∷ ms) (l ∷ ls) (s ∷ ss) all name f some =
      elim (any-of-both (λ (e : List ℕ × Came). e ≡ (name, f)) (given_to m) (given_in ms) some) [
        | inl here ↦ any-front (λ (e : List ℕ × Came). e ≡ (name, f)) (given_in_lanes l) (given_through ls) (all.2.1 name f here)
        | inr later ↦ any-back (λ (e : List ℕ × Came). e ≡ (name, f)) (given_in_lanes l) (given_through ls) (given_back dir ms ls ss all.3 name f later)
      ]
  given_back dir [] [] (z ∷ ss) all name f some = absurd all
  given_back dir [] (y ∷ ls) ss all name f some = absurd all
  given_back dir (x ∷ ms) [] ss all name f some = absurd all
  given_back dir (x ∷ ms) (y ∷ ls) [] all name f some = absurd all

module _ {F : Type 0} (g : Outside.Ghosts F) (dir : List ℕ) (ms : List (Member F)) (ls : List (Option HelperLanes)) (bs bs' rest : List F) (came : CameBackEach g dir ms ls (map g.seen bs)) (more : bs' ≡ bs ++ rest) where
  were : map g.seen (map helper_of ms ++ rest) ≡ map (was_of g) ms ++ map g.seen rest
  were = were_all g ms rest

  are : map g.seen bs' ≡ map g.seen bs ++ map g.seen rest
  are = ap (map g.seen) more ∙ map-append g.seen bs rest

  -- with those behind them
  pub all_helped : HelpedEach dir ls (map g.seen (map helper_of ms ++ rest)) (map g.seen bs')
  all_helped = subst (λ x. HelpedEach dir ls x (map g.seen bs')) (sym were) (subst (λ x. HelpedEach dir ls (map (was_of g) ms ++ map g.seen rest) x) (sym are) (back-all g dir ms ls (map g.seen bs) (map g.seen rest) came))

  pub all_own : AreIn dir ms → (name : List ℕ) (f : Came) → IsGiven name f (given_in ms) → AnyOf (MayHelp dir name f) (helps_first (length ms) (map g.seen (map helper_of ms ++ rest)) (map g.seen bs'))
  all_own is name f given =
      subst (λ x. AnyOf (MayHelp dir name f) (helps_first (length ms) x (map g.seen bs'))) (sym were)
      (subst (λ x. AnyOf (MayHelp dir name f) (helps_first (length ms) (map (was_of g) ms ++ map g.seen rest) x)) (sym are) (own-all g dir ms ls (map g.seen bs) (map g.seen rest) name f is came given))

-- the names that were put, and the word to stop
asked-put : (names : List (List ℕ)) → asked_in (map Ask names ++ Stop ∷ []) ≡ names
asked-put [] = refl
asked-put (n ∷ ns) = ap (λ l. n ∷ l) (asked-put ns)

pub asked-of : (names : List (List ℕ)) (put : List Wanted) → put ≡ map Ask names ++ Stop ∷ [] → asked_in put ≡ names
asked-of names put is = ap asked_in is ∙ asked-put names

pub same-then : {F : Type 0} (a b c : List (Member F)) → SameMembers a b → SameMembers b c → SameMembers a c
same-then [] [] [] p q = tt
same-then (x ∷ a) (y ∷ b) (z ∷ c) p q = (one x y z p.0 q.0, same-then a b c p.1 q.1)
  where
    one : {F : Type 0} (x y z : Member F) → SameMember x y → SameMember y z → SameMember x z
    one (Works f) (Works f') (Works f'') p q = (q.0 ∙ p.0, q.1 ∙ p.1)
    one (Idle h) (Idle h') (Idle h'') p q = q ∙ p
    one (Works f) (Works f') (Idle h) p q = absurd q
    one (Works f) (Idle h) z p q = absurd p
    one (Idle h) (Works f) z p q = absurd p
    one (Idle h) (Idle h') (Works f) p q = absurd q
same-then [] [] (z ∷ c) p q = absurd q
same-then [] (y ∷ b) c p q = absurd p
same-then (x ∷ a) [] c p q = absurd p
same-then (x ∷ a) (y ∷ b) [] p q = absurd q

-- ---- one that has ended

module _ {F : Type 0} (g : Outside.Ghosts F) (f : Fetcher F) (is : IsAsked g f) (lanes : HelperLanes) (after : Seen) (put : lanes.asked.put ≡ f.helper.ask.put ++ Stop ∷ []) (took : lanes.answers.taken ≡ f.helper.answers.taken)
    (asked : IsPrefix lanes.asked.taken lanes.asked.put) (answers : IsPrefix lanes.answers.taken lanes.answers.put)
    (all : FetchedAll (string_bytes f.helper.dir) (g.seen f.helper.was.value) after lanes.asked.taken lanes.answers.put) where
  -- all names that were put, and then the word to stop
  put-all : lanes.asked.put ≡ map Ask f.names.items ++ Stop ∷ []
  put-all = put ∙ ap (λ l. l ++ Stop ∷ []) is.put

  same-names : all.0 ≡ f.names.items
  same-names = all-taken all.0 f.names.items lanes.asked.taken lanes.asked.put asked all.1 put-all

  gives : GivesAll (string_bytes f.helper.dir) f.names.items lanes.answers.put (g.seen f.helper.was.value) after
  gives = subst (λ ns. GivesAll (string_bytes f.helper.dir) ns lanes.answers.put (g.seen f.helper.was.value) after) same-names all.2

  names-are : asked_in lanes.asked.put ≡ f.names.items
  names-are = asked-of f.names.items lanes.asked.put put-all

  pub ended_back : CameBack g (Works f) (Some lanes) after
  ended_back = (
    record {
      names = f.names.items;
      lawful = is.lawful;
      once = is.once;
      few = subst (λ n. n ≤ 64) f.names.ok.0 is.few;
      asked = put-all;
      taken = all.1 ∙ (ap (λ ns. map Ask ns ++ Stop ∷ []) same-names ∙ sym put-all);
      in_order = answers;
      gives = gives;
      others = gives-keeps (string_bytes f.helper.dir) f.names.items lanes.answers.put (g.seen f.helper.was.value) after gives;
    },
    names-are,
    through,
  )
    where
      through : GivesMore (given_of f) (came_by (asked_in lanes.asked.put) lanes.answers.taken)
      through = subst (λ ns. GivesMore (given_of f) (came_by ns lanes.answers.taken)) (sym names-are)
          (subst (λ l. GivesMore (given_of f) (came_by f.names.items l)) (sym took) (given-came f.names.items f.told.items f.helper.answers.taken))

  pub ended_own : GaveOwn g (Works f) after
  ended_own name came given =
      let in_front : IsPrefix f.helper.answers.taken lanes.answers.put = subst (λ l. IsPrefix l lanes.answers.put) took answers in
      gave_own (string_bytes f.helper.dir) f.names.items f.helper.answers.taken lanes.answers.put (g.seen f.helper.was.value) after in_front gives name came (given-came f.names.items f.told.items f.helper.answers.taken name came given)
