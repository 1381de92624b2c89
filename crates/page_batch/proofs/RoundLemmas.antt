-- A round, and the scripts that are fetched behind it.
use Rattle.std.proofs.Common.{◌≡◌, ◌≤◌, ◌<◌, ◌+◌, ℕ, Bool, true, false, true≢false, List, [], ◌∷◌, ◌++◌, length, take, get_or, Option, None, refl, sym, ap, subst, ◌∙◌}
use Rattle.std.specs.Prelude.{Result, Ok, Err, OnErr}
use Rattle.std.specs.Bool.{OnFalse}
use Rattle.std.proofs.lemmas.List.{take_more, take_all}
use Rattle.outside.specs.Outside.{Seen, KeepsOthers}
use Rattle.outside.specs.declared.traits.Port.TheVariants.{Script}
use Rattle.page_turns.specs.Scripts.{Met}
use Rattle.page_turns.proofs.KeepsLemmas.{later-others}
use Rattle.page_batch.specs.Slots.{Slotted}
use Rattle.page_batch.specs.Rounds.{GoOnEach, RunsAll, NoneAwaits, FetchesMore, FetchesOrSpends}
use Rattle.page_batch.proofs.FetchLemmas.{more-then}
use Rattle.page_batch.proofs.FrontLemmas.{all-more}
use Rattle.page_batch.proofs.SlotLemmas.{runs-on, runs-larger}

pub on-false : (b : Bool) (P : Type 0) → (b ≡ false → P) → OnFalse b P
on-false true P there = tt
on-false false P there = there refl

pub false-on : (b : Bool) (P : Type 0) → OnFalse b P → b ≡ false → P
false-on true P there is = absurd (true≢false is)
false-on false P there is = there

-- one page more awaits none
pub none-more : (slots : List Slotted) (i : ℕ) (slot : Slotted) → i < length slots → slot ≡ get_or slots i slot → NoneAwaits (take i slots) → slot.awaits ≡ None → NoneAwaits (take (i + 1) slots)
none-more slots i slot there is none here =
    subst NoneAwaits (sym (take_more slots i slot there ∙ ap (λ (s : Slotted). take i slots ++ s ∷ []) (sym is))) (all-more (λ (s : Slotted). s.awaits ≡ None) (take i slots) slot none here)

pub none-all : (slots : List Slotted) (i : ℕ) → length slots ≤ i → NoneAwaits (take i slots) → NoneAwaits slots
none-all slots i all none = subst NoneAwaits (take_all i slots all) none

-- a round, and what was fetched behind it
pub ran-on : (unmet : List (List ℕ)) (dir : List ℕ) (before after : Seen) (t0 t t' : Met) (xs ys zs : List Slotted) → RunsAll t0 t xs ys → GoOnEach t ys zs → FetchesMore unmet dir before after t t' → RunsAll t0 t' xs zs
ran-on unmet dir before after t0 t t' xs ys zs all each fetched = runs-larger t0 t t' xs zs fetched.fetches.kept (runs-on t0 t xs ys zs all each)

module _ (dir : List ℕ) (before now after : Seen) (old mid new : Met) (first : KeepsOthers Script before now) (second : KeepsOthers Script now after) (fetched : FetchesMore [] dir before now old mid) where
  pub fetched-on : (unmet : List (List ℕ)) → FetchesMore unmet dir now after mid new → FetchesMore unmet dir before after old new
  fetched-on unmet more = more-then unmet dir before now after old mid new (later-others Script before now first) (later-others Script now after second) fetched more

  pub spent-on : FetchesOrSpends dir now after mid new → FetchesOrSpends dir before after old new
  spent-on (unmet, more) = (unmet, fetched-on unmet more)
