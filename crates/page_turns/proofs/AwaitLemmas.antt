-- Each script that was begun is one that the serial parse awaits.
use Rattle.std.proofs.Common.{◌≡◌, ℕ, Bool, true, false, List, [], ◌∷◌, ◌++◌, Option, Some, None, refl, sym, ap, subst, ◌∙◌, inl, inr}
use Rattle.std.specs.Prelude.{◌⊎◌, IsSome, if◌then◌else◌}
use Rattle.std.specs.List.{AllByRecursion}
use Rattle.html_types.specs.Text.{same_text}
use Rattle.standard.specs.Entities.{Entities}
use Rattle.standard.specs.Parser.{Parser}
use Rattle.serial.specs.Page.{Page}
use Rattle.serial.specs.Scripts.{Fetched}
use Rattle.serial.specs.Serial.{World, Serial, awaits, Passes}
use Rattle.core_definitions.specs.declared.event.Event.{Event}
use Rattle.core_definitions.specs.declared.event.Event.TheVariants.{Arrive}
use Rattle.core_definitions.specs.Core.{whole_page}
use Rattle.core_definitions.specs.Desk.{Phase, free, tagged, waits, done, Desk, first_desk, pieces_with, has_arrived, MovesBy}
use Rattle.core_definitions.specs.StandsFor.{CarriesMoment, own_moment, page_left}
use Rattle.core_laws.specs.DeskLaws.{IsReached}
use Rattle.core_laws.proofs.Standing.{always-stands_for}
use Rattle.core_steps.specs.Fetches.{names_of}
use Rattle.core_steps.specs.Journals.{found}
use Rattle.core_steps.specs.Sides.{Shown, awaiting, unless_arrived, standing_in, standing_of, IsReplayed}
use Rattle.run_laws.specs.Along.{MovesWith}
use Rattle.speculation.specs.Asking.{Asked}
use Rattle.page_turns.specs.Along.{IsAwaitedIn, FetchesAwaited, HasArrived, Goes}
use Rattle.page_turns.specs.Scripts.{Met, GivenEarly, Alike, AreKnown, IsOneOf}
use Rattle.page_turns.specs.Pages.{IsPageBehind}
use Rattle.page_turns.proofs.AlongLemmas.{awaited_along}
use Rattle.page_turns.proofs.DeskLemmas.{shows-phase}
use Rattle.page_turns.proofs.ReachLemmas.{scripts_with, knows-met, IsRun, is_run}
use Rattle.page_turns.proofs.SameWorlds.{passes-back}
use Rattle.page_turns.proofs.StopLemmas.{waits-stands}
use Rattle.page_turns.proofs.TextLemmas.{same-text}

-- up to an event, and what was so of it
with-split : (P : Event → Desk → Type 0) (ahead : ℕ) (w : World) (us ts : List Event) (v : Event) (a b : Desk) → MovesWith P ahead w (us ++ v ∷ ts) a b → (d : Desk) × MovesBy ahead w us a d × P v d
with-split P ahead w [] ts v a b (d, p, step, rest) = (a, refl, p)
with-split P ahead w (u ∷ us) ts v a b (d, p, step, rest) = let (d1, by, q) = with-split P ahead w us ts v d b rest in (d1, (d, step, by), q)

awaited-phase : (name : List ℕ) (p : Phase) → IsAwaitedIn name p → (held : Parser) × (p ≡ waits name held)
awaited-phase name free is = absurd is
awaited-phase name (tagged i held) is = absurd is
awaited-phase name (waits n held) is = (held, ap (λ m. waits m held) is)
awaited-phase name (done r) is = absurd is

standing-waits : (p : Phase) (d : Desk) (name : List ℕ) → standing_in p d ≡ awaiting name → (held : Parser) × (p ≡ waits name held)
standing-waits free d name is = absurd (cc is)
standing-waits (tagged i held) d name is = absurd (cc is)
standing-waits (waits n held) d name is = by (has_arrived n d) is
  where
    by : (b : Bool) → unless_arrived b n ≡ awaiting name → (h : Parser) × (waits n held ≡ waits name h)
    by true e = absurd (cc e)
    by false e = let same : n ≡ name = cc in (held, ap (λ x. waits x held) same)
standing-waits (done r) d name is = absurd (cc is)

-- what was fetched has arrived
arrived-of : (P : List ℕ → Type 0) (met : Met) (name : List ℕ) (f : Fetched) → AllByRecursion P (names_of met) → found name met ≡ Some f → P name
arrived-of P [] name f all is = absurd (cc is)
arrived-of P ((n, g) ∷ met) name f all is = by (λ e. arrived-of P met name f all.1 e) (same_text n name) refl is
  where
    by : (found name met ≡ Some f → P name) → (b : Bool) → same_text n name ≡ b → (if b then Some g else found name met) ≡ Some f → P name
    by behind true q e = subst P (same-text n name q) all.0
    by behind false q e = behind e

module _ (page : Page) (es : Entities) (scripts : List ℕ → Fetched) (s : Shown) (behind : IsPageBehind s.journal.ending s.journal.pieces page) (entities : s.entities ≡ es) (known : AreKnown s.journal.fetches)
    (alike : (name : List ℕ) → Alike (scripts name) (scripts_with s.journal.fetches scripts name)) (replayed : IsReplayed s) (given : Met) (asks : Option (List Asked)) (goes : Goes given asks s) where
  abbrev w : World
  w = record { entities = es; scripts = scripts }

  abbrev v : World
  v = record { entities = es; scripts = scripts_with s.journal.fetches scripts }

  abbrev Awaits : List ℕ → Type 0
  Awaits name = (last : Serial) × Passes page w (awaits name last)

  run : IsRun page v s.ahead s
  run = is_run page v s behind (sym entities) (knows-met es s.journal.fetches scripts known) replayed

  -- a desk that waits for it is reached
  awaited-at : (name : List ℕ) (held : Parser) (us : List Event) (d : Desk) → IsReached run.run us d → d.phase ≡ waits name held → Awaits name
  awaited-at name held us d reached phase =
      let (m, m', passes, stands, leads, stands') = always-stands_for run.run us [] d d reached refl in
      let carries : CarriesMoment stands.0 (page_left d) m (awaits name d.own) = subst (λ p. CarriesMoment stands.0 (page_left d) m (own_moment p d.own)) phase stands.2 in
      let (last, is) = waits-stands stands.0 (page_left d) name d.own m carries in
      let there : Passes (whole_page run.run) run.run.world (awaits name last) = subst (λ x. Passes (whole_page run.run) run.run.world x) is passes in
      let here : Passes page v (awaits name last) = subst (λ x. Passes page x (awaits name last)) run.world (subst (λ p. Passes p run.run.world (awaits name last)) run.page_is there) in
      (last, passes-back w (scripts_with s.journal.fetches scripts) alike page (awaits name last) here)

  awaited-of : (name : List ℕ) → (GivenEarly name given → ⊥) → (p : Phase) → IsAwaitedIn name p ⊎ GivenEarly name given → IsAwaitedIn name p
  awaited-of name late p (inl awaited) = awaited
  awaited-of name late p (inr early) = absurd (late early)

  -- where it arrived
  at-arrival : (name : List ℕ) → (GivenEarly name given → ⊥) → HasArrived name s.journal.events → Awaits name
  at-arrival name late (earlier, later, is) =
      let (d, with) = awaited_along asks s goes run.run run.is_of in
      let with' = subst (λ vs. MovesWith (FetchesAwaited given) run.run.ahead run.run.world vs (first_desk (pieces_with run.run.pieces (Some run.run.ending))) d) is with in
      let (d1, by, p) = with-split (FetchesAwaited given) run.run.ahead run.run.world earlier later (Arrive name) (first_desk (pieces_with run.run.pieces (Some run.run.ending))) d with' in
      let (held, phase) = awaited-phase name d1.phase (awaited-of name late d1.phase p) in
      awaited-at name held earlier d1 by phase

  -- where the parse now stands
  at-end : (name : List ℕ) (held : Parser) → s.desk.phase ≡ waits name held → Awaits name
  at-end name held phase = awaited-at name held s.journal.events run.desk run.reached (ap (λ (z : Desk). z.phase) run.same.1 ∙ shows-phase run.replayed s.desk run.shows ∙ phase)

  one-of : (names : List (List ℕ)) (name : List ℕ) (P : List ℕ → Type 0) → AllByRecursion P names → IsOneOf name names → P name
  one-of [] name P all one = absurd one
  one-of (n ∷ names) name P all (inl is) = subst P is all.0
  one-of (n ∷ names) name P all (inr one) = one-of names name P all.1 one

  -- each of these is met, or is awaited now
  pub all_awaited : (unmet names : List (List ℕ)) → AllByRecursion (λ name. IsSome (found name s.journal.fetches) ⊎ IsOneOf name unmet) names → AllByRecursion (λ name. standing_of s.desk ≡ awaiting name) unmet → AllByRecursion (λ name. GivenEarly name given → ⊥) names
      → AllByRecursion Awaits names
  all_awaited unmet [] all now late = tt
  all_awaited unmet (name ∷ names) (one, all) now late = (this one, all_awaited unmet names all now late.1)
    where
      by-found : (o : Option Fetched) → found name s.journal.fetches ≡ o → IsSome o → Awaits name
      by-found None e some = absurd (cc some)
      by-found (Some f) e some = at-arrival name late.0 (arrived-of (λ n. HasArrived n s.journal.events) s.journal.fetches name f goes.arrived e)

      this : IsSome (found name s.journal.fetches) ⊎ IsOneOf name unmet → Awaits name
      this (inl some) = by-found (found name s.journal.fetches) refl some
      this (inr one) =
          let is = one-of unmet name (λ n. standing_of s.desk ≡ awaiting n) now one in
          let (held, phase) = standing-waits s.desk.phase s.desk name is in
          at-end name held phase
