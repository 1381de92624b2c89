-- A pair in worlds in which the fetches are as they were.
use Rattle.std.proofs.Common.{◌≡◌, true≢false, ℕ, Bool, true, false, List, [], ◌∷◌, Some, None, refl, sym, ◌∙◌, ap, cond, subst, arith}
use Rattle.std.proofs.lemmas.Bool.{and_parts}
use Rattle.std.proofs.lemmas.Bool.Decides.{nat_tests}
use Rattle.std.specs.Prelude.{IsTrue, not, ◌||◌}
use Rattle.html_types.specs.Text.{same_text}
use Rattle.standard.specs.Entities.{Entities}
use Rattle.serial.specs.Scripts.{Fetched, is_lawful}
use Rattle.serial.specs.Serial.{World, fetched, fetched_if}
use Rattle.core_definitions.specs.declared.event.Event.{Event}
use Rattle.core_definitions.specs.declared.event.Event.TheVariants.{Send, Pick, Give, Take, Do, Arrive}
use Rattle.core_definitions.specs.Desk.{is_among, can_arrive}
use Rattle.core_definitions.specs.Core.{Setup, Core, enabled}
use Rattle.core_definitions.specs.Journal.{Knows}
use Rattle.core_steps.specs.Acting.{fetch_or_missing}
use Rattle.core_steps.specs.Fetches.{names_of}
use Rattle.core_steps.specs.Journals.{found}
use Rattle.core_pair.specs.Pairs.{Paired, setup_of, in_world, brought, Reaches, IsRun}

pub reached-here : {es : Entities} {p : Paired} → IsRun es p → Reaches (setup_of p) p.events p.core
reached-here {p = p} h = h.reached (setup_of p).world refl h.knows

-- which events are enabled doesn't depend on the world
pub enabled-world : (w : World) (x : Setup) (v : Event) (c : Core) → enabled (in_world w x) v c ≡ enabled x v c
enabled-world w x Send c = refl
enabled-world w x Pick c = refl
enabled-world w x Give c = refl
enabled-world w x Take c = refl
enabled-world w x Do c = refl
enabled-world w x (Arrive name) c = refl

-- ---- a script is brought

either-false : (a b : Bool) → (a || b) ≡ false → (a ≡ false) × (b ≡ false)
either-false true b q = absurd (true≢false q)
either-false false b q = (refl, q)

not-false : (b : Bool) → not b ≡ true → b ≡ false
not-false true q = absurd (true≢false (sym q))
not-false false q = refl

pub same-refl : (a : List ℕ) → same_text a a ≡ true
same-refl [] = refl
same-refl (c ∷ cs) = grind (arith, nat_tests, same-refl cs)

same-text : (a b : List ℕ) → same_text a b ≡ true → a ≡ b
same-text [] [] e = refl
same-text [] (c ∷ cs) e = absurd (true≢false (sym e))
same-text (c ∷ cs) [] e = absurd (true≢false (sym e))
same-text (c ∷ cs) (b ∷ bs) e = grind (arith, nat_tests, same-text cs bs, e)

symmetric : (a b : List ℕ) → same_text a b ≡ false → same_text b a ≡ false
symmetric a b q = by (same_text b a) refl
  where
    by : (t : Bool) → same_text b a ≡ t → t ≡ false
    by true p = absurd (true≢false (sym (same-refl a) ∙ (ap (same_text a) (sym (same-text b a p)) ∙ q)))
    by false p = refl

-- what was fetched is as it was, where the name isn't among those
knows-brought : (w w' : World) (name : List ℕ) → ((n : List ℕ) → same_text name n ≡ false → w'.scripts n ≡ w.scripts n) → (fs : List (List ℕ × Fetched)) → is_among name (names_of fs) ≡ false → Knows fs w → Knows fs w'
knows-brought w w' name same [] none knows = tt
knows-brought w w' name same ((n, f) ∷ fs) none (here, rest) =
    let (apart, others) = either-false (same_text n name) (is_among name (names_of fs)) none in
    (by (is_lawful n) here, knows-brought w w' name same fs others rest)
  where
    by : (b : Bool) → fetched_if b w n ≡ f → fetched_if b w' n ≡ f
    by true is = same n (symmetric n name (either-false (same_text n name) (is_among name (names_of fs)) none).0) ∙ is
    by false is = is

pub run-brought : (es : Entities) (p : Paired) (name : List ℕ) (f : Fetched) → IsTrue (can_arrive name p.core.desk) → IsRun es p → IsRun es (brought name f p)
run-brought es p name f can h = record {
  entities = h.entities;
  some = h.some;
  knows = knows-brought (setup_of p).world (setup_of (brought name f p)).world name (λ n apart. ap (λ b. fetch_or_missing (cond b (Some f) (found n p.scripts))) apart)
      p.journal.fetches (ap (is_among name) (sym h.arrived) ∙ not-false (is_among name p.core.desk.arrived) (and_parts (is_lawful name) (not (is_among name p.core.desk.arrived)) can).1) h.knows;
  arrived = h.arrived;
  own = h.own;
  reached = h.reached;
}
