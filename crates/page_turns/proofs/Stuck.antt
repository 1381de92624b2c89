-- Where the document's side can do nothing more and nothing is under way, the parse is over or a script is awaited.
use Rattle.std.proofs.Common.{◌≡◌, ◌<◌, ◌≤◌, false, true≢false, List, [], ◌∷◌, ◌++◌, length, Option, Some, None, refl, sym, ◌∙◌, ap, subst, arith}
use Rattle.std.proofs.lemmas.Bool.{and_parts}
use Rattle.std.specs.Prelude.{not, is_some}
use Rattle.standard.specs.Entities.{Entities}
use Rattle.core_definitions.specs.declared.event.Event.{Event}
use Rattle.core_definitions.specs.declared.event.Event.TheVariants.{Send, Pick, Give, Take, Do, Arrive}
use Rattle.core_definitions.specs.Settling.{is_empty}
use Rattle.core_definitions.specs.Desk.{Phase, free, Desk, outstanding, can_send, can_do}
use Rattle.core_definitions.specs.Core.{Setup, Request, Core}
use Rattle.core_definitions.specs.Journal.{with_replies}
use Rattle.core_laws.specs.DeskLaws.{IsReached}
use Rattle.core_laws.specs.CoreLaws.{IsIdle, IsOverOrAwaits}
use Rattle.core_laws.proofs.InStep.{in_hand, replies_to, under_way, to_come, end_to_come, InStep, UnlessDone}
use Rattle.core_laws.proofs.Together.{Together, reached-together, never-stuck}
use Rattle.core_laws.proofs.Replaying.{desk-is_core}

nothing-left : {A : Type 0} (xs ys : List A) → length (xs ++ ys) ≡ 0 → (xs ≡ []) × (ys ≡ [])
nothing-left [] [] z = (refl, refl)
nothing-left [] (y ∷ ys) z = absurd (grind (arith, z))
nothing-left (x ∷ xs) ys z = absurd (grind (arith, z))

module _ (x : Setup) (c : Core) where
  abbrev es : Entities
  es = x.world.entities

  none-under_way : (p : Phase) → c.desk.phase ≡ p → p ≡ free → Together x c → outstanding c.desk ≡ 0 → c.desk.taken ≤ c.desk.sent → length (to_come es c) ≡ 0
  none-under_way p q at_free t none le =
      let s : InStep es c.desk (to_come es c) (end_to_come es c) = subst (λ f. UnlessDone f (InStep es c.desk (to_come es c) (end_to_come es c))) (q ∙ at_free) t.follows in
      omega (arith, s.count, none)

  none-asked : (rs : List Request) → length (replies_to es c.work.parser rs) ≡ 0 → rs ≡ []
  none-asked [] z = refl
  none-asked (r ∷ rs) z = absurd (grind (arith, z))

  no-hand : (h : Option Request) → in_hand h ≡ [] → h ≡ None
  no-hand None e = refl
  no-hand (Some r) e = absurd (true≢false (sym (ap is_empty e)))

  -- no event but arrivals is enabled
  is-idle : length (to_come es c) ≡ 0 → can_send x.ahead c.desk ≡ false → can_do c.desk ≡ false → IsIdle x c
  is-idle z send acts = idle
    where
      parts : (c.replies ≡ []) × (replies_to es c.work.parser (under_way c) ≡ [])
      parts = nothing-left c.replies (replies_to es c.work.parser (under_way c)) z

      requests : under_way c ≡ []
      requests = none-asked (under_way c) (ap length parts.1)

      both : (in_hand c.work.hand ≡ []) × (c.requests ≡ [])
      both = nothing-left (in_hand c.work.hand) c.requests (ap length requests)

      idle : IsIdle x c
      idle Send can = absurd (true≢false (sym can ∙ send))
      idle Pick can = absurd (true≢false (sym ((and_parts _ _ can).1) ∙ ap (λ rs. not (is_empty rs)) both.1))
      idle Give can = absurd (true≢false (sym can ∙ ap is_some (no-hand c.work.hand both.0)))
      idle Take can = absurd (true≢false (sym ((and_parts _ _ can).1) ∙ ap (λ rs. not (is_empty rs)) parts.0))
      idle Do can = absurd (true≢false (sym can ∙ acts))
      idle (Arrive name) can = (name, refl)

-- so it isn't free
pub never-free : (x : Setup) (vs : List Event) (d : Desk) → 0 < x.ahead → IsReached x vs d → can_send x.ahead d ≡ false → can_do d ≡ false → d.taken ≡ d.sent → d.phase ≡ free → ⊥
never-free x vs d some reached send acts count at_free =
    let (c, runs, is) = desk-is_core x vs d reached in
    let t : Together x c = (reached-together x (with_replies vs) c runs).1 in
    let taken : c.desk.taken ≡ c.desk.sent = subst (λ (z : Desk). z.taken ≡ z.sent) (sym is) count in
    let none : outstanding c.desk ≡ 0 = omega (arith, taken) in
    let phase : c.desk.phase ≡ free = ap (λ (z : Desk). z.phase) is ∙ at_free in
    let zero_ = none-under_way x c c.desk.phase refl phase t none (omega (arith, taken)) in
    let idle = is-idle x c zero_ (ap (can_send x.ahead) is ∙ send) (ap can_do is ∙ acts) in
    subst (λ p. IsOverOrAwaits p c.desk) phase (never-stuck x (with_replies vs) c some runs idle)
