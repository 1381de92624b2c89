-- Where a pair stands.
use Rattle.std.proofs.Common.{◌≡◌, ◌≢◌, true≢false, ℕ, Bool, true, false, List, refl, sym, ◌∙◌, ap}
use Rattle.std.proofs.lemmas.Bool.{and_parts}
use Rattle.std.specs.Prelude.{◌||◌}
use Rattle.standard.specs.Entities.{Entities}
use Rattle.core_definitions.specs.declared.event.Event.{Event}
use Rattle.core_definitions.specs.declared.event.Event.TheVariants.{Send, Pick, Give, Take, Do, Arrive}
use Rattle.core_definitions.specs.Desk.{Phase, free, tagged, waits, done, Desk, is_free, can_do_in, has_arrived}
use Rattle.core_definitions.specs.Core.{Setup, Core, enabled}
use Rattle.core_laws.specs.CoreLaws.{IsIdle, IsOverOrAwaits}
use Rattle.core_steps.specs.Sides.{Standing, running, awaiting, over, unless_arrived, standing_in, standing_of}
use Rattle.core_pair.specs.Pairs.{Paired, setup_of, is_busy, IsRun}
use Rattle.core_pair.specs.Interleaving.{unless_busy, standing_of_core, IsAwaited, Awaits}
use Rattle.core_pair.proofs.Interleaved.{over-or-awaits}

-- ---- what one standing isn't

abbrev is_awaiting : Standing → Bool
is_awaiting (awaiting name) = true
is_awaiting s = false

abbrev is_running : Standing → Bool
is_running running = true
is_running s = false

abbrev name_or : List ℕ → Standing → List ℕ
name_or n (awaiting name) = name
name_or n s = n

-- ---- none is awaited while the sides can go on

not-busy : (b : Bool) (s : Standing) (name : List ℕ) → unless_busy b s ≡ awaiting name → (b ≡ false) × (s ≡ awaiting name)
not-busy true running name q = absurd (true≢false (sym (ap is_awaiting q)))
not-busy true (awaiting n) name q = absurd (true≢false (sym (ap is_awaiting q)))
not-busy true (over r) name q = absurd (true≢false (sym (ap is_awaiting q)))
not-busy false s name q = (refl, q)

idle-standing : (b : Bool) (s : Standing) → b ≡ false → unless_busy b s ≡ s
idle-standing b s q = ap (λ t. unless_busy t s) q

or-parts : (a b : Bool) → (a || b) ≡ false → (a ≡ false) × (b ≡ false)
or-parts true b q = absurd (true≢false q)
or-parts false b q = (refl, q)

abbrev is_arrival : Event → Bool
is_arrival (Arrive name) = true
is_arrival v = false

none-busy : (x : Setup) (c : Core) → IsIdle x c → is_busy x c ≡ false
none-busy x c idle = neither (enabled x Send c) (enabled x Pick c || enabled x Give c) (off Send refl) (neither (enabled x Pick c) (enabled x Give c) (off Pick refl) (off Give refl))
  where
    neither : (a b : Bool) → a ≡ false → b ≡ false → (a || b) ≡ false
    neither a b q p = ap (λ z. z || b) q ∙ p

    off : (v : Event) → is_arrival v ≡ false → enabled x v c ≡ false
    off v q = by (enabled x v c) refl
      where
        by : (b : Bool) → enabled x v c ≡ b → b ≡ false
        by true e = absurd (true≢false (sym (ap is_arrival (idle v e).1) ∙ q))
        by false e = refl

-- ---- a script is awaited

awaited-in : (name : List ℕ) (p : Phase) (d : Desk) → standing_in p d ≡ awaiting name → IsAwaited name p d
awaited-in name free d q = true≢false (sym (ap is_awaiting q))
awaited-in name (tagged i held) d q = true≢false (sym (ap is_awaiting q))
awaited-in name (waits n held) d q = by (has_arrived n d) refl q
  where
    by : (b : Bool) → has_arrived n d ≡ b → unless_arrived b n ≡ awaiting name → (n ≡ name) × (has_arrived n d ≡ false)
    by true e q = absurd (true≢false (sym (ap is_awaiting q)))
    by false e q = (ap (name_or n) q, e)
awaited-in name (done r) d q = true≢false (sym (ap is_awaiting q))

standing-awaited : (name : List ℕ) (p : Phase) (d : Desk) → IsAwaited name p d → standing_in p d ≡ awaiting name
standing-awaited name free d h = absurd h
standing-awaited name (tagged i held) d h = absurd h
standing-awaited name (waits n held) d (is, not_there) = ap (λ b. unless_arrived b n) not_there ∙ ap awaiting is
standing-awaited name (done r) d h = absurd h

awaited-not-free : (name : List ℕ) (p : Phase) (d : Desk) → IsAwaited name p d → is_free p ≡ false
awaited-not-free name free d h = absurd h
awaited-not-free name (tagged i held) d h = absurd h
awaited-not-free name (waits n held) d h = refl
awaited-not-free name (done r) d h = absurd h

awaited-not-done : (name : List ℕ) (p : Phase) (d : Desk) → IsAwaited name p d → can_do_in p d ≡ false
awaited-not-done name free d h = absurd h
awaited-not-done name (tagged i held) d h = absurd h
awaited-not-done name (waits n held) d h = h.1
awaited-not-done name (done r) d h = absurd h

off-on : (b : Bool) → b ≡ false → b ≡ true → ⊥
off-on b q p = true≢false (sym p ∙ q)

-- nothing but arrivals is enabled then
awaited-idle : (x : Setup) (c : Core) (name : List ℕ) → is_busy x c ≡ false → IsAwaited name c.desk.phase c.desk → IsIdle x c
awaited-idle x c name quiet h Send can = absurd (off-on (enabled x Send c) (or-parts _ _ quiet).0 can)
awaited-idle x c name quiet h Pick can = absurd (off-on (enabled x Pick c) (or-parts _ _ (or-parts _ _ quiet).1).0 can)
awaited-idle x c name quiet h Give can = absurd (off-on (enabled x Give c) (or-parts _ _ (or-parts _ _ quiet).1).1 can)
awaited-idle x c name quiet h Take can = absurd (off-on (is_free c.desk.phase) (awaited-not-free name c.desk.phase c.desk h) (and_parts _ _ (and_parts _ _ can).0).0)
awaited-idle x c name quiet h Do can = absurd (off-on (can_do_in c.desk.phase c.desk) (awaited-not-done name c.desk.phase c.desk h) can)
awaited-idle x c name quiet h (Arrive n) can = (n, refl)

pub stands-awaiting : (p : Paired) (name : List ℕ) → standing_of_core (setup_of p) p.core ≡ awaiting name → Awaits name p
stands-awaiting p name q =
    let (quiet, is) = not-busy (is_busy (setup_of p) p.core) (standing_of p.core.desk) name q in
    let h : IsAwaited name p.core.desk.phase p.core.desk = awaited-in name p.core.desk.phase p.core.desk is in
    (awaited-idle (setup_of p) p.core name quiet h, h)

pub awaits-standing : (p : Paired) (name : List ℕ) → Awaits name p → standing_of_core (setup_of p) p.core ≡ awaiting name
awaits-standing p name (idle, h) =
    idle-standing (is_busy (setup_of p) p.core) (standing_of p.core.desk) (none-busy (setup_of p) p.core idle) ∙ standing-awaited name p.core.desk.phase p.core.desk h

-- ---- never stuck

over-not-running : (p : Phase) (d : Desk) → IsOverOrAwaits p d → standing_in p d ≢ running
over-not-running free d h q = h
over-not-running (tagged i held) d h q = h
over-not-running (waits name held) d h q = true≢false (sym (ap is_running (sym (ap (λ b. unless_arrived b name) h) ∙ q)))
over-not-running (done r) d h q = true≢false (sym (ap is_running q))

pub never-running : {es : Entities} {p : Paired} → IsRun es p → IsIdle (setup_of p) p.core → standing_of_core (setup_of p) p.core ≢ running
never-running {p = p} h idle q =
    over-not-running p.core.desk.phase p.core.desk (over-or-awaits h idle) (sym (idle-standing (is_busy (setup_of p) p.core) (standing_of p.core.desk) (none-busy (setup_of p) p.core idle)) ∙ q)
