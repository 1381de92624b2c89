-- What the laws of the core say of a pair.
use Rattle.std.proofs.Common.{◌≡◌, ◌≤◌, ℕ, List, [], ◌∷◌, ◌++◌, refl, subst, sym, ◌∙◌, ap}
use Rattle.std.specs.Prelude.{IsTrue}
use Rattle.standard.specs.Act.{Doc}
use Rattle.standard.specs.Entities.{Entities}
use Rattle.serial.specs.Serial.{Serial}
use Rattle.standard_laws.specs.Laws.{GoesOnFrom}
use Rattle.core_definitions.specs.declared.event.Event.{Event}
use Rattle.core_definitions.specs.Desk.{Phase, free, tagged, waits, done, Desk, has_arrived, outstanding}
use Rattle.core_definitions.specs.Core.{Setup, Core, first_core, enabled, Runs}
use Rattle.core_laws.specs.Bounds.{IsBounded}
use Rattle.core_laws.specs.CoreLaws.{IsIdle, IsOverOrAwaits}
use Rattle.core_laws.proofs.Bounding.{credit-is_kept, bounded-where_it_stands, bounded-by_the_parse}
use Rattle.core_laws.proofs.Together.{core-stands_for, core-ends, core-end_stays, core-lines, never-stuck}
use Rattle.core_pair.specs.Pairs.{Paired, setup_of, in_world, StepsShown, IsRun}
use Rattle.core_pair.specs.Interleaving.{AlwaysStandsFor, EndsAsSerial, EndsInEach, LinesBegin, EndStays, CreditIsKept, BoundedWhereItStands, BoundedByTheParse}
use Rattle.core_pair.proofs.Worlds.{reached-here}
use Rattle.core_pair.proofs.Shown.{Parts, core-parts, enabled-shown, core-stands}

-- the events before and behind a state
runs-apart : (x : Setup) (vs us : List Event) (a c : Core) → Runs x (vs ++ us) a c → (b : Core) × Runs x vs a b × Runs x us b c
runs-apart x [] us a c h = (a, refl, h)
runs-apart x (v ∷ vs) us a c (d, can, step, h) = let (b, before, behind) = runs-apart x vs us d c h in (b, (d, can, step, before), behind)

pub always-stands_for : {es : Entities} {p : Paired} → IsRun es p → AlwaysStandsFor p
always-stands_for {p = p} h vs us q =
    let (last, runs, shows) = reached-here h in
    let (c, before, behind) = runs-apart (setup_of p) vs us (first_core (setup_of p)) last (subst (λ ws. Runs (setup_of p) ws (first_core (setup_of p)) last) q runs) in
    let (m, m', passes, stood, leads, stands) = core-stands_for (setup_of p) vs us c last before behind in
    (c, m, m', before, passes, stood, leads, core-stands last p.core m' shows stands)

pub ends-as-serial : {es : Entities} {p : Paired} → IsRun es p → EndsAsSerial p
ends-as-serial {p = p} h r o q is =
    let (c, runs, shows) = reached-here h in
    let parts : Parts c.desk p.core.desk = core-parts c p.core shows in
    let (result, lines, tree) = core-ends (setup_of p) p.events c r o runs (ap (λ (z : Desk). z.phase) parts.is ∙ q) is in
    (result, sym parts.lines ∙ lines, sym (ap (λ (d : Doc). d.tree) parts.doc) ∙ tree)

pub ends-in-each : {es : Entities} {p : Paired} → IsRun es p → EndsInEach p
ends-in-each {p = p} h w entities knows r o q is =
    let (c, runs, shows) = h.reached w entities knows in
    let parts : Parts c.desk p.core.desk = core-parts c p.core shows in
    let (result, lines, tree) = core-ends (in_world w (setup_of p)) p.events c r o runs (ap (λ (z : Desk). z.phase) parts.is ∙ q) is in
    (result, sym parts.lines ∙ lines, sym (ap (λ (d : Doc). d.tree) parts.doc) ∙ tree)

pub lines-begin : {es : Entities} {p : Paired} → IsRun es p → LinesBegin p
lines-begin {p = p} h o is =
    let (c, runs, shows) = reached-here h in
    subst (λ ls. GoesOnFrom ls o.last.side.lines) (core-parts c p.core shows).lines (core-lines (setup_of p) p.events c o runs is)

pub end-stays : {es : Entities} {p : Paired} (v : Event) (told' : Core) → IsRun es p → IsTrue (enabled (setup_of p) v p.core) → StepsShown (setup_of p) v p.core told' → EndStays p.core told'
end-stays {p = p} v told' h can steps r q =
    let (c, runs, shows) = reached-here h in
    let (c', step, shows') = steps c shows in
    let parts : Parts c.desk p.core.desk = core-parts c p.core shows in
    let parts' : Parts c'.desk told'.desk = core-parts c' told' shows' in
    let stays = core-end_stays (setup_of p) p.events (v ∷ []) c c' r runs (ap (λ (z : Desk). z.phase) parts.is ∙ q) (c', enabled-shown (setup_of p) v c p.core shows ∙ can, step, refl) in (
      sym (ap (λ (z : Desk). z.phase) parts'.is) ∙ stays.0,
      sym parts'.doc ∙ (ap (λ (s : Serial). s.side.doc) stays.1 ∙ parts.doc),
      sym parts'.lines ∙ (ap (λ (s : Serial). s.side.lines) stays.1 ∙ parts.lines),
    )

-- ---- bounds

shown-bounds : (x : Setup) (failed : ℕ) (d v : Desk) → Parts d v → IsBounded x failed d → IsBounded x failed v
shown-bounds x failed d v parts b = let is : IsBounded x failed (record v { own = d.own; hand = d.hand }) = subst (IsBounded x failed) parts.is b in record { dropped = is.dropped; sent = is.sent }

pub credit-kept : {es : Entities} {p : Paired} → IsRun es p → CreditIsKept p
credit-kept {p = p} h =
    let (c, runs, shows) = reached-here h in
    subst (λ (z : Desk). outstanding z ≤ p.ahead) (core-parts c p.core shows).is (credit-is_kept (setup_of p) p.events c runs)

pub bounded-where-it-stands : {es : Entities} {p : Paired} → IsRun es p → BoundedWhereItStands p
bounded-where-it-stands {p = p} h =
    let (c, runs, shows) = reached-here h in
    let parts : Parts c.desk p.core.desk = core-parts c p.core shows in
    let (m, v, known, stands, epochs, bound) = bounded-where_it_stands (setup_of p) p.events c runs in
    (m, v, known, core-stands c p.core m shows stands, epochs ∙ ap (λ (z : Desk). z.epoch) parts.is, shown-bounds (setup_of p) v.failed c.desk p.core.desk parts bound)

pub bounded-by-the-parse : {es : Entities} {p : Paired} → IsRun es p → BoundedByTheParse p
bounded-by-the-parse {p = p} h v verdicts =
    let (c, runs, shows) = reached-here h in
    shown-bounds (setup_of p) v.failed c.desk p.core.desk (core-parts c p.core shows) (bounded-by_the_parse (setup_of p) p.events c v runs verdicts)

-- ---- never stuck

over-shown : (p : Phase) (d v : Desk) → d.arrived ≡ v.arrived → IsOverOrAwaits p d → IsOverOrAwaits p v
over-shown free d v q h = h
over-shown (tagged i held) d v q h = h
over-shown (waits name held) d v q h = sym (ap (λ ns. has_arrived name (record v { arrived = ns })) q) ∙ h
over-shown (done r) d v q h = h

pub over-or-awaits : {es : Entities} {p : Paired} → IsRun es p → IsIdle (setup_of p) p.core → IsOverOrAwaits p.core.desk.phase p.core.desk
over-or-awaits {p = p} h idle =
    let (c, runs, shows) = reached-here h in
    let parts : Parts c.desk p.core.desk = core-parts c p.core shows in
    let over = never-stuck (setup_of p) p.events c h.some runs (λ v can. idle v (sym (enabled-shown (setup_of p) v c p.core shows) ∙ can)) in
    over-shown p.core.desk.phase c.desk p.core.desk (ap (λ (z : Desk). z.arrived) parts.is) (subst (λ f. IsOverOrAwaits f c.desk) (ap (λ (z : Desk). z.phase) parts.is) over)
