-- What a pair shows of a core tells which events are enabled in it, and for which moments its document's side stands.
use Rattle.std.proofs.Common.{◌≡◌, true≢false, ℕ, true, false, List, refl, subst, sym, ◌∙◌, ap}
use Rattle.std.specs.Prelude.{not, ◌&&◌}
use Rattle.html_types.specs.declared.operation.NodeId.{NodeId}
use Rattle.standard.specs.Act.{Doc, SameUpTo}
use Rattle.serial.specs.Serial.{Serial, Moment, reading, tag_ended, awaits, over}
use Rattle.core_definitions.specs.declared.event.Event.{Event}
use Rattle.core_definitions.specs.declared.event.Event.TheVariants.{Send, Pick, Give, Take, Do, Arrive}
use Rattle.core_definitions.specs.Settling.{is_empty}
use Rattle.core_definitions.specs.Desk.{Phase, free, tagged, waits, done, Desk, is_free, is_done, can_send, can_do_in, can_do, can_arrive}
use Rattle.core_definitions.specs.Core.{Setup, Core, enabled}
use Rattle.core_definitions.specs.StandsFor.{CarriesMoment, own_moment, page_left, StandsFor}
use Rattle.core_steps.specs.Sides.{ShowsIn, Shows}
use Rattle.core_steps.proofs.Counts.{counts-same}
use Rattle.core_pair.specs.Pairs.{ShowsCore}

-- what is shown of a desk at any time
pub record Parts (d v : Desk) : Type 0 where
  pub is : d ≡ record v { own = d.own; hand = d.hand }
  pub doc : d.own.side.doc ≡ v.own.side.doc
  pub lines : d.own.side.lines ≡ v.own.side.lines

same-parts : (d v : Desk) → d ≡ v → Parts d v
same-parts d v e = record {
  is = e ∙ ap (λ (z : Desk). record v { own = z.own; hand = z.hand }) (sym e);
  doc = ap (λ (z : Desk). z.own.side.doc) e;
  lines = ap (λ (z : Desk). z.own.side.lines) e;
}

parts-in : (d v : Desk) (p : Phase) → ShowsIn p d v → Parts d v
parts-in d v free s = same-parts d v s
parts-in d v (tagged i held) s = same-parts d v s
parts-in d v (waits name held) s = same-parts d v s
parts-in d v (done r) (is, doc, lines, counts) = record { is = is; doc = doc; lines = lines }

pub core-parts : (c told : Core) → ShowsCore c told → Parts c.desk told.desk
core-parts c told (d, shows, is) = subst (λ (z : Desk). Parts z told.desk) (sym (ap (λ (z : Core). z.desk) is)) (parts-in d told.desk told.desk.phase shows)

-- what isn't done is shown as it is
shown-whole : (d v : Desk) (p : Phase) → is_done p ≡ false → ShowsIn p d v → d ≡ v
shown-whole d v free going s = s
shown-whole d v (tagged i held) going s = s
shown-whole d v (waits name held) going s = s
shown-whole d v (done r) going s = absurd (true≢false going)

pub core-whole : (c told : Core) → is_done told.desk.phase ≡ false → ShowsCore c told → c ≡ told
core-whole c told going (d, shows, is) = is ∙ ap (λ (z : Desk). record told { desk = z }) (shown-whole d told.desk told.desk.phase going shows)

-- what is as it is told is shown
pub shows-itself : (d : Desk) → Shows d d
shows-itself d = by d.phase
  where
    by : (p : Phase) → ShowsIn p d d
    by free = refl
    by (tagged i held) = refl
    by (waits name held) = refl
    by (done r) = (refl, refl, refl, counts-same r d.own.side d.own.side refl)

pub core-shows-itself : (c : Core) → ShowsCore c c
core-shows-itself c = (c.desk, shows-itself c.desk, refl)

-- ---- which events are enabled

idle-shown : (d v : Desk) (p : Phase) → v.phase ≡ p → ShowsIn p d v → (is_free d.phase && is_empty d.hand) ≡ (is_free v.phase && is_empty v.hand)
idle-shown d v free q s = ap (λ (z : Desk). is_free z.phase && is_empty z.hand) s
idle-shown d v (tagged i held) q s = ap (λ (z : Desk). is_free z.phase && is_empty z.hand) s
idle-shown d v (waits name held) q s = ap (λ (z : Desk). is_free z.phase && is_empty z.hand) s
idle-shown d v (done r) q (is, doc, lines, counts) =
    ap (λ f. is_free f && is_empty d.hand) (ap (λ (z : Desk). z.phase) is ∙ q) ∙ sym (ap (λ f. is_free f && is_empty v.hand) q)

do-shown : (d v : Desk) (p : Phase) → v.phase ≡ p → ShowsIn p d v → can_do d ≡ can_do v
do-shown d v free q s = ap can_do s
do-shown d v (tagged i held) q s = ap can_do s
do-shown d v (waits name held) q s = ap can_do s
do-shown d v (done r) q (is, doc, lines, counts) = ap (λ f. can_do_in f d) (ap (λ (z : Desk). z.phase) is ∙ q) ∙ sym (ap (λ f. can_do_in f v) q)

desk-enabled : (x : Setup) (v : Event) (told : Core) (d : Desk) → Shows d told.desk → enabled x v (record told { desk = d }) ≡ enabled x v told
desk-enabled x Send told d s = ap (can_send x.ahead) (parts-in d told.desk told.desk.phase s).is
desk-enabled x Pick told d s = refl
desk-enabled x Give told d s = refl
desk-enabled x Take told d s = ap (λ b. b && not (is_empty told.replies)) (idle-shown d told.desk told.desk.phase refl s)
desk-enabled x Do told d s = do-shown d told.desk told.desk.phase refl s
desk-enabled x (Arrive name) told d s = ap (can_arrive name) (parts-in d told.desk told.desk.phase s).is

pub enabled-shown : (x : Setup) (v : Event) (c told : Core) → ShowsCore c told → enabled x v c ≡ enabled x v told
enabled-shown x v c told (d, shows, is) = ap (enabled x v) is ∙ desk-enabled x v told d shows

-- ---- for which moments it stands

stands-in : (r : NodeId → NodeId) (page : List ℕ) (p : Phase) (own shown : Serial) (m : Moment) → is_done p ≡ true → own.side.doc ≡ shown.side.doc → own.side.lines ≡ shown.side.lines →
    CarriesMoment r page m (own_moment p own) → CarriesMoment r page m (own_moment p shown)
stands-in r page free own shown m q doc lines h = absurd (true≢false (sym q))
stands-in r page (tagged i held) own shown m q doc lines h = absurd (true≢false (sym q))
stands-in r page (waits name held) own shown m q doc lines h = absurd (true≢false (sym q))
stands-in r page (done x) own shown (reading s) q doc lines h = h
stands-in r page (done x) own shown (tag_ended i s) q doc lines h = h
stands-in r page (done x) own shown (awaits name s) q doc lines h = h
stands-in r page (done x) own shown (over o) q doc lines (result, same_lines, same) =
    (result, sym lines ∙ same_lines, subst (λ (z : Doc). SameUpTo r o.last.side.doc z) doc same)

desk-stands : (d v : Desk) (p : Phase) (m : Moment) → v.phase ≡ p → ShowsIn p d v → StandsFor d m → StandsFor v m
desk-stands d v free m q s h = subst (λ (z : Desk). StandsFor z m) s h
desk-stands d v (tagged i held) m q s h = subst (λ (z : Desk). StandsFor z m) s h
desk-stands d v (waits name held) m q s h = subst (λ (z : Desk). StandsFor z m) s h
desk-stands d v (done x) m q (is, doc, lines, counts) (r, one, carries) =
    let page : List ℕ = page_left v in
    let own : CarriesMoment r page m (own_moment v.phase d.own) = subst (λ (z : Desk). CarriesMoment r (page_left z) m (own_moment z.phase d.own)) is carries in
    (r, one, stands-in r page v.phase d.own v.own m (ap is_done q) doc lines own)

pub core-stands : (c told : Core) (m : Moment) → ShowsCore c told → StandsFor c.desk m → StandsFor told.desk m
core-stands c told m (d, shows, is) h =
    desk-stands d told.desk told.desk.phase m refl shows (subst (λ (z : Desk). StandsFor z m) (ap (λ (z : Core). z.desk) is) h)
