-- An event more leads on from what is shown, in the definitions' core.
use Rattle.std.proofs.Common.{◌≡◌, ◌<◌, true≢false, ℕ, nat_lt, Bool, true, false, List, [], ◌∷◌, ◌++◌, append-nil, Option, Some, None, refl, subst, sym, ◌∙◌, ap}
use Rattle.std.proofs.lemmas.Bool.{and_parts}
use Rattle.std.specs.Prelude.{IsTrue, not, is_some, if◌then◌else◌}
use Rattle.html_types.specs.declared.operation.NodeId.{NodeId}
use Rattle.html_types.specs.declared.instruction.Stop.TheVariants as stop
use Rattle.html_types.specs.declared.ending.Ending.{Ending}
use Rattle.standard.specs.Entities.{Entities}
use Rattle.standard.specs.Parser.{Parser}
use Rattle.serial.specs.Scripts.{Fetched, is_lawful}
use Rattle.serial.specs.Serial.{World, prepared, fetched, fetched_if, Moment, reading, tag_ended, awaits, over}
use Rattle.core_definitions.specs.declared.event.Event.{Event}
use Rattle.core_definitions.specs.declared.event.Event.TheVariants.{Send, Pick, Give, Take, Do, Arrive}
use Rattle.core_definitions.specs.declared.verdict.Verdict.TheVariants.{Keep, Rewind}
use Rattle.core_definitions.specs.Batches.{Piece, Batch, Halt, at, over_with}
use Rattle.core_definitions.specs.Verdict.{runs}
use Rattle.core_definitions.specs.Settling.{is_empty}
use Rattle.core_definitions.specs.Desk.{Phase, free, tagged, waits, done, Desk, is_free, is_done, can_do_in, wants_reply, sends_first, takes, with_batches, drops, answer_called_for, stale, arrives, at_end_tag, behind_halt, with_executed, executes, Concludes, DoesIn, Does}
use Rattle.core_definitions.specs.Core.{Setup, Request, Reply, Core, first_core, enabled, sent_from, picked_from, given_to, taken_from, Steps, Runs}
use Rattle.core_definitions.specs.Journal.{Knows, own_events}
use Rattle.core_laws.proofs.Together.{reached-together, steps-together}
use Rattle.core_steps.specs.Acting.{fetch_or_missing}
use Rattle.core_steps.specs.Fetches.{names_of}
use Rattle.core_steps.specs.Journals.{found}
use Rattle.core_steps.specs.Sides.{ShowsIn, Shows}
use Rattle.core_pair.specs.Pairs.{Paired, setup_from, setup_of, in_world, first_paired, ShowsCore, StepsShown, fetches_noted, events_noted, stepped, behind_first, with_event, IsApplicable, Applied, Reaches, IsRun}
use Rattle.core_pair.proofs.Worlds.{reached-here, enabled-world}
use Rattle.core_pair.proofs.Shown.{core-whole, core-shows-itself, enabled-shown}

-- ---- runs

runs-then : (x : Setup) (vs : List Event) (v : Event) (a b c : Core) → Runs x vs a b → IsTrue (enabled x v b) → Steps x v b c → Runs x (vs ++ v ∷ []) a c
runs-then x [] v a b c is can step = subst (λ (z : Core). Runs x (v ∷ []) z c) is (c, can, step, refl)
runs-then x (u ∷ us) v a b c (d, first, leads, rest) can step = (d, first, leads, runs-then x us v d b c rest can step)

reaches-then : (x : Setup) (vs : List Event) (v : Event) (told told' : Core) → Reaches x vs told → IsTrue (enabled x v told) → StepsShown x v told told' → Reaches x (vs ++ v ∷ []) told'
reaches-then x vs v told told' (c, runs_, shows) can steps =
    let (c', step, shows') = steps c shows in
    (c', runs-then x vs v (first_core x) c c' runs_ (enabled-shown x v c told shows ∙ can) step, shows')

-- What stands in the core is what is called for.
pub take-called : (x : Setup) (vs : List Event) (c : Core) → Runs x vs (first_core x) c → IsTrue (enabled x Take c) → IsTrue (wants_reply c.desk) × ((taken_from c.replies c).desk ≡ takes x.world.entities c.desk)
take-called x vs c runs_ can =
    let t = (reached-together x vs c runs_).1 in
    let (d, moves, last) = (steps-together x Take c (taken_from c.replies c) can refl t).0 in
    (moves.0, last ∙ moves.1)

-- ---- a step, by its event

module _ (x : Setup) (told : Core) where
  going-on : (v : Event) (told' : Core) → is_done told.desk.phase ≡ false → ((c' : Core) × Steps x v told c' × ShowsCore c' told') → StepsShown x v told told'
  going-on v told' going step c shows =
      subst (λ (z : Core). (c' : Core) × Steps x v z c' × ShowsCore c' told') (sym (core-whole c told going shows)) step

  send-going : IsTrue (enabled x Send told) → is_done told.desk.phase ≡ false
  send-going can = by (is_done told.desk.phase) (and_parts _ _ (and_parts _ _ can).0).0
    where
      by : (b : Bool) → not b ≡ true → b ≡ false
      by true q = absurd (true≢false (sym q))
      by false q = refl

  pub send-steps : IsTrue (enabled x Send told) → StepsShown x Send told (sent_from told.desk.to_send told)
  send-steps can = going-on Send (sent_from told.desk.to_send told) (send-going can) (sent_from told.desk.to_send told, refl, core-shows-itself (sent_from told.desk.to_send told))

  picked-desk : (rs : List Request) (d : Desk) → Shows d told.desk → ShowsCore (picked_from rs (record told { desk = d })) (picked_from rs told)
  picked-desk [] d s = (d, s, refl)
  picked-desk (r ∷ rs) d s = (d, s, refl)

  pub pick-steps : StepsShown x Pick told (picked_from told.requests told)
  pick-steps c (d, shows, is) =
      (picked_from c.requests c, refl, subst (λ (z : Core). ShowsCore (picked_from z.requests z) (picked_from told.requests told)) (sym is) (picked-desk told.requests d shows))

  given-desk : (h : Option Request) (d : Desk) → Shows d told.desk → ShowsCore (given_to h x.world.entities (record told { desk = d })) (given_to h x.world.entities told)
  given-desk None d s = (d, s, refl)
  given-desk (Some r) d s = (d, s, refl)

  pub give-steps : StepsShown x Give told (given_to told.work.hand x.world.entities told)
  give-steps c (d, shows, is) = (
    given_to c.work.hand x.world.entities c,
    refl,
    subst (λ (z : Core). ShowsCore (given_to z.work.hand x.world.entities z) (given_to told.work.hand x.world.entities told)) (sym is) (given-desk told.work.hand d shows),
  )

  free-going : (p : Phase) → is_free p ≡ true → is_done p ≡ false
  free-going free q = refl
  free-going (tagged i held) q = refl
  free-going (waits name held) q = refl
  free-going (done r) q = absurd (true≢false (sym q))

  pub take-going : IsTrue (enabled x Take told) → is_done told.desk.phase ≡ false
  take-going can = free-going told.desk.phase (and_parts _ _ (and_parts _ _ can).0).0

  taken-lane : (rs : List Reply) (c : Core) → not (is_empty rs) ≡ true → taken_from rs c ≡ record c { desk = (taken_from rs c).desk; replies = behind_first rs }
  taken-lane [] c some = absurd (true≢false (sym some))
  taken-lane (r ∷ rs) c some = refl

  pub take-steps : (vs : List Event) → Reaches x vs told → IsTrue (enabled x Take told) → StepsShown x Take told (record told { desk = takes x.world.entities told.desk; replies = behind_first told.replies })
  take-steps vs (c, runs_, shows) can =
      let same : c ≡ told = core-whole c told (take-going can) shows in
      let called = take-called x vs told (subst (Runs x vs (first_core x)) same runs_) can in
      let is : taken_from told.replies told ≡ record told { desk = takes x.world.entities told.desk; replies = behind_first told.replies } =
      taken-lane told.replies told (and_parts _ _ can).1 ∙ ap (λ (z : Desk). record told { desk = z; replies = behind_first told.replies }) called.1 in
      going-on Take (record told { desk = takes x.world.entities told.desk; replies = behind_first told.replies }) (take-going can)
      (record told { desk = takes x.world.entities told.desk; replies = behind_first told.replies }, sym is, core-shows-itself (record told { desk = takes x.world.entities told.desk; replies = behind_first told.replies }))

  do-going : (p : Phase) → IsTrue (can_do_in p told.desk) → is_done p ≡ false
  do-going free can = refl
  do-going (tagged i held) can = refl
  do-going (waits name held) can = refl
  do-going (done r) can = absurd (true≢false (sym can))

  pub do-steps : (d : Desk) → IsTrue (enabled x Do told) → ((d' : Desk) × Does x.world told.desk d' × Shows d' d) → StepsShown x Do told (record told { desk = d })
  do-steps d can (d', does, shows) = going-on Do (record told { desk = d }) (do-going told.desk.phase can) (record told { desk = d' }, (d', does, refl), (d', shows, refl))

  arrives-in : (name : List ℕ) (d v : Desk) (p : Phase) → ShowsIn p d v → ShowsIn p (arrives name d) (arrives name v)
  arrives-in name d v free is = ap (arrives name) is
  arrives-in name d v (tagged i held) is = ap (arrives name) is
  arrives-in name d v (waits n held) is = ap (arrives name) is
  arrives-in name d v (done r) (is, doc, lines, counts) = (ap (arrives name) is, doc, lines, counts)

  pub arrive-steps : (name : List ℕ) → StepsShown x (Arrive name) told (record told { desk = arrives name told.desk })
  arrive-steps name c (d, shows, is) =
      (record c { desk = arrives name c.desk }, refl, (arrives name d, arrives-in name d told.desk told.desk.phase shows, ap (λ (z : Core). record z { desk = arrives name z.desk }) is))

-- ---- the names that have arrived

sends-arrived : (ps : List Piece) (d : Desk) → (sends_first ps d).arrived ≡ d.arrived
sends-arrived [] d = refl
sends-arrived (y ∷ ys) d = refl

sent-arrived : (ps : List Piece) (c : Core) → (sent_from ps c).desk.arrived ≡ c.desk.arrived
sent-arrived [] c = refl
sent-arrived (y ∷ ys) c = sends-arrived c.desk.to_send c.desk

takes-arrived : (es : Entities) (d : Desk) → (takes es d).arrived ≡ d.arrived
takes-arrived es d = by (nat_lt 0 (stale d)) d.asked
  where
    by : (b : Bool) (ps : List Piece) → (if b then drops d else with_batches (answer_called_for es d ps) ps d).arrived ≡ d.arrived
    by true ps = refl
    by false [] = refl
    by false (y ∷ ys) = refl

tag-arrived : (run : Bool) (i : NodeId) (d : Desk) → (at_end_tag run i d).arrived ≡ d.arrived
tag-arrived true i d = refl
tag-arrived false i d = refl

halt-arrived : (h : Halt) (d : Desk) → (behind_halt h d).arrived ≡ d.arrived
halt-arrived (at stop.InputEnd) d = refl
halt-arrived (at (stop.Script i)) d = tag-arrived (runs (prepared i d.own)) i d
halt-arrived (at stop.Deep) d = refl
halt-arrived (over_with w) d = refl

executes-arrived : (bs : List Batch) (d : Desk) → (executes bs d).arrived ≡ d.arrived
executes-arrived [] d = refl
executes-arrived (b ∷ bs) d = halt-arrived b.halt (with_executed b bs d)

concludes-arrived : (held : Parser) (m : Moment) (d d' : Desk) → Concludes held m d d' → d'.arrived ≡ d.arrived
concludes-arrived held (reading s) d d' (Keep, verdict, is) = ap (λ (z : Desk). z.arrived) is
concludes-arrived held (reading s) d d' (Rewind, verdict, is) = ap (λ (z : Desk). z.arrived) is
concludes-arrived held (tag_ended i s) d d' is = absurd is
concludes-arrived held (awaits name s) d d' is = ap (λ (z : Desk). z.arrived) is
concludes-arrived held (over o) d d' is = ap (λ (z : Desk). z.arrived) is

does-arrived : (w : World) (p : Phase) (d d' : Desk) → DoesIn w p d d' → d'.arrived ≡ d.arrived
does-arrived w free d d' is = ap (λ (z : Desk). z.arrived) is ∙ executes-arrived d.hand d
does-arrived w (tagged i held) d d' (m, settles, is) = concludes-arrived held m d d' is
does-arrived w (waits name held) d d' (m, settles, is) = concludes-arrived held m d d' is
does-arrived w (done r) d d' is = absurd is

shows-arrived : (d v : Desk) (p : Phase) → ShowsIn p d v → v.arrived ≡ d.arrived
shows-arrived d v free is = sym (ap (λ (z : Desk). z.arrived) is)
shows-arrived d v (tagged i held) is = sym (ap (λ (z : Desk). z.arrived) is)
shows-arrived d v (waits n held) is = sym (ap (λ (z : Desk). z.arrived) is)
shows-arrived d v (done r) (is, doc, lines, counts) = sym (ap (λ (z : Desk). z.arrived) is)

picked-arrived : (rs : List Request) (c : Core) → (picked_from rs c).desk.arrived ≡ c.desk.arrived
picked-arrived [] c = refl
picked-arrived (r ∷ rs) c = refl

given-arrived : (h : Option Request) (es : Entities) (c : Core) → (given_to h es c).desk.arrived ≡ c.desk.arrived
given-arrived None es c = refl
given-arrived (Some r) es c = refl

-- ---- what is known of a pair stays so

own-then : (vs : List Event) (v : Event) → own_events vs ++ own_events (v ∷ []) ≡ own_events (vs ++ v ∷ [])
own-then [] v = refl
own-then (Send ∷ vs) v = ap (λ us. Send ∷ us) (own-then vs v)
own-then (Pick ∷ vs) v = own-then vs v
own-then (Give ∷ vs) v = own-then vs v
own-then (Take ∷ vs) v = ap (λ us. Take ∷ us) (own-then vs v)
own-then (Do ∷ vs) v = ap (λ us. Do ∷ us) (own-then vs v)
own-then (Arrive name ∷ vs) v = ap (λ us. Arrive name ∷ us) (own-then vs v)

abbrev pub Ran : Entities → Event → Paired → Paired → Type 0
Ran es v p q = IsRun es q × StepsShown (setup_of p) v p.core q.core × (q ≡ stepped v q.core p)

-- in each world in which the fetches are as they are now the event leads there
abbrev StepsInEach : Event → Paired → Core → Type 0
StepsInEach v p c = (w : World) → w.entities ≡ p.entities → Knows (fetches_noted v p.scripts p.journal.fetches) w → StepsShown (in_world w (setup_of p)) v p.core c

ran : (es : Entities) (v : Event) (p : Paired) (c : Core) → IsRun es p → IsTrue (enabled (setup_of p) v p.core) → StepsInEach v p c →
    ((w : World) → Knows (fetches_noted v p.scripts p.journal.fetches) w → Knows p.journal.fetches w) → Knows (fetches_noted v p.scripts p.journal.fetches) (setup_of p).world → c.desk.arrived ≡ names_of (fetches_noted v p.scripts p.journal.fetches) →
    events_noted v p.journal.events ≡ p.journal.events ++ own_events (v ∷ []) → Ran es v p (stepped v c p)
ran es v p c h can steps less knows arrived own = (
  record {
    entities = h.entities;
    some = h.some;
    knows = knows;
    arrived = arrived;
    own = own ∙ (ap (λ vs. vs ++ own_events (v ∷ [])) h.own ∙ own-then p.events v);
    reached = λ w entities k. reaches-then (in_world w (setup_of p)) p.events v p.core c (h.reached w entities (less w k)) (enabled-world w (setup_of p) v p.core ∙ can) (steps w entities k);
  },
  steps (setup_of p).world refl knows,
  refl,
)

met : (w : World) (name : List ℕ) (f : Fetched) → is_lawful name ≡ true → w.scripts name ≡ f → fetched w name ≡ f
met w name f lawful is = ap (λ b. fetched_if b w name) lawful ∙ is

pub applied-run : (es : Entities) (v : Event) (p q : Paired) → IsRun es p → IsTrue (enabled (setup_of p) v p.core) → Applied v (with_event v p) q → Ran es v p q
applied-run es Send p q h can is =
    let c : Core = sent_from p.core.desk.to_send p.core in
    subst (λ (z : Paired). Ran es Send p z) (sym is)
    (ran es Send p c h can (λ w e k. send-steps (in_world w (setup_of p)) p.core can) (λ w k. k) h.knows (sent-arrived p.core.desk.to_send p.core ∙ h.arrived) refl)
applied-run es Pick p q h can is =
    let c : Core = picked_from p.core.requests p.core in
    subst (λ (z : Paired). Ran es Pick p z) (sym is)
    (ran es Pick p c h can (λ w e k. pick-steps (in_world w (setup_of p)) p.core) (λ w k. k) h.knows (picked-arrived p.core.requests p.core ∙ h.arrived) (sym (append-nil p.journal.events)))
applied-run es Give p q h can is =
    let c : Core = given_to p.core.work.hand p.entities p.core in
    subst (λ (z : Paired). Ran es Give p z) (sym is)
    (ran es Give p c h can
    (λ w e k. subst (λ z. StepsShown (in_world w (setup_of p)) Give p.core (given_to p.core.work.hand z p.core)) e (give-steps (in_world w (setup_of p)) p.core)) (λ w k. k) h.knows (given-arrived p.core.work.hand p.entities p.core ∙ h.arrived) (sym (append-nil p.journal.events)))
applied-run es Take p q h can is =
    let c : Core = record p.core { desk = takes p.entities p.core.desk; replies = behind_first p.core.replies } in
    subst (λ (z : Paired). Ran es Take p z) (sym is)
    (ran es Take p c h can
    (λ w e k. subst (λ z. StepsShown (in_world w (setup_of p)) Take p.core (record p.core { desk = takes z p.core.desk; replies = behind_first p.core.replies })) e
    (take-steps (in_world w (setup_of p)) p.core p.events (h.reached w e k) can)) (λ w k. k) h.knows (takes-arrived p.entities p.core.desk ∙ h.arrived) refl)
applied-run es Do p q h can (d, shown, is) =
    let (d', does, shows) = shown (setup_of p).world refl h.knows in
    let c : Core = record p.core { desk = d } in
    let arrived : d.arrived ≡ p.core.desk.arrived = shows-arrived d' d d.phase shows ∙ does-arrived (setup_of p).world p.core.desk.phase p.core.desk d' does in
    subst (λ (z : Paired). Ran es Do p z) (sym is)
    (ran es Do p c h can (λ w e k. do-steps (in_world w (setup_of p)) p.core d can (shown w e k)) (λ w k. k) h.knows (arrived ∙ h.arrived) refl)
applied-run es (Arrive name) p q h can is =
    let c : Core = record p.core { desk = arrives name p.core.desk } in
    let f : Fetched = fetch_or_missing (found name p.scripts) in
    subst (λ (z : Paired). Ran es (Arrive name) p z) (sym is)
    (ran es (Arrive name) p c h can (λ w e k. arrive-steps (in_world w (setup_of p)) p.core name) (λ w k. k.1)
    (met (setup_of p).world name f (and_parts _ _ can).0 refl, h.knows) (ap (λ ns. name ∷ ns) h.arrived) refl)

-- a reply is wanted where one is taken
pub take-wanted : (es : Entities) (p : Paired) → IsRun es p → IsTrue (enabled (setup_of p) Take p.core) → IsTrue (wants_reply p.core.desk)
take-wanted es p h can =
    let (c, runs_, shows) = reached-here h in
    let same : c ≡ p.core = core-whole c p.core (take-going (setup_of p) p.core can) shows in
    (take-called (setup_of p) p.events p.core (subst (Runs (setup_of p) p.events (first_core (setup_of p))) same runs_) can).0

pub take-unwanted : (es : Entities) (p : Paired) (b : Bool) → IsRun es p → b ≡ wants_reply p.core.desk → b ≡ false → b ≡ enabled (setup_of p) Take p.core
take-unwanted es p b h is none = by (enabled (setup_of p) Take p.core) refl
  where
    by : (t : Bool) → enabled (setup_of p) Take p.core ≡ t → b ≡ t
    by true can = is ∙ take-wanted es p h can
    by false can = none

hand-none : (h : Option Request) → not (is_some h) ≡ true → h ≡ None
hand-none None q = refl
hand-none (Some r) q = absurd (true≢false (sym q))

pub applicable : (es : Entities) (v : Event) (p : Paired) → IsRun es p → IsTrue (enabled (setup_of p) v p.core) → IsApplicable es v (with_event v p)
applicable es Send p h can = can
applicable es Pick p h can = hand-none p.core.work.hand (and_parts _ _ can).0
applicable es Give p h can = (h.entities, can)
applicable es Take p h can = (h.entities, take-wanted es p h can)
applicable es Do p h can = can
applicable es (Arrive name) p h can = can

-- before any event
pub first-run : (es : Entities) (files : List (List ℕ × Fetched)) (pieces : List (List ℕ)) (e : Ending) (ahead : ℕ) → 0 < ahead → IsRun es (first_paired es files pieces e ahead)
first-run es files pieces e ahead some = record {
  entities = refl;
  some = some;
  knows = tt;
  arrived = refl;
  own = refl;
  reached = λ w entities k. (first_core (setup_from es files pieces e ahead), refl, core-shows-itself (first_core (setup_from es files pieces e ahead)));
}

-- that was just made
pub first-made : (es table : Entities) (files : List (List ℕ × Fetched)) (pieces : List (List ℕ)) (e : Ending) (ahead : ℕ) (p : Paired) → table ≡ es → 0 < ahead → p ≡ first_paired table files pieces e ahead → IsRun es p
first-made es table files pieces e ahead p same some is = subst (IsRun es) (sym is) (subst (λ t. IsRun t (first_paired table files pieces e ahead)) same (first-run table files pieces e ahead some))
