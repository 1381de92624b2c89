-- What is known of a pair is kept over its events, and after want of memory.
use Rattle.std.proofs.Common.{◌≡◌, ℕ, Bool, true, false, true≢false, List, ◌++◌, refl, sym, ◌∙◌, ap, subst}
use Rattle.std.specs.Prelude.{IsTrue, Result, Ok, Err, IfOk, OnOk, OnErr}
use Rattle.serial.specs.declared.script.Line.{Line}
use Rattle.standard.specs.Entities.{Entities}
use Rattle.serial.specs.Scripts.{Fetched}
use Rattle.core_definitions.specs.declared.event.Event.{Event}
use Rattle.core_definitions.specs.declared.event.Event.TheVariants.{Send, Pick, Give, Take, Do, Arrive}
use Rattle.core_definitions.specs.Core.{enabled}
use Rattle.core_definitions.specs.Desk.{Desk, can_send, can_do, can_arrive}
use Rattle.core_definitions.specs.Journal.{Journal}
use Rattle.core_steps.specs.Fetches.{names_of}
use Rattle.core_pair.specs.declared.both.Could.{Could}
use Rattle.core_pair.specs.Pairs.{Paired, setup_of, stepped, brought, paired_of, IsRun, IsTold, IsKept}
use Rattle.core_pair.proofs.Worlds.{run-brought}

-- want of memory makes no difference to what is known
pub run-told : (es : Entities) (p : Paired) (s : Bool) → IsRun es p → IsRun es (record p { spent = s })
run-told es p s h = record { entities = h.entities; some = h.some; knows = h.knows; arrived = h.arrived; own = h.own; reached = h.reached }

-- nor do the lines that were taken
pub run-given : (es : Entities) (p : Paired) (ls : List Line) → IsRun es p → IsRun es (record p { given = ls })
run-given es p ls h = record { entities = h.entities; some = h.some; knows = h.knows; arrived = h.arrived; own = h.own; reached = h.reached }

-- while memory lasts it shows what it holds
pub paired-now : (both before : Paired) (spent : Bool) → spent ≡ false → both.spent ≡ false → paired_of both before spent ≡ both
paired-now both before spent going whole = ap (λ b. paired_of both before b) going ∙ ap (λ s. record both { spent = s }) (sym whole)

-- what it shows is reached
pub run-shown : {es : Entities} {both before v : Paired} {could : Could} {spent : Bool} → IsKept es both before could spent → paired_of both before spent ≡ v → IsRun es v
run-shown {es = es} k is = subst (IsRun es) is k.run

pub both-shown : {es : Entities} {both before v : Paired} {could : Could} {spent : Bool} → IsKept es both before could spent → spent ≡ false → paired_of both before spent ≡ v → both ≡ v
both-shown {both = both} {before = before} {spent = spent} k going is = sym (paired-now both before spent going (k.going going)) ∙ is

pub kept-run : {could : Could} (es : Entities) (both before : Paired) (spent : Bool) → spent ≡ false → IsKept es both before could spent → IsRun es both
kept-run es both before spent going k = subst (IsRun es) (paired-now both before spent going (k.going going)) k.run

pub first-kept : {could : Could} (es : Entities) (both before : Paired) → both.spent ≡ false → IsRun es both → IsKept es both before could false
first-kept es both before whole h = record { going = λ q. whole; failed = λ q. absurd (true≢false (sym q)); journal = refl; run = run-told es both false h }

pub failed-kept : (es : Entities) (old both before : Paired) (could : Could) → before ≡ old → both.journal ≡ old.journal → IsTold both before could → IsRun es old → IsKept es both before could true
failed-kept es old both before could is journal told h = record {
  going = λ q. absurd (true≢false q);
  failed = λ q. told;
  journal = journal ∙ ap (λ (z : Paired). z.journal) (sym is);
  run = subst (λ (z : Paired). IsRun es (record z { spent = true })) (sym is) (run-told es old true h);
}

pub shown-failed : (old both before : Paired) (v : Paired) → before ≡ old → v ≡ record old { spent = false } → paired_of both before true ≡ record v { spent = true }
shown-failed old both before v is shown = ap (λ (z : Paired). record z { spent = true }) is ∙ ap (λ (z : Paired). record z { spent = true }) (sym shown)

-- an event was taken
pub stepped-shown : (v : Event) (both new before now : Paired) → both ≡ now → now.spent ≡ false → new ≡ stepped v new.core both → paired_of new before false ≡ stepped v new.core now
stepped-shown v both new before now same going is =
    ap (λ (z : Paired). record z { spent = false }) is
    ∙ (ap (λ (z : Paired). record (stepped v new.core z) { spent = false }) same ∙ ap (λ s. record (stepped v new.core now) { spent = s }) (sym going))

-- ---- after want of memory

pub told-before : (old both before : Paired) (could : Could) → before ≡ old → both.core.desk ≡ old.core.desk → both.ahead ≡ old.ahead →
    could.pick ≡ enabled (setup_of old) Pick old.core → could.give ≡ enabled (setup_of old) Give old.core → could.take ≡ enabled (setup_of old) Take old.core → IsTold both before could
told-before old both before could is desk ahead pick give takes = subst (λ (z : Paired). IsTold both z could) (sym is) (record { desk = desk; ahead = ahead; pick = pick; give = give; takes = takes })

pub failed-shown : (both before : Paired) {v : Paired} {spent : Bool} → spent ≡ true → paired_of both before spent ≡ v → record before { spent = true } ≡ v
failed-shown both before failed is = sym (ap (λ b. paired_of both before b) failed) ∙ is

pub failed-pick : {es : Entities} {both before v : Paired} {could : Could} {spent : Bool} → IsKept es both before could spent → spent ≡ true → paired_of both before spent ≡ v → could.pick ≡ enabled (setup_of v) Pick v.core
failed-pick {both = both} {before = before} k failed is = (k.failed failed).pick ∙ ap (λ (z : Paired). enabled (setup_of z) Pick z.core) (failed-shown both before failed is)

pub failed-give : {es : Entities} {both before v : Paired} {could : Could} {spent : Bool} → IsKept es both before could spent → spent ≡ true → paired_of both before spent ≡ v → could.give ≡ enabled (setup_of v) Give v.core
failed-give {both = both} {before = before} k failed is = (k.failed failed).give ∙ ap (λ (z : Paired). enabled (setup_of z) Give z.core) (failed-shown both before failed is)

pub failed-takes : {es : Entities} {both before v : Paired} {could : Could} {spent : Bool} → IsKept es both before could spent → spent ≡ true → paired_of both before spent ≡ v → could.take ≡ enabled (setup_of v) Take v.core
failed-takes {both = both} {before = before} k failed is = (k.failed failed).takes ∙ ap (λ (z : Paired). enabled (setup_of z) Take z.core) (failed-shown both before failed is)

-- What the document's side tells is shown at any time.
pub desk-shown : {es : Entities} {both before v : Paired} {could : Could} {spent : Bool} → IsKept es both before could spent → paired_of both before spent ≡ v → both.core.desk ≡ v.core.desk
desk-shown {both = both} {before = before} {v = v} {spent = spent} k is = by spent refl
  where
    by : (b : Bool) → spent ≡ b → both.core.desk ≡ v.core.desk
    by true q = (k.failed q).desk ∙ ap (λ (z : Paired). z.core.desk) (failed-shown both before q is)
    by false q = ap (λ (z : Paired). z.core.desk) (both-shown k q is)

pub ahead-shown : {es : Entities} {both before v : Paired} {could : Could} {spent : Bool} → IsKept es both before could spent → paired_of both before spent ≡ v → both.ahead ≡ v.ahead
ahead-shown {both = both} {before = before} {v = v} {spent = spent} k is = by spent refl
  where
    by : (b : Bool) → spent ≡ b → both.ahead ≡ v.ahead
    by true q = (k.failed q).ahead ∙ ap (λ (z : Paired). z.ahead) (failed-shown both before q is)
    by false q = ap (λ (z : Paired). z.ahead) (both-shown k q is)

pub journal-shown : {es : Entities} {both before v : Paired} {could : Could} {spent : Bool} → IsKept es both before could spent → paired_of both before spent ≡ v → both.journal ≡ v.journal
journal-shown k is = k.journal ∙ ap (λ (z : Paired). z.journal) is

-- ---- which events are enabled

pub send-told : {es : Entities} {both before v : Paired} {could : Could} {spent : Bool} → IsKept es both before could spent → paired_of both before spent ≡ v → can_send both.ahead both.core.desk ≡ enabled (setup_of v) Send v.core
send-told {both = both} {v = v} k is = ap (λ n. can_send n both.core.desk) (ahead-shown k is) ∙ ap (λ (d : Desk). can_send v.ahead d) (desk-shown k is)

pub do-told : {es : Entities} {both before v : Paired} {could : Could} {spent : Bool} → IsKept es both before could spent → paired_of both before spent ≡ v → can_do both.core.desk ≡ enabled (setup_of v) Do v.core
do-told k is = ap can_do (desk-shown k is)

pub arrive-told : {es : Entities} {both before v : Paired} {could : Could} {spent : Bool} (name : List ℕ) → IsKept es both before could spent → paired_of both before spent ≡ v →
    can_arrive name both.core.desk ≡ enabled (setup_of v) (Arrive name) v.core
arrive-told name k is = ap (can_arrive name) (desk-shown k is)

-- the names that have arrived are those of the journal
pub arrived-told : {es : Entities} {both before v : Paired} {could : Could} {spent : Bool} → IsKept es both before could spent → paired_of both before spent ≡ v → both.core.desk.arrived ≡ names_of both.journal.fetches
arrived-told k is =
    ap (λ (d : Desk). d.arrived) (desk-shown k is) ∙ ((run-shown k is).arrived ∙ sym (ap (λ (j : Journal). names_of j.fetches) (journal-shown k is)))

-- ---- a script was brought, or not

pub on-either : {T E : Type 0} (r : Result T E) (P Q R : Type 0) → OnOk r P → OnErr r Q → (P → R) → (Q → R) → R
on-either (Ok x) P Q R p q there otherwise = there p
on-either (Err e) P Q R p q there otherwise = otherwise q

pub on-ok : {T E : Type 0} (r : Result T E) (P : Type 0) → P → OnOk r P
on-ok (Ok x) P p = p
on-ok (Err e) P p = tt

kept-with : {could : Could} (es : Entities) (both new before v : Paired) (spent : Bool) (name : List ℕ) (f : Fetched) → spent ≡ false → paired_of both before spent ≡ v → IsTrue (can_arrive name v.core.desk) → IsKept es both before could spent → new ≡ brought name f both
    → IsKept es new before could spent
kept-with {could = could} es both new before v spent name f going shown can k is =
    let here : IsTrue (can_arrive name both.core.desk) = subst (λ (z : Paired). IsTrue (can_arrive name z.core.desk)) (sym (both-shown k going shown)) can in
    subst (λ s. IsKept es new before could s) (sym going)
    (subst (λ (z : Paired). IsKept es z before could false) (sym is) (first-kept es (brought name f both) before (k.going going) (run-brought es both name f here (kept-run es both before spent going k))))

pub kept-brought : {T E : Type 0} {could : Could} (r : Result T E) (es : Entities) (both new before v : Paired) (spent : Bool) (name : List ℕ) (f : Fetched) → spent ≡ false → paired_of both before spent ≡ v → IsTrue (can_arrive name v.core.desk)
    → IsKept es both before could spent → OnOk r (new ≡ brought name f both) → OnErr r (new ≡ both) → IsKept es new before could spent
kept-brought {could = could} r es both new before v spent name f going shown can k ok err =
    on-either r (new ≡ brought name f both) (new ≡ both) (IsKept es new before could spent) ok err (kept-with es both new before v spent name f going shown can k) (λ is. subst (λ (z : Paired). IsKept es z before could spent) (sym is) k)

-- ---- lines were taken, or not

kept-given : {could : Could} (es : Entities) (both before : Paired) (spent : Bool) (ls : List Line) → spent ≡ false → IsKept es both before could spent → IsKept es (record both { given = ls }) before could spent
kept-given {could = could} es both before spent ls going k =
    subst (λ s. IsKept es (record both { given = ls }) before could s) (sym going) (first-kept es (record both { given = ls }) before (k.going going) (run-given es both ls (kept-run es both before spent going k)))

pub kept-taken : {E : Type 0} {could : Could} (r : Result (List Line) E) (es : Entities) (both new before : Paired) (spent : Bool) → spent ≡ false → IsKept es both before could spent
    → IfOk r (λ ls. new ≡ record both { given = both.given ++ ls }) → OnErr r (new ≡ both) → IsKept es new before could spent
kept-taken {could = could} (Ok ls) es both new before spent going k ok err = subst (λ (z : Paired). IsKept es z before could spent) (sym ok) (kept-given es both before spent (both.given ++ ls) going k)
kept-taken {could = could} (Err e) es both new before spent going k ok err = subst (λ (z : Paired). IsKept es z before could spent) (sym err) k
