-- What the document's side keeps: over its events, and after want of memory.
use Rattle.std.proofs.Common.{◌≡◌, ℕ, Bool, true, false, true≢false, List, [], ◌∷◌, ◌++◌, Option, Some, None, refl, sym, ◌∙◌, ap, subst, IsTrue}
use Rattle.std.specs.Prelude.{not, ◌&&◌, ◌||◌, if◌then◌else◌}
use Rattle.serial.specs.declared.script.Line.{Line}
use Rattle.core_definitions.specs.declared.event.Event.TheVariants.{Do}
use Rattle.serial.specs.Scripts.{is_lawful}
use Rattle.core_definitions.specs.Desk.{Phase, free, tagged, waits, done, Desk, is_among, has_arrived, can_send, can_do_in, can_do, wants_reply, can_arrive}
use Rattle.core_definitions.specs.Journal.{Journal}
use Rattle.core_steps.specs.declared.stage.Stage.{Stage}
use Rattle.core_steps.specs.declared.stage.Stage.TheVariants as stage
use Rattle.core_steps.specs.declared.side.Side.{Side}
use Rattle.core_steps.specs.declared.side.Could.{Could}
use Rattle.core_steps.specs.Fetches.{names_of}
use Rattle.core_steps.specs.Sides.{Shown, Standing, running, awaiting, over, unless_arrived, standing_in, standing_of, desk_of, shown_of, phase_of, journaled, DoesShow, IsSound, IsReplayed, IsTold, IsKept}
use Rattle.core_steps.proofs.Kept.{do-replayed}

-- while memory lasts it shows what it holds
pub shown-now : (side before : Side) (spent : Bool) (v : Shown) → spent ≡ false → shown_of (if spent then before else side) spent ≡ v → v ≡ shown_of side false
shown-now side before spent v going is = sym is ∙ ap (λ b. shown_of (if b then before else side) b) going

-- the same of what is kept
pub kept-now : {could : Could} (side before : Side) (spent : Bool) → spent ≡ false → IsKept side before could spent (shown_of (if spent then before else side) spent) → IsSound side × IsReplayed (shown_of side false)
kept-now side before spent going k =
    (k.sound going, subst (λ b. IsReplayed (shown_of (if b then before else side) b)) going k.replayed)

-- after want of memory it shows what it held before
pub kept-failed : (old side before : Side) (could : Could) → before ≡ old → side.journal ≡ old.journal → IsTold side before could → IsReplayed (shown_of old false) → IsKept side before could true (shown_of before true)
kept-failed old side before could is journal told replayed = record {
  sound = λ e. absurd (true≢false e);
  failed = λ e. told;
  journal = journal ∙ ap (λ (z : Side). z.journal) (sym is);
  replayed = subst (λ (z : Side). IsReplayed (shown_of z true)) (sym is) replayed;
}

pub shown-failed : (old before : Side) (v : Shown) → before ≡ old → v ≡ shown_of old false → shown_of before true ≡ record v { spent = true }
shown-failed old before v is shown = ap (λ (z : Side). shown_of z true) is ∙ ap (λ (s : Shown). record s { spent = true }) (sym shown)

-- an event was done
pub kept-then : {could : Could} (side before : Side) (told : Shown) → IsSound side → shown_of side false ≡ told → IsReplayed told → IsKept side before could false (shown_of side false)
kept-then side before told sound is replayed = record { sound = λ e. sound; failed = λ e. absurd (true≢false (sym e)); journal = refl; replayed = subst IsReplayed (sym is) replayed }

-- what it shows while memory lasts, by what is told of it
pub told-now : (side before : Side) (spent : Bool) (v : Shown) → shown_of (if spent then before else side) spent ≡ v → v.spent ≡ false → v ≡ shown_of side false
told-now side before spent v is going = shown-now side before spent v (ap (λ (s : Shown). s.spent) is ∙ going) is

-- An event makes of a side what it makes of what that showed.
pub kept-behind : {could could' : Could} (old before new before' : Side) (spent : Bool) (v : Shown) (event : Shown → Shown) → spent ≡ false → shown_of (if spent then before else old) spent ≡ v → IsKept old before could spent (shown_of (if spent then before else old) spent) →
    IsSound new → shown_of new false ≡ event (shown_of old false) → (IsReplayed v → IsReplayed (event v)) → IsKept new before' could' false (shown_of new false)
kept-behind old before new before' spent v event going is kept sound shown replayed =
    let now : v ≡ shown_of old false = shown-now old before spent v going is in
    kept-then new before' (event v) sound (shown ∙ ap event (sym now)) (replayed (subst IsReplayed (sym now) (kept-now old before spent going kept).1))

pub shown-behind : (old before new : Side) (spent : Bool) (v : Shown) (event : Shown → Shown) → spent ≡ false → shown_of (if spent then before else old) spent ≡ v → shown_of new false ≡ event (shown_of old false) → shown_of new false ≡ event v
shown-behind old before new spent v event going is shown = shown ∙ ap event (sym (shown-now old before spent v going is))

-- Do makes of it what the definitions say
pub does-behind : (old before : Side) (spent : Bool) (v : Shown) (d : Desk) → spent ≡ false → shown_of (if spent then before else old) spent ≡ v → DoesShow old.table old.journal.fetches (desk_of old) d → DoesShow v.entities v.journal.fetches v.desk d
does-behind old before spent v d going is does = subst (λ (s : Shown). DoesShow s.entities s.journal.fetches s.desk d) (sym (shown-now old before spent v going is)) does

pub do-kept : {could could' : Could} (old before new before' : Side) (spent : Bool) (v : Shown) → spent ≡ false → shown_of (if spent then before else old) spent ≡ v → IsKept old before could spent (shown_of (if spent then before else old) spent) →
    IsTrue (can_do v.desk) → IsSound new → DoesShow old.table old.journal.fetches (desk_of old) (desk_of new) → shown_of new false ≡ journaled Do (desk_of new) (shown_of old false) → IsKept new before' could' false (shown_of new false)
do-kept old before new before' spent v going is kept can sound does shown =
    kept-behind old before new before' spent v (journaled Do (desk_of new)) going is kept sound shown
    (do-replayed v (desk_of new) can (does-behind old before spent v (desk_of new) going is does))

-- ---- lines that are taken

pub given-kept : {could could' : Could} (old before new : Side) (spent : Bool) (v : Shown) (lines : List Line) → spent ≡ false → shown_of (if spent then before else old) spent ≡ v → IsKept old before could spent (shown_of (if spent then before else old) spent) →
    IsSound new → shown_of new false ≡ record (shown_of old false) { given = (shown_of old false).given ++ lines } → IsKept new before could' false (shown_of new false)
given-kept old before new spent v lines going is kept sound shown =
    kept-behind old before new before spent v (λ s. record s { given = s.given ++ lines }) going is kept sound shown (λ h. h)

-- ---- requirements

pub sound-now : {could : Could} (side before : Side) (spent : Bool) → spent ≡ false → IsKept side before could spent (shown_of (if spent then before else side) spent) → IsSound side
sound-now side before spent going k = k.sound going

-- ---- a script that is awaited may arrive

may-arrive : (lawful among : Bool) → (not lawful || among) ≡ false → (lawful && not among) ≡ true
may-arrive true true h = absurd (true≢false h)
may-arrive true false h = refl
may-arrive false among h = absurd (true≢false h)

pub awaited-arrives : (d : Desk) (name : List ℕ) → awaiting name ≡ standing_of d → IsTrue (can_arrive name d)
awaited-arrives d name is = by d.phase is
  where
    unless : (n : List ℕ) (b : Bool) → has_arrived n d ≡ b → awaiting name ≡ unless_arrived b n → IsTrue (can_arrive name d)
    unless n true e h = absurd (cc h)
    unless n false e h = let same : name ≡ n = cc in subst (λ m. IsTrue (can_arrive m d)) (sym same) (may-arrive (is_lawful n) (is_among n d.arrived) e)

    by : (p : Phase) → awaiting name ≡ standing_in p d → IsTrue (can_arrive name d)
    by free h = absurd (cc h)
    by (tagged i held) h = absurd (cc h)
    by (waits n held) h = unless n (has_arrived n d) refl h
    by (done r) h = absurd (cc h)

-- ---- what it tells after want of memory

running-where : (p : Phase) (d : Desk) → can_do_in p d ≡ true → standing_in p d ≡ running
running-where free d h = refl
running-where (tagged i held) d h = refl
running-where (waits name held) d h = ap (λ b. unless_arrived b name) h
running-where (done r) d h = absurd (true≢false (sym h))

-- by what is in hand and which files have arrived
standing-alike : (new old : Side) → new.stage ≡ old.stage → new.journal ≡ old.journal → standing_of (desk_of new) ≡ standing_of (desk_of old)
standing-alike new old same journal = ap (λ t. standing_in (phase_of t) (desk_of new)) same ∙ by old.stage
  where
    by : (t : Stage) → standing_in (phase_of t) (desk_of new) ≡ standing_in (phase_of t) (desk_of old)
    by stage.Free = refl
    by (stage.Tagged i held) = refl
    by (stage.Waits name held) = ap (λ (j : Journal). unless_arrived (not (is_lawful name) || is_among name (names_of j.fetches)) name) journal
    by (stage.Done w in_hand) = refl

-- An event was refused that leaves what is in hand.
pub told-alike : (old new before : Side) (could : Could) → before ≡ old → new.stage ≡ old.stage → new.journal ≡ old.journal →
    could.send ≡ can_send old.ledger.ahead (desk_of old) → could.act ≡ can_do (desk_of old) → could.take ≡ wants_reply (desk_of old) → IsTold new before could
told-alike old new before could is same journal send act take = subst (λ (z : Side). IsTold new z could) (sym is) (record { send = send; act = act; take = take; stands = λ e. standing-alike new old same journal })

pub kept-refused : (old new before' : Side) (could could' : Could) (before : Side) (spent : Bool) → spent ≡ false → IsKept old before could spent (shown_of (if spent then before else old) spent) → before' ≡ old →
    new.stage ≡ old.stage → new.journal ≡ old.journal → could'.send ≡ can_send old.ledger.ahead (desk_of old) → could'.act ≡ can_do (desk_of old) → could'.take ≡ wants_reply (desk_of old) →
    IsKept new before' could' true (shown_of before' true)
kept-refused old new before' could could' before spent going kept is same journal send act take =
    kept-failed old new before' could' is journal (told-alike old new before' could' is same journal send act take) (kept-now old before spent going kept).1

-- Do was refused.
pub told-running : (old new before : Side) (could : Could) → before ≡ old → IsTrue (can_do (desk_of old)) →
    could.send ≡ can_send old.ledger.ahead (desk_of old) → could.act ≡ can_do (desk_of old) → could.take ≡ wants_reply (desk_of old) → IsTold new before could
told-running old new before could is can send act take = subst (λ (z : Side). IsTold new z could) (sym is) (record { send = send; act = act; take = take; stands = λ e. absurd (true≢false (sym (act ∙ can) ∙ e)) })

told-before : (side before : Side) (spent : Bool) (v : Shown) → spent ≡ true → shown_of (if spent then before else side) spent ≡ v → shown_of before true ≡ v
told-before side before spent v failed is = sym (ap (λ b. shown_of (if b then before else side) b) failed) ∙ is

pub failed-send : {side before : Side} {could : Could} {spent : Bool} {told v : Shown} → IsKept side before could spent told → spent ≡ true → shown_of (if spent then before else side) spent ≡ v → could.send ≡ can_send v.ahead v.desk
failed-send {side = side} {before = before} {spent = spent} {v = v} k failed is = (k.failed failed).send ∙ ap (λ (s : Shown). can_send s.ahead s.desk) (told-before side before spent v failed is)

pub failed-do : {side before : Side} {could : Could} {spent : Bool} {told v : Shown} → IsKept side before could spent told → spent ≡ true → shown_of (if spent then before else side) spent ≡ v → could.act ≡ can_do v.desk
failed-do {side = side} {before = before} {spent = spent} {v = v} k failed is = (k.failed failed).act ∙ ap (λ (s : Shown). can_do s.desk) (told-before side before spent v failed is)

pub failed-take : {side before : Side} {could : Could} {spent : Bool} {told v : Shown} → IsKept side before could spent told → spent ≡ true → shown_of (if spent then before else side) spent ≡ v → could.take ≡ wants_reply v.desk
failed-take {side = side} {before = before} {spent = spent} {v = v} k failed is = (k.failed failed).take ∙ ap (λ (s : Shown). wants_reply s.desk) (told-before side before spent v failed is)

pub failed-running : {side before : Side} {could : Could} {spent : Bool} {told v : Shown} → IsKept side before could spent told → spent ≡ true → could.act ≡ true → shown_of (if spent then before else side) spent ≡ v → running ≡ standing_of v.desk
failed-running {v = v} k failed act is = sym (running-where v.desk.phase v.desk (sym (failed-do k failed is) ∙ act))

pub failed-stands : {side before : Side} {could : Could} {spent : Bool} {told v : Shown} → IsKept side before could spent told → spent ≡ true → could.act ≡ false → shown_of (if spent then before else side) spent ≡ v →
    standing_of (desk_of side) ≡ standing_of v.desk
failed-stands {side = side} {before = before} {spent = spent} {v = v} k failed act is = (k.failed failed).stands act ∙ ap (λ (s : Shown). standing_of s.desk) (told-before side before spent v failed is)
