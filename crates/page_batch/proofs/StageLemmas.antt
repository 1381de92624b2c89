-- A page's next stage.
use Rattle.std.proofs.Common.{◌≡◌, ℕ, List, [], Option, Some, None, Ok, Err, refl, sym, ap, subst, ◌∙◌}
use Rattle.std.specs.Prelude.{Result, IfOk}
use Rattle.html_types.specs.declared.ending.Ending.{Ending}
use Rattle.standard.specs.Entities.{Entities}
use Rattle.serial.specs.Page.{text_of, ending_of}
use Rattle.serial.specs.Scripts.{Fetched}
use Rattle.core_definitions.specs.Core.{joined}
use Rattle.core_steps.specs.Journals.{found}
use Rattle.core_pair.specs.Pairs.{Paired, first_paired}
use Rattle.page_turns.specs.declared.page.TheConstants.{PAGE_LIMIT}
use Rattle.page_turns.specs.Given.{Given, got}
use Rattle.page_turns.specs.Pages.{PageRead}
use Rattle.page_turns.specs.Scripts.{Met}
use Rattle.page_batch.specs.declared.read.PageBytes.{PageBytes}
use Rattle.page_batch.specs.declared.going.Going.{Going}
use Rattle.page_batch.specs.declared.slot.Stage.{Stage}
use Rattle.page_batch.specs.declared.read.PageFile.{PageFile}
use Rattle.page_batch.specs.declared.slot.Stage.TheVariants.{Unread, Waits, Over}
use Rattle.page_batch.specs.Reading.{read_of, given_in}
use Rattle.page_batch.specs.declared.going.Part.{Part}
use Rattle.page_batch.specs.Going.{AreOf, GoesBy, IsGoing, IsFirst}
use Rattle.page_batch.proofs.GoingLemmas.{first-is, still-going, still-of}
use Rattle.page_batch.specs.Slots.{IsStage, NextOf, AwaitsNew, used_in, awaited_in, Slotted, slotted, GoesOn, HasPart}
use Rattle.page_batch.proofs.SlotLemmas.{first-going}

-- one that begins
pub first-made : {X : Type 0} (r : Result Paired X) (es table : Entities) (page : PageBytes) (files : List (List ℕ × Fetched)) (pieces : List (List ℕ)) (e : Ending) (ahead : ℕ) → table ≡ es → joined pieces ≡ text_of PAGE_LIMIT page.bytes.items → e ≡ ending_of PAGE_LIMIT page.bytes.items page.fault
    → IfOk r (λ p. p ≡ first_paired table files pieces e ahead) → IfOk r (λ p. IsFirst es page p)
first-made (Ok p) es table page files pieces e ahead same text ending is = first-is es page p (first_paired table files pieces e ahead) is same refl text ending refl refl
first-made (Err x) es table page files pieces e ahead same text ending is = tt

module _ {E : Type 0} (es : Entities) (table : Met) where
  abbrev Stays : Paired → List ℕ → Stage E → Type 0
  Stays p t stage = (read : PageRead) → IsGoing es read p t → IsStage es (got read) stage

  abbrev Knows : Paired → Stage E → Type 0
  Knows p stage = AreOf table p.journal.fetches → AreOf table (used_in stage)

  -- one that was read begins
  pub next-first : {X : Type 0} (r : Result (Stage E) X) (bytes : PageBytes) (p : Paired) (t : List ℕ) → IsFirst es bytes p → t ≡ [] → IfOk r (Stays p t) → IfOk r (Knows p) → IfOk r (λ stage. AwaitsNew table (awaited_in stage))
      → IfOk r (NextOf es table (Unread bytes))
  next-first (Ok stage) bytes p t first none stays known awaits = record {
    stays = λ page is. subst (λ q. IsStage es q stage) (sym is) (stays (read_of bytes) (first-going es bytes p t first none));
    known = λ all. known (subst (AreOf table) (sym first.fetches) tt);
    awaits = awaits;
  }
  next-first (Err e) bytes p t first none stays known awaits = tt

  -- one that is under way goes on
  pub next-going : {X : Type 0} (r : Result (Stage E) X) (going : Going E) → IfOk r (Stays going.pair going.text.items) → IfOk r (Knows going.pair) → IfOk r (λ stage. AwaitsNew table (awaited_in stage)) → IfOk r (NextOf es table (Waits going))
  next-going (Ok stage) going stays known awaits = record {
    stays = λ page there. subst (λ q. IsStage es q stage) (sym there.1) (stays there.0 there.2);
    known = known;
    awaits = awaits;
  }
  next-going (Err e) going stays known awaits = tt

  -- one that is over stays so
  pub next-same : (old new : Stage E) → old ≡ new → awaited_in new ≡ None → NextOf es table old new
  next-same old new same none = record {
    stays = λ page is. subst (IsStage es page) same is;
    known = λ all. subst (λ s. AreOf table (used_in s)) same all;
    awaits = subst (AwaitsNew table) (sym none) tt;
  }

  -- ---- by the slot

  pub goes-next : (file : PageFile) (old stage new : Stage E) (v : Slotted) → slotted file old ≡ v → stage ≡ old → NextOf es table stage new → GoesOn table v (slotted file new)
  goes-next file old stage new v is same next = subst (λ s. GoesOn table s (slotted file new)) is (record {
    page = refl;
    known = λ all. next.known (subst (λ s. AreOf table (used_in s)) (sym same) all);
    awaits = next.awaits;
  })

  pub stays-next : (page : Given PageRead) (old stage new : Stage E) → stage ≡ old → NextOf es table stage new → IsStage es page old → IsStage es page new
  stays-next page old stage new same next h = next.stays page (subst (IsStage es page) (sym same) h)

pub awaited-is : {E : Type 0} (file : PageFile) (stage s : Stage E) (v : Slotted) → slotted file stage ≡ v → stage ≡ s → awaited_in s ≡ v.awaits
awaited-is file stage s v is same = ap awaited_in (sym same) ∙ ap (λ (w : Slotted). w.awaits) is

pub part-is : {E : Type 0} (es : Entities) (file : PageFile) (stage : Stage E) (part : Part) (v : Slotted) → slotted file stage ≡ v → stage ≡ Over part → IsStage es (given_in file) stage → HasPart es v part
part-is es file stage part v is same h = subst (λ s. HasPart es s part) is (record { is = subst (IsStage es (given_in file)) same h; used = ap used_in (sym same) })

-- ---- where the two sides stopped

module _ {E : Type 0} (table : Met) (old new : Paired) (t u : List ℕ) (goes : GoesBy table old new t u) where
  pub ends-stays : {X : Type 0} (es : Entities) (r : Result (Stage E) X) → IfOk r (λ stage. (read : PageRead) → IsGoing es read new u → IsStage es (got read) stage) → IfOk r (λ stage. (read : PageRead) → IsGoing es read old t → IsStage es (got read) stage)
  ends-stays es (Ok stage) stays = λ read h. stays read (still-going table old new t u goes h)
  ends-stays es (Err e) stays = tt

  pub ends-known : {X : Type 0} (r : Result (Stage E) X) → IfOk r (λ stage. used_in stage ≡ new.journal.fetches) → IfOk r (λ stage. AreOf table old.journal.fetches → AreOf table (used_in stage))
  ends-known (Ok stage) used = λ all. subst (AreOf table) (sym used) (still-of table old new t u goes all)
  ends-known (Err e) used = tt

-- of any table
pub over-awaits : {E X : Type 0} (S : Met → Type 0) (r : Result (Stage E) X) → IfOk r (λ stage. awaited_in stage ≡ None) → IfOk r (λ stage. (table : Met) → S table → AwaitsNew table (awaited_in stage))
over-awaits S (Ok stage) none = λ table stops. subst (AwaitsNew table) (sym none) tt
over-awaits S (Err e) none = tt

-- of the table at hand
pub awaits-there : {E X : Type 0} (S : Met → Type 0) (table : Met) (r : Result (Stage E) X) → S table → IfOk r (λ stage. (t : Met) → S t → AwaitsNew t (awaited_in stage)) → IfOk r (λ stage. AwaitsNew table (awaited_in stage))
awaits-there S table (Ok stage) there awaits = awaits table there
awaits-there S table (Err e) there awaits = tt

pub waits-awaits : {E : Type 0} (table : Met) (name : List ℕ) (stage : Stage E) → awaited_in stage ≡ Some name → found name table ≡ None → AwaitsNew table (awaited_in stage)
waits-awaits table name stage awaits fresh = subst (AwaitsNew table) (sym awaits) fresh
