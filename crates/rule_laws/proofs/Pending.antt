-- The pending characters open no more elements than there is room for, and leave the modes as they were.
use Rattle.std.proofs.Common.{◌≡◌, refl, inl, inr, ℕ, suc, ◌≤◌, ◌<◌, true, List, [], ◌∷◌, length, arith}
use Rattle.std.proofs.lemmas.Bool.{ltb-true}
use Rattle.html_types.specs.declared.instruction.Flow.TheVariants.{On}
use Rattle.html_types.specs.declared.operation.Op.{Op}
use Rattle.html_types.specs.declared.open.Open.{Open}
use Rattle.html_types.specs.declared.open.OpenElement.{OpenElement}
use Rattle.standard.specs.Instructions.{on, room, body_characters}
use Rattle.rule_laws.proofs.Counts.{count, all, count-all}
use Rattle.rule_laws.proofs.Readings.{Small}
use Rattle.rule_laws.proofs.Thinned.{Thinned}
use Rattle.rule_laws.proofs.Closed.{IsClosed, body_characters-went}

-- no more than 512 elements are open, and the modes are those
abbrev pub Kept : Open → Open → Type 0
Kept a b = Small b × (b.mode ≡ a.mode) × (b.original ≡ a.original) × (b.template_modes ≡ a.template_modes)

-- where there is room another one may be opened
pub room-small : (b : Open) → room b ≡ true → suc (count all b.stack) ≤ 512
room-small b r =
    let below : length b.stack < 512 = ltb-true (length b.stack) 512 r in
    let same : count all b.stack ≡ length b.stack = count-all b.stack in
    omega (arith, below, same)

-- taking elements off leaves no more
pub thin-fewer : (es ds : List OpenElement) → Thinned es ds → count all ds ≤ count all es
thin-fewer [] ds h = rw h (omega arith)
thin-fewer (e ∷ es) ds (inl h) = let l = thin-fewer es ds h in omega (arith, l)
thin-fewer (e ∷ es) ds (inr (rest, is, h)) = let l = thin-fewer es rest h in rw is (omega (arith, l))

abbrev StaysKept : Open → Open → Open → Type 0
StaysKept a b c = Kept a b → Kept a c

stays-kept : (a : Open) → IsClosed (StaysKept a)
stays-kept a = record {
  same = λ b k. k;
  onward = λ b c d f g k. g (f k);
  opens = λ b e r k. (room-small b r, k.1, k.2, k.3);
  thins = λ b es h k. let l = thin-fewer b.stack es h in (omega (arith, l, k.0), k.1, k.2, k.3);
  gives = λ b k. k;
  lists = λ b fs k. k;
  points = λ b head form k. k;
  marks = λ b ok quirks skip foster k. k;
}

pub body_characters-kept : (a : Open) (cs : List ℕ) (b : Open) (o : List Op) → Kept a b → Kept a (body_characters cs (on b o)).open_state
body_characters-kept a cs b o = (body_characters-went (StaysKept a) (stays-kept a) cs b b o On (λ k. k) refl).0
