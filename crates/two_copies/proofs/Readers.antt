-- What stays true of one reader, and of one seat, over a step.
use Rattle.std.proofs.Common.{◌≡◌, ◌≢◌, ℕ, ◌+◌, ◌*◌, ◌%◌, ◌<◌, List, length, get_or, sym, refl, ap, ◌∙◌, subst, arith, Option, Some, None}
use mathlib.Core.Logic.{dite}
use mathlib.Core.Option.{some}
use mathlib.Core.Option as maybe
use native.Mathlib.Decide.{ℕ_discrete}
use lib.ListN.{get_elem?}
use Rattle.std.proofs.Common.{◌≤◌}
use Rattle.two_copies.specs.declared.part.Part.{Part}
use Rattle.two_copies.specs.declared.board.Plan.{Plan}
use Rattle.two_copies.specs.declared.board.Role.{Role}
use Rattle.two_copies.specs.declared.board.Role.TheVariants.{Idle, Out, In, Holds, Writer}
use Rattle.two_copies.specs.Sides.{ReaderOk, Knows}

abbrev pick : {P : Type 0} → Dec P → ℕ → ℕ → ℕ
pick (yes _) a b = a
pick (no _) a b = b

pub put : (ℕ → ℕ) → ℕ → ℕ → ℕ → ℕ
put f i c j = pick (ℕ_discrete j i) c (f j)

pub put_here : (f : ℕ → ℕ) (i c : ℕ) → put f i c i ≡ c
unfolding put
put_here f i c = go (ℕ_discrete i i)
  where
    go : (d : Dec (i ≡ i)) → pick d c (f i) ≡ c
    go (yes _) = refl
    go (no n) = absurd (n refl)

pub put_else : (f : ℕ → ℕ) (i c j : ℕ) → j ≢ i → put f i c j ≡ f j
unfolding put
put_else f i c j other = go (ℕ_discrete j i)
  where
    go : (d : Dec (j ≡ i)) → pick d c (f j) ≡ f j
    go (yes e) = absurd (other e)
    go (no _) = refl

abbrev Homes : Type 0 → Type 0
Homes T = List (maybe.Option (Option (Part T)))

module _ {T : Type 0} where
  -- a reader whose words and slots a step does not touch
  pub stays : (p : Plan T) (words words' : List ℕ) (homes homes' : Homes T) (r st : ℕ) → p.off < 2 → get_or words' (16 * r + 16) 0 ≡ get_or words (16 * r + 16) 0
      → get_or words' (16 * r + 17) 0 ≡ get_or words (16 * r + 17) 0 → ((k : ℕ) → k < 2 → get_elem? homes' (8 * r + k) ≡ get_elem? homes (8 * r + k))
      → ReaderOk p words homes r st → ReaderOk p words' homes' r st
  stays p words words' homes homes' r st small epoch mark slot ok = record {
    free = λ z. mark ∙ ok.free z;
    taken = λ z. mark ∙ ok.taken z;
    outside = λ z. ap (λ (e : ℕ). e % 2) epoch ∙ ok.outside z;
    inside = λ z. ap (λ (e : ℕ). e % 2) epoch ∙ ok.inside z;
    side = ok.side;
    shown = λ a b. slot p.side a ∙ ok.shown a b;
    late = λ z. let l = ok.late z in (l.0, l.1, λ a. epoch ∙ l.2 a);
    old = λ a b c. slot p.off small ∙ ok.old a b c;
    new = λ a b. slot p.off small ∙ ok.new a b;
    empty = λ a b c. slot p.off small ∙ ok.empty a b c;
    unused = λ a. slot 1 (omega arith) ∙ ok.unused a;
  }

  -- a step of the writer on its own side
  pub replans : (p : Plan T) (left filled hand : ℕ) (last : List ℕ) (spare : Part T) (words : List ℕ) (homes homes' : Homes T) (r st : ℕ) → (p.side ≢ p.off) × (p.fresh ≡ 1 → p.off ≡ 0)
      → ((k : ℕ) → k < 2 → k ≢ p.off → get_elem? homes' (8 * r + k) ≡ get_elem? homes (8 * r + k))
      → (st ≡ p.off + 3 → (r < left) × (r + 1 ≢ hand) × (r < length last → get_or words (16 * r + 16) 0 ≡ get_or last r 0))
      → (r + 1 ≢ hand → st ≢ p.off + 3 → r < left → get_elem? homes' (8 * r + p.off) ≡ some (some (Some spare)))
      → (r + 1 ≢ hand → r < filled → get_elem? homes' (8 * r + p.off) ≡ some (some (Some spare)))
      → (r + 1 ≢ hand → filled ≤ r → left ≤ r → get_elem? homes' (8 * r + p.off) ≡ some (some None))
      → ReaderOk p words homes r st → ReaderOk (record p { left = left; filled = filled; hand = hand; last = last; spare = spare }) words homes' r st
  replans p left filled hand last spare words homes homes' r st apart slot late old new empty ok = record {
    free = ok.free;
    taken = ok.taken;
    outside = ok.outside;
    inside = ok.inside;
    side = ok.side;
    shown = λ a b. slot p.side a apart.0 ∙ ok.shown a b;
    late = late;
    old = old;
    new = new;
    empty = empty;
    unused = λ a. let z = apart.1 a in slot 1 (omega arith) (λ e. omega arith) ∙ ok.unused a;
  }

  module _ (p : Plan T) (n writer : ℕ) (stage owner : ℕ → ℕ) where
    -- the reader q goes to the stage t, by the seat that has it or takes it
    pub others_move : (q t me j : ℕ) → j ≢ me → (0 < stage q → owner q ≡ me) → (role : Role T) → Knows p n writer stage owner j role → Knows p n writer (put stage q t) (put owner q me) j role
    others_move q t me j other mine = go
      where
        apart : (r : ℕ) → 0 < stage r → owner r ≡ j → r ≢ q
        apart r some_stage is e = other (sym is ∙ (ap owner e ∙ mine (subst (λ (z : ℕ). 0 < stage z) e some_stage)))

        go : (role : Role T) → Knows p n writer stage owner j role → Knows p n writer (put stage q t) (put owner q me) j role
        go Idle k = tt
        go (Out r) k = let e = k.1 in let a = apart r (omega arith) k.2 in (k.0, put_else stage q t r a ∙ k.1, put_else owner q me r a ∙ k.2)
        go (In r) k = let e = k.1 in let a = apart r (omega arith) k.2 in (k.0, put_else stage q t r a ∙ k.1, put_else owner q me r a ∙ k.2)
        go (Holds r i u) k = let e = k.1 in let a = apart r (omega arith) k.2 in (k.0, put_else stage q t r a ∙ k.1, put_else owner q me r a ∙ k.2, k.3, k.4)
        go (Writer x) k = k

    pub others_plan : (p' : Plan T) (j : ℕ) → j ≢ writer
        → ((r k : ℕ) (u : Part T) → r < n → stage r ≡ k + 3 → (k ≡ p.off → u ≡ p.spare) → (k ≢ p.off → u ≡ p.shown) → (k ≡ p'.off → u ≡ p'.spare) × (k ≢ p'.off → u ≡ p'.shown))
        → (role : Role T) → Knows p n writer stage owner j role → Knows p' n writer stage owner j role
    others_plan p' j other held Idle k = tt
    others_plan p' j other held (Out r) k = k
    others_plan p' j other held (In r) k = k
    others_plan p' j other held (Holds r i u) k = let h = held r i u k.0 k.1 k.3 k.4 in (k.0, k.1, k.2, h.0, h.1)
    others_plan p' j other held (Writer x) k = absurd (other k.1)
