-- Counts that rise by so much.
use Rattle.std.proofs.Common.{◌≡◌, ◌≤◌, ◌+◌, ◌^◌, ℕ, inl, inr, arith, subst}
use Rattle.std.specs.Prelude.{◌⊎◌}
use Rattle.outside.specs.Outside.{Rose}
use Rattle.page_batch.specs.Reading.{RoseBy}

pub rose-none : (a b : ℕ) → a ≤ b → RoseBy 0 a b
rose-none a b le = inl (omega (arith, le))

pub rose-one : (a b : ℕ) → Rose a b → RoseBy 1 a b
rose-one a b (inl less) = inl (omega (arith, less))
rose-one a b (inr last) = inr last

pub rose-then : (n m a b c : ℕ) → RoseBy n a b → RoseBy m b c → b ≤ c → RoseBy (n + m) a c
rose-then n m a b c (inl le) (inl le') on = inl (omega (arith, le, le'))
rose-then n m a b c (inr last) second on = inr (omega (arith, last, on))
rose-then n m a b c (inl le) (inr last) on = inr last

pub rose-is : (n m a b : ℕ) → n ≡ m → RoseBy n a b → RoseBy m a b
rose-is n m a b is rose = subst (λ k. RoseBy k a b) is rose

pub rose-later : (n a b c : ℕ) → RoseBy n a b → b ≤ c → RoseBy n a c
rose-later n a b c (inl le) on = inl (omega (arith, le, on))
rose-later n a b c (inr last) on = inr (omega (arith, last, on))

pub rose-earlier : (n a b c : ℕ) → a ≤ b → RoseBy n b c → RoseBy n a c
rose-earlier n a b c on (inl le) = inl (omega (arith, le, on))
rose-earlier n a b c on (inr last) = inr last
