-- What was read of a page's file.
use Rattle.std.proofs.Common.{◌≡◌, ◌≤◌, ◌<◌, ◌+◌, ℕ, true, false, true≢false, List, [], ◌∷◌, ◌++◌, length, Option, Some, None, IfSome, refl, sym, ap, subst, ◌∙◌, append-nil, inl, inr, arith}
use Rattle.std.specs.Prelude.{◌⊎◌, Result, Ok, Err}
use Rattle.outside.specs.Outside.{Seen, reads, begins}
use Rattle.outside.specs.declared.traits.Failed.{Failed}
use Rattle.outside.specs.declared.traits.Port.TheVariants.{Page}
use Rattle.page_turns.specs.declared.page.TheConstants.{PAGE_LIMIT}
use Rattle.page_turns.specs.Calls.{CallsAt, GaveNone}
use Rattle.page_turns.specs.Given.{FaultsRose, NoFault, file_at, AreRead}
use Rattle.page_turns.specs.Pages.{GivenFirst}
use Rattle.page_turns.proofs.CallLemmas.{IsReadOn, called_then, given_none}
use Rattle.page_batch.specs.Reading.{IsReadOf}

rest-of : (file : Option (Option (List ℕ))) (left : Option (List ℕ)) (bytes : List ℕ) → AreRead file left bytes → IfSome file (λ f. (rest : List ℕ) × (f ≡ Some (bytes ++ rest)) × (left ≡ Some rest))
rest-of None left bytes read = tt
rest-of (Some None) left bytes read = absurd read.so_far
rest-of (Some (Some whole)) left bytes read = (read.so_far.0, ap Some read.so_far.1, read.so_far.2)

all-of : (file : Option (Option (List ℕ))) (left : Option (List ℕ)) (bytes : List ℕ) (most : ℕ) → AreRead file left bytes → (IfSome left (λ rest. rest ≡ []) ⊎ (length bytes ≡ most))
    → IfSome file (λ f. (rest : List ℕ) × (f ≡ Some (bytes ++ rest)) × ((rest ≡ []) ⊎ (length bytes ≡ most)))
all-of None left bytes most read end = tt
all-of (Some None) left bytes most read end = absurd read.so_far
all-of (Some (Some whole)) left bytes most read (inr full) = (read.so_far.0, ap Some read.so_far.1, inr full)
all-of (Some (Some whole)) left bytes most read (inl none) = (read.so_far.0, ap Some read.so_far.1, inl (subst (λ l. IfSome l (λ rest. rest ≡ [])) read.so_far.2 none))

-- no call failed, and the file ended or its bytes are one more than the limit
pub whole-read : (path : List ℕ) (now after : Seen) (left : Option (List ℕ)) (bytes : List ℕ) → AreRead (file_at now path) left bytes → (IfSome left (λ rest. rest ≡ []) ⊎ (length bytes ≡ PAGE_LIMIT + 1)) → length bytes ≤ PAGE_LIMIT + 1
    → NoFault Page now after → IsReadOf path now after (record { bytes = bytes; fault = false })
whole-read path now after left bytes read end most quiet = record {
  whole = λ q. all-of (file_at now path) left bytes (PAGE_LIMIT + 1) read end;
  no_fault = λ q. quiet;
  cut = λ q. absurd (true≢false (sym q));
  cause = λ q. absurd (true≢false (sym q));
  first = λ q. absurd (true≢false (sym q));
  at_most = most;
}

-- a read failed
pub cut-read : (path : List ℕ) (now after : Seen) (bytes : List ℕ) → AreRead (file_at now path) (after.left Page) bytes → length bytes ≤ PAGE_LIMIT + 1 → FaultsRose Page now after → GivenFirst now after bytes
    → IsReadOf path now after (record { bytes = bytes; fault = true })
cut-read path now after bytes read most rose first = record {
  whole = λ q. absurd (true≢false q);
  no_fault = λ q. absurd (true≢false q);
  cut = λ q. rest-of (file_at now path) (after.left Page) bytes read;
  cause = λ q. rose;
  first = λ q. first;
  at_most = most;
}

-- so many bytes were given before it
pub first-given : (path : List ℕ) (before now after : Seen) (bytes : List ℕ) (n : ℕ) → n ≡ length bytes → IsReadOn Page path before now n → (most : ℕ) (answer : Result ℕ Failed) (e : Failed) → answer ≡ Err e → CallsAt Page now after (reads most answer ∷ [])
    → GivenFirst before after bytes
first-given path before now after bytes n is_length on most answer e is made = record {
  calls = begins path (Ok true) ∷ (on.more ++ reads most answer ∷ []);
  made = called_then _ _ _ (begins path (Ok true) ∷ on.more) _ on.made made;
  count = sym (given_none on.more most answer on.reads_all (subst GaveNone (sym is) tt) ∙ (on.count ∙ is_length));
}
