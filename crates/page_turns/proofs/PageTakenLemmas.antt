-- What a sink took, and what was read at a port, piece by piece.
use Rattle.std.proofs.Common.{◌≡◌, ℕ, List, [], ◌++◌, Option, Some, None, IfSome, refl, sym, ap, subst, ◌∙◌, append_assoc, append-nil}
use Rattle.std.specs.Prelude.{true, false}
use Rattle.outside.specs.Outside.{Seen}
use Rattle.outside.specs.declared.traits.Port.TheVariants as port
use Rattle.page_turns.specs.Given.{FaultsRose, NoFault}
use Rattle.page_turns.specs.Taken.{Took, TookFront, TookWithFront}
use Rattle.page_turns.specs.Pages.{AreTaken, GivenFirst, IsReadFrom}

-- ---- a sink

pub took_nothing : (t : Option (List ℕ)) → Took t t []
took_nothing None = tt
took_nothing (Some old) = ap Some (sym (append-nil old))

pub front_nothing : (t : Option (List ℕ)) (text : List ℕ) → TookFront t t text
front_nothing None text = tt
front_nothing (Some old) text = ([], text, refl, ap Some (sym (append-nil old)))

pub took_then : (t now t' : Option (List ℕ)) (a b : List ℕ) → Took t now a → Took now t' b → Took t t' (a ++ b)
took_then None now t' a b first second = tt
took_then (Some old) now t' a b first second =
    let there = subst (λ t. Took t t' b) first second in there ∙ ap Some (append_assoc old a b)

pub front_then : (t now t' : Option (List ℕ)) (a b : List ℕ) → Took t now a → TookFront now t' b → TookFront t t' (a ++ b)
front_then None now t' a b first second = tt
front_then (Some old) now t' a b first second =
    let there = subst (λ t. TookFront t t' b) first second in
    (a ++ there.0, there.1, ap (λ l. a ++ l) there.2 ∙ sym (append_assoc a there.0 there.1), there.3 ∙ ap Some (append_assoc old a there.0))

pub front_longer : (t t' : Option (List ℕ)) (a b : List ℕ) → TookFront t t' a → TookFront t t' (a ++ b)
front_longer None t' a b front = tt
front_longer (Some old) t' a b front = (front.0, front.1 ++ b, ap (λ l. l ++ b) front.2 ∙ append_assoc front.0 front.1 b, front.3)

pub front_of_all : (t t' : Option (List ℕ)) (a : List ℕ) → Took t t' a → TookFront t t' a
front_of_all None t' a took = tt
front_of_all (Some old) t' a took = (a, [], sym (append-nil a), took)

pub with_front : (t now t' : Option (List ℕ)) (a b : List ℕ) → Took t now a → TookFront now t' b → TookWithFront t t' a b
with_front None now t' a b first second = tt
with_front (Some old) now t' a b first second =
    let there = subst (λ t. TookFront t t' b) first second in
    (there.0, there.1, there.2, there.3)

pub with_none : (t t' : Option (List ℕ)) (a : List ℕ) → Took t t' a → TookWithFront t t' a []
with_none t t' a took = with_front t t' t' a [] took (front_nothing t' [])

-- ---- a port

pub taken_none : (whole : Option (List ℕ)) → AreTaken whole whole []
taken_none None = record { so_far = tt }
taken_none (Some all) = record { so_far = (all, refl, refl) }

pub taken_then : (whole left left' : Option (List ℕ)) (read piece : List ℕ) → AreTaken whole left read → AreTaken left left' piece → AreTaken whole left' (read ++ piece)
taken_then None left left' read piece first second = record { so_far = tt }
taken_then (Some all) left left' read piece first second =
    let rest = first.so_far.0 in
    let there = subst (λ l. IfSome l (λ r. (rest : List ℕ) × (r ≡ piece ++ rest) × (left' ≡ Some rest))) first.so_far.2 second.so_far in
    record { so_far = (there.0, first.so_far.1 ∙ ap (λ l. read ++ l) there.1 ∙ sym (append_assoc read piece there.0), there.2) }

pub taken_nothing_more : (whole left left' : Option (List ℕ)) (read : List ℕ) → AreTaken whole left read → AreTaken left left' [] → AreTaken whole left' read
taken_nothing_more whole left left' read first second =
    subst (λ l. AreTaken whole left' l) (append-nil read) (taken_then whole left left' read [] first second)

-- ---- a page

-- the page read so far, or all of it where that is told
pub all_bytes : (whole left : Option (List ℕ)) (read : List ℕ) → AreTaken whole left read → (more : List ℕ) × IfSome whole (λ bytes. bytes ≡ read ++ more)
all_bytes None left read taken = ([], tt)
all_bytes (Some all) left read taken = (taken.so_far.0, taken.so_far.1)

-- the whole page
pub read_whole : (before after : Seen) (bytes : List ℕ) → IfSome (before.left port.Page) (λ all. all ≡ bytes) → NoFault port.Page before after → IsReadFrom before after (record { bytes = bytes; fault = false })
read_whole before after bytes all none = record { all = λ _. all; no_fault = λ _. none; cut = λ e. absurd (cc e); cause = λ e. absurd (cc e); first = λ e. absurd (cc e) }

-- the page up to a fault
pub read_to_fault : (before after : Seen) (bytes : List ℕ) → AreTaken (before.left port.Page) (after.left port.Page) bytes → FaultsRose port.Page before after → GivenFirst before after bytes
    → IsReadFrom before after (record { bytes = bytes; fault = true })
read_to_fault before after bytes taken cause first = record { all = λ e. absurd (cc e); no_fault = λ e. absurd (cc e); cut = λ _. taken; cause = λ _. cause; first = λ _. first }

-- the page's end was read
pub all_read : (whole left : Option (List ℕ)) (read : List ℕ) → AreTaken whole left read → IfSome left (λ rest. rest ≡ []) → IfSome whole (λ bytes. bytes ≡ read)
all_read None left read taken none = tt
all_read (Some all) left read taken none =
    let empty = subst (λ l. IfSome l (λ rest. rest ≡ [])) taken.so_far.2 none in
    taken.so_far.1 ∙ ap (λ rest. read ++ rest) empty ∙ append-nil read
