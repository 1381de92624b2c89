-- What was read of a file, piece by piece.
use Rattle.std.proofs.Common.{◌≡◌, ℕ, ◌≤◌, List, [], ◌++◌, length, take, drop, Option, Some, None, IfSome, refl, sym, ap, subst, ◌∙◌, append_assoc, append-nil, take-append-drop, length-take, length-append, arith}
use Rattle.std.proofs.lemmas.List.{take-append-le}
use Rattle.page_turns.specs.Given.{AreRead}

-- what a read of n bytes does to what the port has left
abbrev pub Moved : Option (List ℕ) → Option (List ℕ) → List ℕ → ℕ → Type 0
Moved left left' into n = IfSome left (λ rest. (n ≤ length rest) × (take n into ≡ take n rest) × (left' ≡ Some (drop n rest)))

pub read_more : (file : Option (Option (List ℕ))) (left left' : Option (List ℕ)) (read into piece : List ℕ) (n : ℕ) → AreRead file left read → Moved left left' into n → piece ≡ take n into → AreRead file left' (read ++ piece)
read_more None left left' read into piece n so_far moved is = record { so_far = tt }
read_more (Some None) left left' read into piece n so_far moved is = absurd so_far.so_far
read_more (Some (Some whole)) left left' read into piece n so_far moved is =
    let rest = so_far.so_far.0 in
    let now = subst (λ l. Moved l left' into n) so_far.so_far.2 moved in
    record { so_far = (drop n rest, so_far.so_far.1 ∙ ap (λ l. read ++ l) (sym (take-append-drop n rest) ∙ ap (λ p. p ++ drop n rest) (sym (is ∙ now.1))) ∙ sym (append_assoc read piece (drop n rest)), now.2) }

pub read_none : (file : Option (Option (List ℕ))) (left left' : Option (List ℕ)) (read into : List ℕ) (n : ℕ) → AreRead file left read → Moved left left' into n → n ≡ 0 → AreRead file left' read
read_none file left left' read into n so_far moved none =
    subst (AreRead file left') (append-nil read) (read_more file left left' read into [] n so_far moved (rw none refl))

pub read_failed : (file : Option (Option (List ℕ))) (left left' : Option (List ℕ)) (read : List ℕ) → AreRead file left read → left' ≡ left → AreRead file left' read
read_failed file left left' read so_far same = subst (λ l. AreRead file l read) (sym same) so_far

-- the front of the room is the piece
pub piece_size : (into tail : List ℕ) (n : ℕ) → n ≤ length into → length (take n (into ++ tail)) ≡ n
piece_size into tail n fits = omega (arith, fits, length-take n (into ++ tail), length-append into tail)

pub piece_front : (into tail : List ℕ) (n : ℕ) → n ≤ length into → take n (into ++ tail) ≡ take n into
piece_front into tail n fits = take-append-le n into tail fits
