-- Lists that are seen from their end.
use Rattle.std.proofs.Common.{◌≡◌, ℕ, suc, ◌+◌, ◌-◌, ◌≤◌, List, [], ◌∷◌, ◌++◌, length, take, drop, reverse, length-append, get_or, set, arith, refl, sym, ap, ◌∙◌}
use lib.Seq.{take-append-add, drop-append-add}
use Rattle.std.proofs.lemmas.List.{append_assoc, reverse-append, take-append-le, take_all, take_more, take-append-drop, set-append_right}

module _ {X : Type 0} where
  -- one fewer from the end
  pub fewer : (xs : List X) (n : ℕ) → n + 1 ≡ length xs → reverse (take n xs) ≡ drop 1 (reverse xs)
  fewer [] n e = absurd (omega arith)
  fewer (x ∷ xs) n e =
      let whole : x ∷ xs ≡ take n (x ∷ xs) ++ get_or (x ∷ xs) n x ∷ [] =
      sym (take_all (n + 1) (x ∷ xs) (omega arith)) ∙ take_more (x ∷ xs) n x (omega arith) in
      sym (ap (λ l. drop 1 (reverse l)) whole ∙ ap (drop 1) (reverse-append (take n (x ∷ xs)) (get_or (x ∷ xs) n x ∷ [])))

  -- xs in two parts, and ys behind them
  pub parted : (xs ys : List X) (n : ℕ) → take n xs ++ (drop n xs ++ ys) ≡ xs ++ ys
  parted xs ys n = sym (append_assoc (take n xs) (drop n xs) ys) ∙ ap (λ l. l ++ ys) (take-append-drop n xs)

  -- a place behind xs
  pub take_behind : (xs ys : List X) (i : ℕ) → length xs ≤ i → take i (xs ++ ys) ≡ xs ++ take (i - length xs) ys
  take_behind xs ys i le =
      let e : i ≡ length xs + (i - length xs) = omega arith in
      ap (λ k. take k (xs ++ ys)) e ∙ take-append-add xs ys (i - length xs)

  pub drop_behind : (xs ys : List X) (i : ℕ) → length xs ≤ i → drop i (xs ++ ys) ≡ drop (i - length xs) ys
  drop_behind xs ys i le =
      let e : i ≡ length xs + (i - length xs) = omega arith in
      ap (λ k. drop k (xs ++ ys)) e ∙ drop-append-add xs ys (i - length xs)

  pub drop_next_behind : (xs ys : List X) (i : ℕ) → length xs ≤ i → drop (suc i) (xs ++ ys) ≡ drop (suc (i - length xs)) ys
  drop_next_behind xs ys i le =
      let e : suc i ≡ length xs + suc (i - length xs) = omega arith in
      ap (λ k. drop k (xs ++ ys)) e ∙ drop-append-add xs ys (suc (i - length xs))

  pub set_behind : (xs ys : List X) (i : ℕ) (y : X) → length xs ≤ i → set (xs ++ ys) i y ≡ xs ++ set ys (i - length xs) y
  set_behind xs ys i y le = set-append_right xs ys (length xs) i y refl le

  -- two ways to part one list
  pub as_long : (xs ys us vs : List X) → xs ++ ys ≡ us ++ vs → length xs + length ys ≡ length us + length vs
  as_long xs ys us vs e = sym (length-append xs ys) ∙ ap length e ∙ length-append us vs

  -- so many of xs and ys
  pub taken_within : (xs ys : List X) (n : ℕ) → n ≤ length xs → take n (xs ++ ys) ≡ take n xs
  taken_within xs ys n le = take-append-le n xs ys le

pub ruleset taken = (taken_within, take_behind)

pub ruleset behind = (take_behind, drop_behind, drop_next_behind, set_behind)
