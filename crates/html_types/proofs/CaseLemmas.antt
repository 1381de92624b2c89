-- Texts of ASCII alone, whatever the case of their letters.
use Rattle.std.proofs.Common.{ℕ, ◌<◌, List, [], ◌∷◌, map, All, arith, IsTrue}
use Rattle.std.specs.Prelude.{nat_lt}
use Rattle.std.specs.List.{list_all}
use Rattle.std.specs.Char.{to_ascii_lowercase}
use Rattle.std.proofs.lemmas.Bool.{and_parts, ltb-true}
use Rattle.std.proofs.lemmas.Bool.Decides.{nat_tests}
use Rattle.std.proofs.lemmas.List.Elements.{All-nil, All-cons, All-head, All-tail}

abbrev pub Small : ℕ → Type 0
Small c = c < 128

lower-small : (c : ℕ) → to_ascii_lowercase c < 128 → c < 128
lower-small c small = grind (arith, nat_tests)

small-lower : (c : ℕ) → c < 128 → to_ascii_lowercase c < 128
small-lower c small = grind (arith, nat_tests)

pub All-unlower : (cs : List ℕ) → All Small (map to_ascii_lowercase cs) → All Small cs
All-unlower [] small = All-nil Small
All-unlower (c ∷ cs) small = All-cons Small c cs (lower-small c (All-head Small _ _ small)) (All-unlower cs (All-tail Small _ _ small))

pub All-lower : (cs : List ℕ) → All Small cs → All Small (map to_ascii_lowercase cs)
All-lower [] small = All-nil Small
All-lower (c ∷ cs) small = All-cons Small _ _ (small-lower c (All-head Small c cs small)) (All-lower cs (All-tail Small c cs small))

pub All-from_test : (cs : List ℕ) → IsTrue (list_all (λ b. nat_lt b 128) cs) → All Small cs
All-from_test [] test = All-nil Small
All-from_test (c ∷ cs) test =
    let parts = and_parts (nat_lt c 128) (list_all (λ b. nat_lt b 128) cs) test in
    All-cons Small c cs (ltb-true c 128 parts.0) (All-from_test cs parts.1)
