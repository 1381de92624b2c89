-- One item more, as the code counts.
use Rattle.std.proofs.Common.{◌≡◌, ◌+◌, ◌++◌, ℕ, refl, add-one}
use Rattle.std.specs.Prelude.{codes, decimal}
use Rattle.std.specs.Str.{chars}
use Rattle.page_maker.specs.Made.{next, number_at, kind, item, items, made_page}

pub first_number : (number : ℕ) → number_at number 0 ≡ number
unfolding number_at
first_number number = refl

pub next_number : (number i : ℕ) → number_at number (i + 1) ≡ next (number_at number i)
unfolding number_at
next_number number i = rw add-one refl

pub no_items : (number : ℕ) → made_page number 0 ≡ chars (codes "<!DOCTYPE html><body>")
unfolding made_page items chars
no_items number = refl

pub one_more_item : (number i : ℕ) → made_page number (i + 1) ≡ made_page number i ++ item (kind (next (number_at number i))) (i + 1)
unfolding made_page items number_at
one_more_item number i = rw add-one refl

-- the item of kind 4
pub underlined : (i : ℕ) → item 4 i ≡ chars (codes "<p><script>document.write(\"<u>\");</script>") ++ decimal i ++ chars (codes "</u>")
unfolding item chars
underlined i = refl
