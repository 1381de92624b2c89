-- Worked pages, by computation.
use Rattle.std.proofs.Common.{◌≡◌, [], ◌∷◌, map, refl}
use Rattle.std.specs.Prelude.{codes}
use Rattle.std.specs.Fmt.{digits}
use Rattle.page_maker.specs.Made.{next, number_at, kind, item, items, made_page}

first_kinds : map (λ i. kind (number_at 1 i)) (1 ∷ 2 ∷ 3 ∷ 4 ∷ 5 ∷ 6 ∷ 7 ∷ 8 ∷ 9 ∷ []) ≡ 6 ∷ 6 ∷ 1 ∷ 3 ∷ 3 ∷ 3 ∷ 2 ∷ 3 ∷ 4 ∷ []
unfolding next number_at kind
first_kinds = refl

four_items : made_page 1 4 ≡ codes "<!DOCTYPE html><body><table><tr><td>1</table><table><tr><td>2</table><div>3</div><p><script>document.write(\"<i>4</i>\");</script>"
unfolding next number_at kind item items made_page digits
four_items = refl
