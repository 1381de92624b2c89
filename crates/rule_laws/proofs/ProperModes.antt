-- The modes that a proper open state holds are insertion modes.
use Rattle.std.proofs.Common.{◌≡◌, refl, true, List, [], ◌∷◌, Option, Some, None}
use Rattle.std.specs.Prelude.{IsSomeAnd, IsTrue}
use Rattle.std.specs.List.{list_all}
use Rattle.html_types.specs.declared.instruction.Mode.{Mode}
use Rattle.html_types.specs.declared.instruction.Mode.TheVariants.{InText, InTableText, InForeign}
use Rattle.rule_laws.specs.Proper.{is_main_mode, HasOriginal}
use Rattle.rule_laws.specs.Rounds.{is_insertion_mode, is_insertion_mode_if_any, ProperHasModes}
use Rattle.rule_laws.proofs.Calm.{split}
use Rattle.rule_laws.proofs.Takes.{both, main-insertion}

all-insertion : (ms : List Mode) → list_all is_main_mode ms ≡ true → list_all is_insertion_mode ms ≡ true
all-insertion [] h = refl
all-insertion (m ∷ ms) h =
    let p = split (is_main_mode m) (list_all is_main_mode ms) h in
    both (is_insertion_mode m) (list_all is_insertion_mode ms) (main-insertion m p.0) (all-insertion ms p.1)

some-insertion : (original : Option Mode) → IsSomeAnd original (λ m. IsTrue (is_main_mode m)) → is_insertion_mode_if_any original ≡ true
some-insertion None h = refl
some-insertion (Some m) h = main-insertion m h

none-insertion : (original : Option Mode) → original ≡ None → is_insertion_mode_if_any original ≡ true
none-insertion None h = refl
none-insertion (Some m) h = absurd (cc)

kept-insertion : (m : Mode) (original : Option Mode) → HasOriginal m original → (is_insertion_mode m ≡ true) × (is_insertion_mode_if_any original ≡ true)
kept-insertion InText original h = (refl, some-insertion original h)
kept-insertion InTableText original h = (refl, some-insertion original h)
kept-insertion InForeign original h = absurd h
kept-insertion _ original h = (refl, none-insertion original h)

pub proper-has-modes : ProperHasModes
proper-has-modes b p =
    let k = kept-insertion b.mode b.original p.original in
    record { mode = k.0; original = k.1; templates = all-insertion b.template_modes p.templates }
