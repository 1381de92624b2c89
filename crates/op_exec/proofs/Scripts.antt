-- How a script runs, case by case.
use Rattle.std.proofs.Common.{◌≡◌, ◌≢◌, Bool, true, false, List, ℕ, [], ◌∷◌, Some, None, refl}
use Rattle.standard.specs.Prepare.{prepared_by}
use Rattle.op_exec.specs.declared.script.ScriptKind.TheVariants.{Still, Inline, External}
use Rattle.op_exec.specs.Scripts.{script_kind}

pub kind-inline : (later : Bool) (text : List ℕ) → text ≢ [] → script_kind (prepared_by None later text) ≡ Inline
kind-inline later [] some = absurd (some refl)
kind-inline later (c ∷ cs) some = refl

pub kind-no_text : (later : Bool) (text : List ℕ) → text ≡ [] → script_kind (prepared_by None later text) ≡ Still
kind-no_text later text none = rw none refl

pub kind-no_src : (later : Bool) (src text : List ℕ) → src ≡ [] → script_kind (prepared_by (Some src) later text) ≡ Still
kind-no_src later src text none = rw none refl

pub kind-later : (later : Bool) (src text : List ℕ) → later ≡ true → script_kind (prepared_by (Some src) later text) ≡ Still
kind-later later [] text is = refl
kind-later later (c ∷ cs) text is = rw is refl

pub kind-external : (later : Bool) (src text : List ℕ) → later ≡ false → src ≢ [] → script_kind (prepared_by (Some src) later text) ≡ External
kind-external later [] text is some = absurd (some refl)
kind-external later (c ∷ cs) text is some = rw is refl
