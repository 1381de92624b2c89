-- No more elements are open than before.
use Rattle.std.proofs.Common.{◌≡◌, ◌≤◌, Bool, List, length, ap}
use Rattle.html_types.specs.declared.word.Word.{Word}
use Rattle.html_types.specs.declared.operation.Op.{Op}
use Rattle.html_types.specs.declared.open.Open.{Open}
use Rattle.standard.specs.Adoption.{adopted, adopt}
use Rattle.rule_laws.proofs.AdoptionDepth.{adopt_depth}

pub adopted_depth : (w : Word) (b b' : Open) (o o' : List Op) (v : Bool) → adopted b' o' v ≡ adopt w b o → length b'.stack ≤ length b.stack
adopted_depth w b b' o o' v e =
    let is : b' ≡ (adopt w b o).open_state = ap (λ a. a.open_state) e in rw is (adopt_depth w b o)
