-- A call that fails at a port leaves the others alone.
use Rattle.std.proofs.Common.{◌≡◌, ℕ, Some, ap, ◌∙◌, arith}
use Rattle.outside.specs.declared.traits.Port.{Port}
use Rattle.outside.specs.declared.never_fails.NeverFails.{NeverFails}
use Rattle.outside.specs.Memory.{files_of, left_of, begun_of, calls_of, open_of, absences_of, seen_with}
use Rattle.outside.specs.Outside.{KeepsOthers, OthersStay, NeverFall}

pub failed_keeps : (port : Port) (files now after : NeverFails) (faults faults' : Port → ℕ) → now ≡ files → files_of after ≡ files_of now → OthersStay port (left_of now) (left_of after)
    → OthersStay port (begun_of now) (begun_of after) → OthersStay port (calls_of now) (calls_of after) → OthersStay port (open_of now) (open_of after)
    → absences_of after ≡ absences_of now → OthersStay port faults faults' → NeverFall faults faults'
    → KeepsOthers port (seen_with faults files) (seen_with faults' after)
failed_keeps port files now after faults faults' same map left begun calls open_at absences others rose = record {
  files = ap Some (map ∙ ap files_of same);
  left = λ other ne. ap Some (left other ne ∙ ap (λ f. left_of f other) same);
  begun = λ other ne. begun other ne ∙ ap (λ f. begun_of f other) same;
  calls = λ other ne. calls other ne ∙ ap (λ f. calls_of f other) same;
  open_at = λ other ne. open_at other ne ∙ ap (λ f. open_of f other) same;
  other_faults = others;
  other_absences = λ other ne. ap (λ count. count other) (absences ∙ ap absences_of same);
  faults = rose;
  absences = λ p. let e : absences_of after p ≡ absences_of files p = ap (λ count. count p) (absences ∙ ap absences_of same) in omega arith;
}
