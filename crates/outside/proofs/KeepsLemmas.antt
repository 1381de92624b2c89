-- What stays at the other ports, over two calls.
use Rattle.std.proofs.Common.{refl, ◌∙◌, arith}
use Rattle.outside.specs.declared.traits.Port.{Port}
use Rattle.outside.specs.Outside.{Seen, KeepsOthers}

pub keeps-same : (port : Port) (s : Seen) → KeepsOthers port s s
keeps-same port s = record {
  files = refl;
  left = λ other ne. refl;
  begun = λ other ne. refl;
  calls = λ other ne. refl;
  open_at = λ other ne. refl;
  other_faults = λ other ne. refl;
  other_absences = λ other ne. refl;
  faults = λ p. omega arith;
  absences = λ p. omega arith;
}

pub keeps-then : (port : Port) (before now after : Seen) → KeepsOthers port before now → KeepsOthers port now after → KeepsOthers port before after
keeps-then port before now after a b = record {
  files = b.files ∙ a.files;
  left = λ other ne. b.left other ne ∙ a.left other ne;
  begun = λ other ne. b.begun other ne ∙ a.begun other ne;
  calls = λ other ne. b.calls other ne ∙ a.calls other ne;
  open_at = λ other ne. b.open_at other ne ∙ a.open_at other ne;
  other_faults = λ other ne. b.other_faults other ne ∙ a.other_faults other ne;
  other_absences = λ other ne. b.other_absences other ne ∙ a.other_absences other ne;
  faults = λ p. let first = a.faults p in let second = b.faults p in omega arith;
  absences = λ p. let first = a.absences p in let second = b.absences p in omega arith;
}
