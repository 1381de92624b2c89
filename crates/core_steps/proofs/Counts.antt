-- Two states of one run count the same.
use Rattle.std.proofs.Common.{◌≡◌, ap}
use Rattle.serial.specs.Serial.{Side, Result, finished, refused}
use Rattle.core_steps.specs.Sides.{CountsAlike}

pub counts-same : (r : Result) (a b : Side) → a ≡ b → CountsAlike r a b
counts-same finished a b is = (ap (λ (s : Side). s.written) is, ap (λ (s : Side). s.executed) is)
counts-same (refused w) a b is = tt
