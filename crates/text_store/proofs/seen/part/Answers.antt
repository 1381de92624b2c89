use Rattle.std.proofs.Common.{◌≡◌, ℕ, ◌+◌, ◌-◌, take, drop, length, ap, ◌∙◌, arith}
use Rattle.std.proofs.lemmas.List.{length-take-le, length-drop}
use Rattle.text_store.proofs.seen.part.Goals as goal

pub returns-clause-marks : goal.returns-clause-marks
returns-clause-marks c =
    let k : (c.args.run.from + c.args.run.size) - c.args.run.from ≡ c.args.run.size = omega arith in
    ap (λ (n : ℕ). take n (drop c.args.run.from c.args.marks.now)) k

pub returns-clause-size : goal.returns-clause-size
returns-clause-size c =
    let from = c.args.run.from in
    let size = c.args.run.size in
    let rest = drop from c.args.marks.now in
    let k : (from + size) - from ≡ size = omega arith in
    ap (λ (n : ℕ). length (take n rest)) k ∙ length-take-le size rest (omega (arith, c.requires, length-drop from c.args.marks.now))
