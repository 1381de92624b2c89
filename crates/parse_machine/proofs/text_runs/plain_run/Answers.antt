use Rattle.std.proofs.Common.{◌≡◌, ◌∙◌, ◌-◌, arith, sym, ap, take, drop, List, ℕ, subst}
use Rattle.std.specs.Str.{IsCharBoundary}
use Rattle.standard.specs.Class.{first_mark}
use Rattle.parse_machine.proofs.Marks.{boundary-first_mark, is_run, run-plain, run-boundary, run-front}
use Rattle.parse_machine.proofs.text_runs.plain_run.Goals as goal

pub range-requires-clause-end_boundary : goal.range-requires-clause-end_boundary
range-requires-clause-end_boundary c =
    let at : c.first_mark.result ≡ first_mark c.range_from-rest.result.now = c.first_mark.ensures ∙ ap first_mark c.as_bytes.ensures.value in
    subst (λ (n : ℕ). IsCharBoundary c.range_from-rest.result.now n) (sym at) (boundary-first_mark c.range_from-rest.result.now)

run : (c : goal.After-range) → c.range.result.now ≡ take (first_mark (drop c.args.from c.args.text.now)) (drop c.args.from c.args.text.now)
run c =
    let whole : c.first_mark.result - 0 ≡ c.first_mark.result = omega arith in
    let value : c.range.result.now ≡ take c.first_mark.result c.range_from-rest.result.now = c.range.ensures.value ∙ ap (λ n. take n c.range_from-rest.result.now) whole in
    let here = is_run c.range_from-rest.result.now _ _ c.first_mark.result c.as_bytes.ensures.value c.first_mark.ensures value in
    here ∙ ap (λ (l : List ℕ). take (first_mark l) l) c.range_from-rest.ensures.value

pub returns-clause-plain : goal.returns-clause-plain
returns-clause-plain c = run-plain c.args.text.now c.range.result.now c.args.from c.utf8.text c.requires (run c)

pub returns-clause-boundary : goal.returns-clause-boundary
returns-clause-boundary c = run-boundary c.args.text.now c.range.result.now c.args.from c.requires (run c)

pub returns-clause-front : goal.returns-clause-front
returns-clause-front c = run-front c.args.text.now c.range.result.now c.args.from c.utf8.text c.requires (run c)
