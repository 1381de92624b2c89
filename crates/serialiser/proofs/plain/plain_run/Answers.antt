use Rattle.std.proofs.Common.{◌≡◌, ◌∙◌, ◌-◌, arith, sym, ap, take, drop, List, ℕ, subst}
use Rattle.std.specs.Str.{IsCharBoundary}
use Rattle.serialiser.specs.Plain.{plain_len}
use Rattle.serialiser.proofs.PlainRuns.{boundary-plain_len, is_run, run-plain, run-boundary, run-front}
use Rattle.serialiser.proofs.plain.plain_run.Goals as goal

pub range-requires-clause-end_boundary : goal.range-requires-clause-end_boundary
range-requires-clause-end_boundary c =
    let at : c.plain_len.result ≡ plain_len c.range_from-rest.result.now = c.plain_len.ensures ∙ ap plain_len c.as_bytes.ensures.value in
    subst (λ (n : ℕ). IsCharBoundary c.range_from-rest.result.now n) (sym at) (boundary-plain_len c.range_from-rest.result.now)

run : (c : goal.After-range) → c.range.result.now ≡ take (plain_len (drop c.args.from c.args.text.now)) (drop c.args.from c.args.text.now)
run c =
    let whole : c.plain_len.result - 0 ≡ c.plain_len.result = omega arith in
    let value : c.range.result.now ≡ take c.plain_len.result c.range_from-rest.result.now = c.range.ensures.value ∙ ap (λ n. take n c.range_from-rest.result.now) whole in
    let here = is_run c.range_from-rest.result.now _ _ c.plain_len.result c.as_bytes.ensures.value c.plain_len.ensures value in
    here ∙ ap (λ (l : List ℕ). take (plain_len l) l) c.range_from-rest.ensures.value

pub returns-clause-plain : goal.returns-clause-plain
returns-clause-plain c = run-plain c.args.text.now c.range.result.now c.args.from c.requires (run c) c.utf8.text

pub returns-clause-boundary : goal.returns-clause-boundary
returns-clause-boundary c = run-boundary c.args.text.now c.range.result.now c.args.from c.requires (run c)

pub returns-clause-front : goal.returns-clause-front
returns-clause-front c = run-front c.args.text.now c.range.result.now c.args.from c.requires (run c) c.utf8.text
