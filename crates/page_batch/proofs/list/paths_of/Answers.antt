use Rattle.std.proofs.Common.{map}
use Rattle.std.specs.String.{string_bytes}
use Rattle.page_batch.proofs.PathLemmas.{too-many, not-text, paths-none, paths-cut, none-cut}
use Rattle.page_batch.proofs.list.paths_of.Goals as goal

pub returns-in-Ok-clause-paths : goal.returns-in-Ok-clause-paths
returns-in-Ok-clause-paths c =
    paths-cut c.cut_lines.result (λ v. map string_bytes v.items) c.args.bytes.now c.in-Ok.text.now c.in-Ok.ensures.cases.0 c.if-bytes-gt-LIST_LIMIT.false c.in-Ok.ensures.cases.1 c.cut_lines.ensures.lines c.cut_lines.ensures.none_empty

pub returns-in-Ok-clause-none : goal.returns-in-Ok-clause-none
returns-in-Ok-clause-none c = λ is. none-cut c.args.bytes.now c.in-Ok.text.now c.in-Ok.ensures.cases.0 (c.cut_lines.ensures.empty is)

pub returns-then-bytes-gt-LIST_LIMIT-clause-none : goal.returns-then-bytes-gt-LIST_LIMIT-clause-none
returns-then-bytes-gt-LIST_LIMIT-clause-none c = λ _. paths-none c.args.bytes.now (too-many c.args.bytes.now c.if-bytes-gt-LIST_LIMIT.true)

pub returns-in-Err-clause-none : goal.returns-in-Err-clause-none
returns-in-Err-clause-none c = λ _. paths-none c.args.bytes.now (not-text c.args.bytes.now _ c.in-Err.ensures.valid_len c.in-Err.ensures.cases.1.short)
