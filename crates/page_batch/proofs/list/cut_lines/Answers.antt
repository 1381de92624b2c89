use Rattle.std.proofs.Common.{◌≡◌, ◌<◌, ◌++◌, ◌∷◌, [], List, ℕ, map, length, false, sym, ap, subst, ◌∙◌}
use Rattle.std.specs.String.{string_bytes}
use Rattle.std.proofs.lemmas.Bool.{eqb-true, eqb-false}
use Rattle.std.proofs.lemmas.List.{nil_from_length}
use Rattle.std.proofs.lemmas.Result.{err_from_is_err_and}
use Rattle.page_batch.specs.Lists.{lines_of, has_empty}
use Rattle.page_batch.proofs.FrontLemmas.{some-there}
use Rattle.page_batch.proofs.LineLemmas.{first-line, behind-less, lines-more, empty-none, empty-first, nothing-left}
use Rattle.page_batch.proofs.list.cut_lines.Goals as goal

pub lines-init : goal.lines-init
lines-init c =
    let none = c.new-paths.ensures.items in
    record { text = c.utf8.text; lines = ap (λ ps. map string_bytes ps ++ lines_of c.args.text.now) none; none_empty = ap (λ ps. has_empty (map string_bytes ps)) none }

pub returns-then-is_empty-clause-empty : goal.returns-then-is_empty-clause-empty
returns-then-is_empty-clause-empty c = λ _.
    let some : 0 < length c.lines.rest.now = some-there _ (eqb-false (length c.lines.rest.now) 0 (sym c.is_empty.ensures ∙ c.lines-test.true)) in
    let none : c.first_line-line.result.now ≡ [] = nil_from_length c.first_line-line.result.now (eqb-true (length c.first_line-line.result.now) 0 (sym c.is_empty-in-lines.ensures ∙ c.if-is_empty.true)) in
    empty-first (map string_bytes c.lines.paths.items) c.lines.rest.now c.first_line-line.result.now (lines_of c.args.text.now) some c.first_line-line.ensures none c.lines.invariant.lines

pub lines-preserved : goal.lines-preserved
lines-preserved c =
    let some : 0 < length c.lines.rest.now = some-there _ (eqb-false (length c.lines.rest.now) 0 (sym c.is_empty.ensures ∙ c.lines-test.true)) in
    let filled : 0 < length c.first_line-line.result.now = some-there _ (eqb-false (length c.first_line-line.result.now) 0 (sym c.is_empty-in-lines.ensures ∙ c.if-is_empty.false)) in
    let line = c.first_line-line.result.now in
    let done = map string_bytes c.lines.paths.items in
    record {
      text = c.behind_line-rest.utf8;
      lines =
          ap (λ ls. ls ++ lines_of c.behind_line-rest.result.now) c.in_ok-push_path.ensures
          ∙ lines-more done c.lines.rest.now line c.behind_line-rest.result.now (lines_of c.args.text.now) (first-line c.lines.rest.now line c.behind_line-rest.result.now some c.first_line-line.ensures c.behind_line-rest.ensures) c.lines.invariant.lines;
      none_empty = ap has_empty c.in_ok-push_path.ensures ∙ empty-none done line c.lines.invariant.none_empty filled;
    }

pub lines-smaller : goal.lines-smaller
lines-smaller c =
    let some : 0 < length c.lines.rest.now = some-there _ (eqb-false (length c.lines.rest.now) 0 (sym c.is_empty.ensures ∙ c.lines-test.true)) in
    behind-less c.lines.rest.now c.behind_line-rest.result.now some c.behind_line-rest.ensures

pub returns-in_err-push_path-clause-empty : goal.returns-in_err-push_path-clause-empty
returns-in_err-push_path-clause-empty c =
    let p = err_from_is_err_and c.from_residual.result c.from_residual.ensures.1 in
    rw (p.1, p.2) (λ is. absurd (cc is))

pub returns-clause-lines : goal.returns-clause-lines
returns-clause-lines c =
    nothing-left (map string_bytes c.lines.paths.items) c.lines.rest.now (lines_of c.args.text.now) (eqb-true (length c.lines.rest.now) 0 (sym c.is_empty.ensures ∙ c.lines-test.false)) c.lines.invariant.lines

pub returns-clause-none_empty : goal.returns-clause-none_empty
returns-clause-none_empty c =
    let all = nothing-left (map string_bytes c.lines.paths.items) c.lines.rest.now (lines_of c.args.text.now) (eqb-true (length c.lines.rest.now) 0 (sym c.is_empty.ensures ∙ c.lines-test.false)) c.lines.invariant.lines in
    subst (λ ls. has_empty ls ≡ false) all c.lines.invariant.none_empty

pub returns-clause-empty : goal.returns-clause-empty
returns-clause-empty c = λ is. absurd (cc is)
