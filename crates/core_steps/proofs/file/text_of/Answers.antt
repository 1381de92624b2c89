use Rattle.std.proofs.Common.{◌≤◌, ◌∙◌, sym, ap, length, arith}
use Rattle.std.specs.Str.{chars}
use Rattle.serial.specs.Scripts.{script_limit}
use Rattle.serial.specs.Statements.{statements}
use Rattle.core_steps.proofs.FileLemmas.{outside_language, long-statements, text-runs, no-text-runs}
use Rattle.core_steps.proofs.file.text_of.Goals as goal
use Rattle.core_steps.proofs.file.text_of.Goals.{in-Ok, in-Err}

pub returns-then-bytes-gt-SCRIPT_LIMIT : goal.returns-then-bytes-gt-SCRIPT_LIMIT
returns-then-bytes-gt-SCRIPT_LIMIT c =
    ap (λ bs. statements (chars bs)) c.in_ok-from_str.ensures.ok ∙ (outside_language ∙ sym (long-statements c.args.bytes.now c.if-bytes-gt-SCRIPT_LIMIT.true))

pub returns : goal.returns
returns c =
    let fits : length c.args.bytes.now ≤ script_limit = omega arith in
    elim c.match-from_utf8.branch [
      | in-Ok w ↦ text-runs c.args.bytes.now w.in-Ok.text.now w.without_mark-text.result.now _ fits w.in-Ok.ensures.cases.0 w.in-Ok.ensures.cases.1 w.without_mark-text.ensures
          (c.in_ok-from_str-2.ensures.ok ∙ ap (λ r. r.now) w.text-is)
      | in-Err w ↦ no-text-runs c.args.bytes.now _ w.in-Err.ensures.cases.0 (c.in_ok-from_str-2.ensures.ok ∙ ap (λ r. r.now) w.text-is)
    ]
