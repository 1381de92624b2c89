use Rattle.std.proofs.Common.{◌≡◌, ◌+◌, ℕ, List, ◌∷◌, [], None, true, length, drop, get_or, ap, ◌∙◌, sym, subst, ltb, arith}
use Rattle.std.proofs.lemmas.Bool.{ltb-true}
use Rattle.std.proofs.lemmas.List.{drop_all}
use Rattle.serial.specs.declared.script.Statement.{Statement}
use Rattle.write_parser.specs.Steps.{left_by}
use Rattle.write_parser.proofs.StatementLemmas.{if_ok, next-is, halted-some, halted-none}
use Rattle.write_parser.proofs.NestingLemmas.{NextIs, step-refused, step-on}
use Rattle.write_parser.proofs.MadeLemmas.{script_ended, step-made, refused-made}
use Rattle.write_parser.proofs.live.Live.step.Goals as goal
use Rattle.write_parser.proofs.live.Live.step.Goals.{in-All, in-Nothing}

next : (list script : List Statement) (i : ℕ) (a : Statement) → list ≡ script → true ≡ ltb i (length list) → a ≡ get_or list i a → drop i script ≡ a ∷ drop (i + 1) script
next list script i a same within is =
    subst (λ l. drop i l ≡ a ∷ drop (i + 1) l) same (next-is list i a (ltb-true i (length list) (sym within)) is)

all_done : (list : List Statement) → drop (length list) list ≡ []
all_done list = drop_all (length list) list (omega arith)

pub returns-in_default-clause-does : goal.returns-in_default-clause-does
returns-in_default-clause-does c = if_ok c.end_script.result _ _ (λ t steps. steps c.args.table.now) c.end_script.ensures.steps

pub returns-in_default-clause-logged : goal.returns-in_default-clause-logged
returns-in_default-clause-logged c =
    if_ok c.end_script.result _ _ (λ t ended. script_ended c.args.table.now _ _ c.args.log.now ended) c.end_script.ensures.ends

pub returns-then-is_some-clause-logged : goal.returns-then-is_some-clause-logged
returns-then-is_some-clause-logged c =
    let refused = halted-some c.run_statement.new.self.halted (sym c.is_some.ensures ∙ c.if-is_some.true) in
    refused-made c.args.table.now c.args.self.now c.run_statement.new.self c.args.nesting.now c.in-Some.statement.now c.run_statement.new.rest c.in_ok-run_statement.field-0 c.args.log.now
    c.run_statement.new.log c.requires.going.halted c.requires.waits
    (next c.as_slice-statements.result.now c.args.nesting.now.top.script c.args.nesting.now.top.done c.in-Some.statement.now c.as_slice-statements.ensures c.in-Some.ensures.lookup.0
    c.in-Some.ensures.lookup.1) c.in_ok-run_statement.ensures.does c.in_ok-run_statement.ensures.logged refused.0 refused.1

pub returns-clause-logged : goal.returns-clause-logged
returns-clause-logged c =
    let top = c.args.nesting.now.top in
    let there : NextIs top c.in-Some.statement.now = next c.as_slice-statements.result.now top.script top.done c.in-Some.statement.now c.as_slice-statements.ensures c.in-Some.ensures.lookup.0
    c.in-Some.ensures.lookup.1 in
    elim c.match-branch-2.branch [
      | in-All w ↦
          step-made c.args.table.now c.args.self.now c.run_statement.new.self c.args.nesting.now c.in-Some.statement.now c.run_statement.new.rest c.in_ok-run_statement.field-0 c.args.log.now
          c.run_statement.new.log c.requires.going.halted c.requires.waits there c.in_ok-run_statement.ensures.does c.in_ok-run_statement.ensures.logged c.match-branch-2.nesting (top.done + 1)
          (ap (λ d. left_by d (drop (top.done + 1) top.script)) (sym w.in-All.is)) w.nesting-is
      | in-Nothing w ↦
          step-made c.args.table.now c.args.self.now c.run_statement.new.self c.args.nesting.now c.in-Some.statement.now c.run_statement.new.rest c.in_ok-run_statement.field-0 c.args.log.now
          c.run_statement.new.log c.requires.going.halted c.requires.waits there c.in_ok-run_statement.ensures.does c.in_ok-run_statement.ensures.logged c.match-branch-2.nesting (length c.as_slice-statements.result.now)
          (ap (λ l. drop (length l) top.script) c.as_slice-statements.ensures ∙ (all_done top.script ∙ ap (λ d. left_by d (drop (top.done + 1) top.script)) (sym w.in-Nothing.is))) w.nesting-is
    ]

pub returns-then-is_some-clause-does : goal.returns-then-is_some-clause-does
returns-then-is_some-clause-does c =
    let refused = halted-some c.run_statement.new.self.halted (sym c.is_some.ensures ∙ c.if-is_some.true) in
    step-refused c.args.table.now c.args.self.now c.run_statement.new.self c.args.nesting.now c.match-branch-2.nesting c.in-Some.statement.now c.run_statement.new.rest c.in_ok-run_statement.field-0 refused.0
    (next c.as_slice-statements.result.now c.args.nesting.now.top.script c.args.nesting.now.top.done c.in-Some.statement.now c.as_slice-statements.ensures c.in-Some.ensures.lookup.0
    c.in-Some.ensures.lookup.1) c.in_ok-run_statement.ensures.does refused.1

pub returns-clause-does : goal.returns-clause-does
returns-clause-does c =
    let goes_on : c.run_statement.new.self.halted ≡ None = halted-none c.run_statement.new.self.halted (sym c.is_some.ensures ∙ c.if-is_some.false) in
    let top = c.args.nesting.now.top in
    let there : NextIs top c.in-Some.statement.now = next c.as_slice-statements.result.now top.script top.done c.in-Some.statement.now c.as_slice-statements.ensures c.in-Some.ensures.lookup.0
    c.in-Some.ensures.lookup.1 in
    elim c.match-branch-2.branch [
      | in-All w ↦
          step-on c.args.table.now c.args.self.now c.run_statement.new.self c.args.nesting.now c.match-branch-2.nesting c.in-Some.statement.now c.run_statement.new.rest c.in_ok-run_statement.field-0
          (top.done + 1) there c.in_ok-run_statement.ensures.does goes_on (ap (λ d. left_by d (drop (top.done + 1) top.script)) (sym w.in-All.is)) w.nesting-is
      | in-Nothing w ↦
          step-on c.args.table.now c.args.self.now c.run_statement.new.self c.args.nesting.now c.match-branch-2.nesting c.in-Some.statement.now c.run_statement.new.rest c.in_ok-run_statement.field-0
          (length c.as_slice-statements.result.now) there c.in_ok-run_statement.ensures.does goes_on
          (ap (λ l. drop (length l) top.script) c.as_slice-statements.ensures ∙ (all_done top.script ∙ ap (λ d. left_by d (drop (top.done + 1) top.script)) (sym w.in-Nothing.is))) w.nesting-is
    ]
