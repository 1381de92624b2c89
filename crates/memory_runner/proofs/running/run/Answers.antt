use Rattle.std.proofs.Common.{List, ℕ, sym, ap, subst, ◌∙◌, refl}
use Rattle.std.proofs.Math.Path.{fun_ext}
use Rattle.std.specs.String.{string_bytes}
use Rattle.outside.specs.Memory.{files_of, seen_with}
use Rattle.page_turns.specs.Scripts.{path_of, fetched_of}
use Rattle.page_runner.proofs.MakingLemmas.{never-rose}
use Rattle.memory_runner.specs.Kept.{kept}
use Rattle.memory_runner.specs.Runs.{scripts_in}
use Rattle.memory_runner.proofs.Printed.{Printed, printed}
use Rattle.memory_runner.proofs.running.run.Goals as goal

pub returns : goal.returns
returns c =
    let job = c.in_ok-job.job in
    let files = c.in_ok-files.files in
    let answer = c.end_of-end.ensures in
    let there = ap (files_of files) c.in_ok-job.ensures.page ∙ c.in_ok-files.ensures.page in
    let are = fun_ext (λ (name : List ℕ). ap (λ (d : List ℕ). fetched_of (files_of files (path_of d name))) c.in_ok-job.ensures.dir ∙ ap fetched_of (c.in_ok-files.ensures.scripts name)) in
    let all : Printed c.args.table.now (scripts_in c.args.scripts) c.args.page.now c.args.dump c.in-Some.outcome (kept c.end_of-end.new.out) =
    subst (λ e. Printed e (scripts_in c.args.scripts) c.args.page.now c.args.dump c.in-Some.outcome (kept c.end_of-end.new.out)) c.in_ok-job.ensures.table
    (subst (λ d. Printed job.table.now (scripts_in c.args.scripts) c.args.page.now d c.in-Some.outcome (kept c.end_of-end.new.out)) c.in_ok-job.ensures.dump
    (printed job.table.now job.dump (string_bytes job.page) (string_bytes job.dir) (seen_with (λ port. 0) files) (seen_with (λ port. 0) c.end_of-end.new.files) (files_of files) refl c.args.page.now there (scripts_in c.args.scripts) are never-rose never-rose _ _ _ c.new-out.ensures _
    c.in-Some.outcome (sym c.outcome_of.ensures ∙ c.in-Some.is) answer.page answer.may answer.parsed answer.gives)) in
    record { outcome = all.0; comes = all.1; result = all.2; text = all.3 }
