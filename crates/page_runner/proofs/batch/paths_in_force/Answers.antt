use Rattle.std.proofs.Common.{◌∙◌, ap, map, subst, IsTrue, Err, None}
use Rattle.std.specs.String.{string_bytes}
use Rattle.page_runner.specs.Answers.{is_finished}
use Rattle.page_runner.proofs.RunLemmas.{failure_unfinished}
use Rattle.page_runner.proofs.BatchRuns.{paths-all, paths-part, reads-batched, answers_at, reads_at}
use Rattle.page_runner.proofs.batch.paths_in_force.Goals as goal

pub returns-in-Err : goal.returns-in-Err
returns-in-Err g c =
    let at = g.F.Outside.seen in
    let dir = string_bytes c.args.words.now.dir in
    let paths = map string_bytes c.args.paths.now in
    record {
      answer = rw c.status_for.ensures
          (answers_at c.args.table.now _ dir paths (at c.args.files.now) (at c.run_list.new.files) _ _ _ _ _ c.as_str.ensures.value
          (paths-part c.args.table.now _ paths (at c.args.files.now) (at c.run_list.new.files) _ _ _ _ c.in-Err.failure c.in-Err.ensures.in_part (λ is. c.run_list.ensures.write (c.in-Err.is ∙ ap Err is))));
      reads = reads_at _ dir paths (at c.args.files.now) (at c.run_list.new.files) c.as_str.ensures.value
          (reads-batched c.args.table.now _ paths (at c.args.files.now) (at c.run_list.new.files) 0 0 None None c.in-Err.ensures.in_part.0);
      clean = λ e. absurd (failure_unfinished c.in-Err.failure (subst (λ s. IsTrue (is_finished s)) c.status_for.ensures e));
    }

pub returns-in-Ok : goal.returns-in-Ok
returns-in-Ok g c =
    let at = g.F.Outside.seen in
    let dir = string_bytes c.args.words.now.dir in
    let paths = map string_bytes c.args.paths.now in
    record {
      answer = answers_at c.args.table.now _ dir paths (at c.args.files.now) (at c.run_list.new.files) _ _ _ _ _ c.as_str.ensures.value
          (paths-all c.args.table.now _ paths (at c.args.files.now) (at c.run_list.new.files) _ _ _ _ c.in-Ok.ensures.all);
      reads = reads_at _ dir paths (at c.args.files.now) (at c.run_list.new.files) c.as_str.ensures.value
          (reads-batched c.args.table.now _ paths (at c.args.files.now) (at c.run_list.new.files) 0 0 None None c.in-Ok.ensures.all.0);
      clean = λ e. c.in-Ok.ensures.clean;
    }
