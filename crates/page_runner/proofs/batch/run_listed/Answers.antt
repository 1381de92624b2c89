use Rattle.std.proofs.Common.{map, ap, sym}
use Rattle.std.specs.String.{string_bytes}
use Rattle.outside.specs.declared.traits.Port.TheVariants.{List as list_port}
use Rattle.page_batch.specs.declared.list.TheConstants.{LIST_LIMIT}
use Rattle.page_turns.proofs.KeepsLemmas.{begun_is}
use Rattle.page_runner.proofs.RunLemmas.{read_to_is}
use Rattle.page_runner.proofs.BatchRuns.{listed-none, listed-paths, reads-unlisted, reads-listed, list_is, no_list_is}
use Rattle.page_runner.proofs.batch.run_listed.Goals as goal

pub returns-in-Err-clause-answer : goal.returns-in-Err-clause-answer
returns-in-Err-clause-answer g c =
    let at = g.F.Outside.seen in
    listed-none c.args.table.now (string_bytes c.args.words.now.list) (string_bytes c.args.words.now.dir) (at c.args.files.now) (at c.read_list.new.files) _ _ _ _ c.end_unlisted.result c.in-Err.unlisted
    (no_list_is _ (string_bytes c.args.words.now.list) (at c.args.files.now) (at c.read_list.new.files) c.in-Err.unlisted c.as_str.ensures.value c.in-Err.ensures.none) c.end_unlisted.ensures.gives

pub returns-in-Err-clause-reads : goal.returns-in-Err-clause-reads
returns-in-Err-clause-reads g c =
    let at = g.F.Outside.seen in
    reads-unlisted (string_bytes c.args.words.now.list) (string_bytes c.args.words.now.dir) (at c.args.files.now) (at c.read_list.new.files)
    (read_to_is LIST_LIMIT list_port _ (string_bytes c.args.words.now.list) _ _ c.as_str.ensures.value c.read_list.ensures.no_further) c.read_list.ensures.within
    (begun_is _ _ _ (string_bytes c.args.words.now.list) c.as_str.ensures.value c.read_list.ensures.begun) c.read_list.ensures.others

pub returns-in-Ok-clause-answer : goal.returns-in-Ok-clause-answer
returns-in-Ok-clause-answer g c =
    let at = g.F.Outside.seen in
    let paths = map string_bytes c.deref.result.now in
    listed-paths c.args.table.now (string_bytes c.args.words.now.list) (string_bytes c.args.words.now.dir) (at c.args.files.now) (at c.run_paths.new.files) _ _ _ _ c.run_paths.result (at c.read_list.new.files) paths
    (list_is _ (string_bytes c.args.words.now.list) (at c.args.files.now) (at c.read_list.new.files) _ paths c.as_str.ensures.value (ap (λ l. map string_bytes l) (sym c.deref.ensures.value)) c.in-Ok.ensures.list)
    c.read_list.ensures.others c.run_paths.ensures.reads.keeps c.run_paths.ensures.answer

pub returns-in-Ok-clause-reads : goal.returns-in-Ok-clause-reads
returns-in-Ok-clause-reads g c =
    let at = g.F.Outside.seen in
    let paths = map string_bytes c.deref.result.now in
    reads-listed (string_bytes c.args.words.now.list) (string_bytes c.args.words.now.dir) paths (at c.args.files.now) (at c.read_list.new.files) (at c.run_paths.new.files) c.read_list.ensures.others
    (list_is _ (string_bytes c.args.words.now.list) (at c.args.files.now) (at c.read_list.new.files) _ paths c.as_str.ensures.value (ap (λ l. map string_bytes l) (sym c.deref.ensures.value)) c.in-Ok.ensures.list)
    (read_to_is LIST_LIMIT list_port _ (string_bytes c.args.words.now.list) _ _ c.as_str.ensures.value c.read_list.ensures.no_further) c.read_list.ensures.within
    (begun_is _ _ _ (string_bytes c.args.words.now.list) c.as_str.ensures.value c.read_list.ensures.begun)
    c.run_paths.ensures.reads
