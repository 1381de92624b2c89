use Rattle.std.proofs.Common.{List, [], ◌∷◌, ap, ◌∙◌}
use Rattle.html_types.specs.declared.operation.Op.{Op}
use Rattle.core_definitions.specs.Batches.{end_batch}
use Rattle.doc_changes.specs.declared.change.Change.TheVariants.{Did}
use Rattle.doc_changes.specs.Logs.{with_more}
use Rattle.write_parser.proofs.ParsingLemmas.{ops-are, last-bound, end-parsed}
use Rattle.write_parser.proofs.live.Live.finish.Goals as goal

pub apply_all-requires : goal.apply_all-requires
apply_all-requires c =
    last-bound c.args.table.now c.args.self.now.machine c.args.self.now.doc c.args.ending c.finish.new.self c.new-ops.result c.finish.new.ops c.in_ok-end.end c.requires c.new-ops.ensures
    c.in_ok-end.ensures

pub returns-clause-parsed : goal.returns-clause-parsed
returns-clause-parsed c =
    end-parsed c.args.table.now c.args.ending c.args.self.now.machine c.finish.new.self c.args.self.now.doc c.apply_all.new.doc c.new-ops.result c.finish.new.ops c.in_ok-end.end c.requires
    c.new-ops.ensures c.in_ok-end.ensures c.in_ok-apply_all.ensures.ok

pub returns-clause-logged : goal.returns-clause-logged
returns-clause-logged c =
    c.in_ok-apply_all.ensures.adds ∙ ap (λ (ops : List Op). with_more (Did ops ∷ []) c.args.log.now)
    (ops-are c.new-ops.result c.finish.new.ops (end_batch c.args.table.now c.args.self.now.machine c.args.ending).ops c.new-ops.ensures c.in_ok-end.ensures.ops)
