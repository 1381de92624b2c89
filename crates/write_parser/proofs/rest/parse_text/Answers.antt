use Rattle.std.proofs.Common.{List, [], ◌∷◌, ap, ◌∙◌}
use Rattle.std.specs.Str.{chars}
use Rattle.html_types.specs.declared.operation.Op.{Op}
use Rattle.standard.specs.Parser.{parse}
use Rattle.doc_changes.specs.declared.change.Change.TheVariants.{Did}
use Rattle.doc_changes.specs.Logs.{with_more}
use Rattle.write_parser.proofs.ParsingLemmas.{ops-bound, ops-are, text-parsed}
use Rattle.write_parser.proofs.rest.parse_text.Goals as goal

pub apply_all-requires : goal.apply_all-requires
apply_all-requires c =
    ops-bound c.args.table.now c.args.machine.now c.args.doc.now c.run.new.self c.new-ops.result c.run.new.ops c.in_ok-ran.ran c.args.text.now c.requires c.new-ops.ensures
    c.in_ok-ran.ensures.parsed

pub returns-clause-parsed : goal.returns-clause-parsed
returns-clause-parsed c =
    text-parsed c.args.table.now c.args.machine.now c.run.new.self c.args.doc.now c.apply_all.new.doc c.new-ops.result c.run.new.ops c.in_ok-ran.ran c.args.text.now c.utf8.text
    c.requires c.new-ops.ensures c.in_ok-ran.ensures.parsed c.in_ok-apply_all.ensures.ok c.in_ok-ran.ensures.boundary

pub returns-clause-logged : goal.returns-clause-logged
returns-clause-logged c =
    c.in_ok-apply_all.ensures.adds ∙ ap (λ (ops : List Op). with_more (Did ops ∷ []) c.args.log.now)
    (ops-are c.new-ops.result c.run.new.ops (parse c.args.table.now c.args.machine.now (chars c.args.text.now)).ops c.new-ops.ensures c.in_ok-ran.ensures.parsed.ops)
