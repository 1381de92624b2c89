use Rattle.std.proofs.Common.{◌≡◌, drop, subst, ◌∙◌, ap}
use Rattle.std.specs.String.{string_bytes}
use Rattle.write_parser.specs.Parsing.{TextParsed}
use Rattle.std.specs.Str.{chars}
use Rattle.doc_changes.specs.Logs.{with_more}
use Rattle.write_parser.specs.Made.{of_text}
use Rattle.write_parser.proofs.ParsingLemmas.{rest-parsed}
use Rattle.write_parser.proofs.rest.Rest.parse.Goals as goal

pub returns-clause-parsed : goal.returns-clause-parsed
returns-clause-parsed c =
    let bytes : c.range_from.result.now ≡ drop c.self.inside.used (string_bytes c.self.inside.string) = c.range_from.ensures.value ∙ ap (drop c.self.inside.used) c.deref.ensures in
    rw (← c.self.view_is)
    (rest-parsed c.args.table.now c.args.machine.now c.parse_text.new.machine c.args.doc.now c.parse_text.new.doc (string_bytes c.self.inside.string) c.self.inside.used c.in_ok-ran.ran
    (subst (λ b. TextParsed c.args.table.now c.args.machine.now c.args.doc.now b c.parse_text.new.machine c.parse_text.new.doc c.in_ok-ran.ran) bytes c.in_ok-ran.ensures.parsed))

pub returns-clause-logged : goal.returns-clause-logged
returns-clause-logged c =
    let bytes : c.range_from.result.now ≡ drop c.self.inside.used (string_bytes c.self.inside.string) = c.range_from.ensures.value ∙ ap (drop c.self.inside.used) c.deref.ensures in
    rw (← c.self.view_is)
    (subst (λ b. c.parse_text.new.log ≡ with_more (of_text c.args.table.now c.args.machine.now (chars b)) c.args.log.now) bytes c.in_ok-ran.ensures.logged)
