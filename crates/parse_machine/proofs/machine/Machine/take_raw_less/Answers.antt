use Rattle.std.proofs.Common.{◌++◌, List, ℕ, sym, ap, ◌∙◌, take, arith}
use Rattle.std.specs.Str.{chars}
use Rattle.standard.specs.Parser.{Parser}
use Rattle.parse_machine.specs.Runs.{reads_raw}
use Rattle.parse_machine.proofs.Tags.{piece-front}
use Rattle.parse_machine.proofs.RawRuns.{taken_less}
use Rattle.parse_machine.proofs.machine.Machine.take_raw_less.Goals as goal

pub returns-clause-parsed : goal.returns-clause-parsed
returns-clause-parsed c = λ es.
    let text = c.args.text.now in
    let none = c.in-Some.ensures.nothing in
    taken_less es text (chars c.range.result.now) c.args.from c.in-Some.used none.next c.args.self.now c.insert_run.new.self c.args.ops.now c.insert_run.new.ops
    (c.takes_runs.ensures c.if-not-takes_runs.false)
    (sym (ap (λ (p : Parser). reads_raw p.tokenizer) c.self.view_is) ∙ sym (ap reads_raw c.state.ensures) ∙ sym c.reads_raw.ensures ∙ c.if-not-reads_raw.false)
    (ap chars c.range.ensures.value ∙ none.two) none.plain none.no_slash none.no_bang
    (piece-front text c.args.from c.in-Some.used c.utf8.text c.requires (omega (arith, c.in-Some.ensures.onward)) ∙ ap (λ (l : List ℕ). chars (take c.args.from text) ++ chars l) (sym c.range.ensures.value))
    c.in_ok-insert_run.ensures.inserted c.in_ok-insert_run.ensures.done
