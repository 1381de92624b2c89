use Rattle.std.proofs.Common.{sym, ap, subst, ◌∙◌, [], ◌∷◌, arith}
use Rattle.html_types.specs.declared.state.TokState.{TokState}
use Rattle.standard.specs.Parser.{parser, after_ops, build}
use Rattle.tokenizer.specs.Whole.{piece}
use Rattle.tokenizer.specs.Raw.{MakesFrom}
use Rattle.parse_machine.proofs.Tags.{taken_raw}
use Rattle.parse_machine.proofs.machine.Machine.take_raw_end.Goals as goal

pub returns-clause-parsed : goal.returns-clause-parsed
returns-clause-parsed c = λ es.
    let now = c.self.inside in
    let w = c.in-Some.whole in
    rw (← c.self.view_is)
    (taken_raw es c.args.text.now c.args.from w.end c.in_ok-stop.stop w.token (parser now.tokenizer.state now.after_cr now.builder) c.take_token.new.self c.args.ops.now c.take_token.new.ops
    c.utf8.text c.requires (omega (arith, c.in-Some.ensures.onward)) c.if-self.false
    (subst (λ (s : TokState). MakesFrom es s (piece c.args.text.now c.args.from w.end) w.token) c.state.ensures (c.in-Some.ensures.makes es)) c.in-Some.ensures.no_cr
    (sym (ap (λ (s : TokState). after_ops c.args.ops.now (build s now.after_cr (w.token ∷ []) now.builder)) c.load.ensures.state) ∙ c.in_ok-stop.ensures))
