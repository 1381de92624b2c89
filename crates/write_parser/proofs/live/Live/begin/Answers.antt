use Rattle.std.proofs.Common.{◌≡◌, ◌++◌, ◌∷◌, [], suc, refl, sym, ap, ◌∙◌}
use Rattle.std.specs.Str.{chars}
use Rattle.serial.specs.declared.script.Line.TheVariants as line
use Rattle.write_parser.specs.declared.live.Live.{Live}
use Rattle.write_parser.proofs.BeginLemmas.{begins-outside, begins-inside}
use Rattle.write_parser.proofs.live.Live.begin.Goals as goal

pub returns-in_ok-push-in-None : goal.returns-in_ok-push-in-None
returns-in_ok-push-in-None c =
    let old : Live = c.args.self.now in
    let lines : c.push.new.self ≡ old.lines ++ line.Syntax (suc old.executed) ∷ [] = c.in_ok-push-in-None.ensures.ok ∙ ap (λ n. old.lines ++ line.Syntax n ∷ []) c.in_ok-self.ensures in
    begins-outside (chars c.args.text.now) old (record old { executed = c.in_ok-self.field-0; lines = c.push.new.self })
    (ap (λ n. record old { executed = n; lines = c.push.new.self }) c.in_ok-self.ensures ∙ ap (λ l. record old { executed = suc old.executed; lines = l }) lines)
    (sym c.in_ok-script.ensures ∙ c.in-None.is)

pub returns-in-Some : goal.returns-in-Some
returns-in-Some c =
    let old : Live = c.args.self.now in
    begins-inside (chars c.args.text.now) old (record old { executed = c.in_ok-self.field-0 }) (record { number = c.in_ok-self.field-0; script = c.in-Some.script; done = 0; rest = c.new.result })
    (ap (λ n. record old { executed = n }) c.in_ok-self.ensures) c.in_ok-self.ensures refl c.new.ensures (sym c.in_ok-script.ensures ∙ c.in-Some.is)
