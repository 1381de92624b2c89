use Rattle.std.proofs.Common.{◌<◌, List, ℕ, length, refl, sym, ap, subst, ◌∙◌, drop}
use Rattle.std.specs.Str.{chars}
use Rattle.standard.specs.Through.{after_those, read_through}
use Rattle.parse_machine.specs.Through.{from_stop}
use Rattle.parse_machine.proofs.machine.Machine.read_through.Goals as goal

pub texts-init : goal.texts-init
texts-init c = record { text = c.utf8.text; through = refl }

pub returns-in-InputEnd : goal.returns-in-InputEnd
returns-in-InputEnd c =
    c.texts.invariant.through
    ∙ (c.in_ok-ran.ensures.through ∙ ap (from_stop c.args.table.now c.run_to_stop.new.self c.run_to_stop.new.ops (chars (drop c.in_ok-ran.ran.used c.texts.rest.now))) c.in-InputEnd.is)

pub returns-in-Deep : goal.returns-in-Deep
returns-in-Deep c =
    c.texts.invariant.through
    ∙ (c.in_ok-ran.ensures.through ∙ ap (from_stop c.args.table.now c.run_to_stop.new.self c.run_to_stop.new.ops (chars (drop c.in_ok-ran.ran.used c.texts.rest.now))) c.in-Deep.is)

pub texts-preserved : goal.texts-preserved
texts-preserved c = record {
  text = c.range_from-rest.utf8;
  through =
      c.texts.invariant.through
      ∙ (c.in_ok-ran.ensures.through
      ∙ (ap (from_stop c.args.table.now c.run_to_stop.new.self c.run_to_stop.new.ops (chars (drop c.in_ok-ran.ran.used c.texts.rest.now))) c.in-Script.is
      ∙ ap (λ bs. after_those c.run_to_stop.new.ops (read_through c.args.table.now c.run_to_stop.new.self (chars bs))) (sym c.range_from-rest.ensures.value)));
}

pub texts-smaller : goal.texts-smaller
texts-smaller c =
    let used = c.in_ok-ran.ran.used in
    let less : length (drop used c.texts.rest.now) < length c.texts.rest.now = c.in_ok-ran.ensures.onward (λ is. absurd (cc (sym c.in-Script.is ∙ is))) in
    subst (λ (bs : List ℕ). length bs < length c.texts.rest.now) (sym c.range_from-rest.ensures.value) less
