use Rattle.std.proofs.Common.{◌≡◌, ℕ, ◌+◌, ◌-◌, List, Some, take, sym, ap, ◌∙◌, arith, lit<}
use Rattle.std.specs.Str.{chars}
use Rattle.std.proofs.lemmas.Str.Pattern.{strip_prefix_char}
use Rattle.script_lang.proofs.Values.{string_value-no_quote, string_value-plain}
use Rattle.script_lang.proofs.string.string_value.Goals as goal

pub returns-in_default-clause-value : goal.returns-in_default-clause-value
returns-in_default-clause-value c = sym (string_value-no_quote c.args.text.now c.utf8.text c.in_default.ensures.cases)

pub returns-in_ok-value-in-Some-plain_end-clause-value : goal.returns-in_ok-value-in-Some-plain_end-clause-value
returns-in_ok-value-in-Some-plain_end-clause-value c =
    let begins = strip_prefix_char 34 c.args.text.now (Some c.in-Some.inside) c.in-Some.ensures.cases (lit< tt) in
    let end = c.in-Some-plain_end.end in
    let whole : end - 0 ≡ end = omega arith in
    let front : c.range.result.now ≡ take end c.in-Some.inside.now = c.range.ensures.value ∙ ap (λ n. take n c.in-Some.inside.now) whole in
    ap (λ (v : List ℕ). Some (v, chars c.range_from.result.now)) (c.in_ok-value-in-Some-plain_end.ensures ∙ ap chars front)
    ∙ string_value-plain c.args.text.now c.in-Some.inside.now (end + 1) c.utf8.text begins c.in-Some-plain_end.ensures.found.ends c.in-Some-plain_end.ensures.behind
    (take end c.in-Some.inside.now) c.range_from.result.now c.in-Some-plain_end.ensures.found.value c.range_from.ensures.value

pub escaped_value-requires : goal.escaped_value-requires
escaped_value-requires c = strip_prefix_char 34 c.args.text.now (Some c.in-Some.inside) c.in-Some.ensures.cases (lit< tt)
