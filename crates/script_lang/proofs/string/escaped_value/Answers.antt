use Rattle.std.proofs.Common.{sym, ◌∙◌}
use Rattle.script_lang.proofs.Values.{string_value-no_end, string_value-found}
use Rattle.script_lang.proofs.string.escaped_value.Goals as goal

pub returns-in_default-clause-value : goal.returns-in_default-clause-value
returns-in_default-clause-value c = sym (string_value-no_end c.args.text.now c.args.inside.now c.utf8.text c.requires c.in_default.ensures.value)

pub returns-in-Some-2-clause-value : goal.returns-in-Some-2-clause-value
returns-in-Some-2-clause-value c =
    string_value-found c.args.text.now c.args.inside.now c.in-Some.end c.utf8.text c.requires c.in-Some.ensures.value c.in-Some.ensures.boundary _ _
    c.split_at.ensures.front c.split_at.ensures.back _ (sym c.in-Some-2.is ∙ c.in_ok-value.ensures)

pub returns-in-None-clause-value : goal.returns-in-None-clause-value
returns-in-None-clause-value c =
    string_value-found c.args.text.now c.args.inside.now c.in-Some.end c.utf8.text c.requires c.in-Some.ensures.value c.in-Some.ensures.boundary _ _
    c.split_at.ensures.front c.split_at.ensures.back _ (sym c.in-None.is ∙ c.in_ok-value.ensures)
