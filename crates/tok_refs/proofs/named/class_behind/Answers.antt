use Rattle.std.proofs.Common.{◌∙◌, sym, ap, length}
use Rattle.std.specs.Str.{chars}
use Rattle.std.proofs.lemmas.List.{nil_from_length}
use Rattle.std.proofs.lemmas.Str.{chars-nil, chars_past_char}
use Rattle.standard.specs.ReferenceStates.{class_behind}
use Rattle.tok_refs.proofs.named.class_behind.Goals as goal

pub returns-in-None : goal.returns-in-None
returns-in-None c =
    let empty = nil_from_length c.args.rest.now (ap length (sym c.chars.ensures.rest) ∙ c.in-None.ensures.steps.0.0) in
    ap (λ l. class_behind l c.args.class) (sym (ap chars empty ∙ chars-nil))

pub returns-in-Some : goal.returns-in-Some
returns-in-Some c = c.class_of.ensures ∙ ap (λ l. class_behind l c.args.class) (sym (chars_past_char c.args.rest.now _ c.in-Some.c c.utf8.rest (sym c.chars.ensures.rest ∙ c.in-Some.ensures.steps.0)))
