use Rattle.std.proofs.Common.{◌≡◌, ◌∙◌, sym}
use Rattle.std.specs.Str.{chars}
use Rattle.html_types.specs.declared.ending.Why.TheVariants as why
use Rattle.standard.specs.Tree.{new_tree}
use Rattle.rule_laws.proofs.FragmentTexts.{fragment-bound}
use Rattle.html_document.proofs.Pieces.{none_given}
use Rattle.html_document.proofs.fragment.parse_fragment.Goals as goal

pub returns-in_default-clause-refused : goal.returns-in_default-clause-refused
returns-in_default-clause-refused c = λ w is.
    let same : why.Depth ≡ w = cc is in
    (sym same, sym c.in_ok-parsed.ensures ∙ none_given c.in_ok-parsed.parsed c.in_default.not-Some)

pub of_fragment-requires : goal.of_fragment-requires
of_fragment-requires c = fragment-bound new_tree c.args.table.now c.args.context (chars c.args.text.now) c.in-Some.ops (sym c.in_ok-parsed.ensures ∙ c.in-Some.is)

pub returns-clause-made : goal.returns-clause-made
returns-clause-made c = (c.in-Some.ops, sym c.in_ok-parsed.ensures ∙ c.in-Some.is, c.in_ok-doc.ensures.made)
