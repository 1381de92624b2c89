use Rattle.std.proofs.Common.{◌≡◌, [], ◌∙◌, sym, subst}
use Rattle.std.specs.Prelude.{codes}
use Rattle.std.specs.Str.{chars}
use Rattle.html_types.specs.declared.ending.Why.{Why}
use Rattle.html_types.specs.declared.ending.Why.TheVariants as why
use Rattle.standard.specs.Through.{through, with_end}
use Rattle.serial.specs.Quiet.{refused, made}
use Rattle.html_document.proofs.Literals.{no_text}
use Rattle.html_document.proofs.Pieces.{none_given, end-bound, end-made, end-deep}
use Rattle.html_document.proofs.feeding.take_end.Goals as goal

pub returns-in_default-clause-refused : goal.returns-in_default-clause-refused
returns-in_default-clause-refused c = λ w is.
    let same : why.Depth ≡ w = cc is in
    subst (λ (v : Why). made c.args.doc (with_end c.args.table.now (through [] c.args.machine)) ≡ refused v) same
    (end-deep c.args.table.now c.args.machine c.args.doc (chars (codes "")) no_text (sym (none_given c.in_ok-whole.whole c.in_default.not-Some) ∙ c.in_ok-whole.ensures))

pub apply_all-requires : goal.apply_all-requires
apply_all-requires c = end-bound c.args.table.now c.args.machine c.args.doc (chars (codes "")) c.in-Some.ops c.requires no_text (sym c.in-Some.is ∙ c.in_ok-whole.ensures)

pub returns-clause-tree : goal.returns-clause-tree
returns-clause-tree c =
    end-made c.args.table.now c.args.machine c.args.doc c.apply_all.new.self (chars (codes "")) c.in-Some.ops no_text (sym c.in-Some.is ∙ c.in_ok-whole.ensures) c.in_ok-apply_all.ensures.ok
