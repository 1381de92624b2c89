use Rattle.std.proofs.Common.{ℕ, List, ◌++◌}
use Rattle.html_types.specs.declared.mark_state.DoctypeState.TheVariants.{Name}
use Rattle.standard.specs.DoctypeStates.{in_doctype}
use Rattle.tokenizer.specs.declared.part.Part.TheVariants as part
use Rattle.tokenizer.specs.Whole.{piece}
use Rattle.tokenizer.proofs.WholeLemmas.{piece-none}
use Rattle.tokenizer.proofs.AppendLemmas.{led, stays-there, doctype-adds, public-drops, system-drops, bogus_doctype-drops, no_cr-none}
use Rattle.tokenizer.proofs.append.append_in_doctype.Goals as goal

pub returns-in-Name-clause-led : goal.returns-in-Name-clause-led
returns-in-Name-clause-led c =
    rw c.in-Name.is
    (led (in_doctype (Name c.in-Name.name)) (λ (n : List ℕ). in_doctype (Name n)) (λ (x y : List ℕ). x ++ y) part.DoctypeName c.in-Name.name c.add_rest.new.held (λ (end : ℕ). piece c.args.text.now c.args.from end) c.add_rest.result
    (λ cs h. doctype-adds c.in-Name.name cs h) c.add_rest.ensures.added c.add_rest.ensures.all)

pub returns-in-PublicIdentifier-clause-led : goal.returns-in-PublicIdentifier-clause-led
returns-in-PublicIdentifier-clause-led c =
    rw c.in-PublicIdentifier.is (public-drops c.in-PublicIdentifier.field-0 c.in-PublicIdentifier.quote (piece c.args.text.now c.args.from c.rest_of.result) c.rest_of.ensures.all)

pub returns-in-SystemIdentifier-clause-led : goal.returns-in-SystemIdentifier-clause-led
returns-in-SystemIdentifier-clause-led c =
    rw c.in-SystemIdentifier.is (system-drops c.in-SystemIdentifier.field-0 c.in-SystemIdentifier.quote (piece c.args.text.now c.args.from c.rest_of-in-SystemIdentifier.result) c.rest_of-in-SystemIdentifier.ensures.all)

pub returns-in-Bogus-clause-led : goal.returns-in-Bogus-clause-led
returns-in-Bogus-clause-led c =
    rw c.in-Bogus.is (bogus_doctype-drops c.in-Bogus.field-0 c.in-Bogus.field-1 (piece c.args.text.now c.args.from c.rest_of-in-Bogus.result) c.rest_of-in-Bogus.ensures.all)

pub returns-in_default-clause-led : goal.returns-in_default-clause-led
returns-in_default-clause-led c = stays-there (in_doctype c.args.state.now) (piece c.args.text.now c.args.from c.args.from) (piece-none c.args.text.now c.args.from)

pub returns-in_default-clause-no_cr : goal.returns-in_default-clause-no_cr
returns-in_default-clause-no_cr c = no_cr-none (piece-none c.args.text.now c.args.from)
