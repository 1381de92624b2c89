use Rattle.std.proofs.Common.{ℕ, List, ◌++◌}
use Rattle.std.specs.Prelude.{Option}
use Rattle.html_types.specs.declared.attributes.Attribute.{Attribute}
use Rattle.html_types.specs.declared.state.TagState.TheVariants.{TagName, AttributeName, AttributeValueQuoted, AttributeValueUnquoted}
use Rattle.standard.specs.Step.{in_tag}
use Rattle.tokenizer.specs.declared.part.Part.TheVariants as part
use Rattle.tokenizer.specs.Runs.{longer}
use Rattle.tokenizer.specs.Whole.{piece}
use Rattle.tokenizer.proofs.WholeLemmas.{piece-none}
use Rattle.tokenizer.proofs.AppendLemmas.{led, stays-there, name-adds, attribute_name-adds, quoted-leads, unquoted-leads, no_cr-none}
use Rattle.tokenizer.proofs.append.append_in_tag.Goals as goal

pub returns-in-TagName-clause-led : goal.returns-in-TagName-clause-led
returns-in-TagName-clause-led c =
    rw c.in-TagName.is
    (led (in_tag (TagName c.in-TagName.tag)) (λ (n : List ℕ). in_tag (TagName (record c.in-TagName.tag { name = n }))) (λ (x y : List ℕ). x ++ y) part.TagName c.in-TagName.tag.name c.add_rest.new.held (λ (end : ℕ). piece c.args.text.now c.args.from end) c.add_rest.result
    (λ cs h. name-adds c.in-TagName.tag cs h) c.add_rest.ensures.added c.add_rest.ensures.all)

pub returns-in-AttributeName-clause-led : goal.returns-in-AttributeName-clause-led
returns-in-AttributeName-clause-led c =
    rw c.in-AttributeName.is
    (led (in_tag (AttributeName c.in-AttributeName.field-0 c.in-AttributeName.name)) (λ (n : List ℕ). in_tag (AttributeName c.in-AttributeName.field-0 n)) (λ (x y : List ℕ). x ++ y) part.AttributeName c.in-AttributeName.name c.add_rest-in-AttributeName.new.held (λ (end : ℕ). piece c.args.text.now c.args.from end) c.add_rest-in-AttributeName.result
    (λ cs h. attribute_name-adds c.in-AttributeName.field-0 c.in-AttributeName.name cs h) c.add_rest-in-AttributeName.ensures.added c.add_rest-in-AttributeName.ensures.all)

pub returns-in-AttributeValueQuoted-clause-led : goal.returns-in-AttributeValueQuoted-clause-led
returns-in-AttributeValueQuoted-clause-led c =
    let tag = c.in-AttributeValueQuoted.field-0 in
    let held = c.in-AttributeValueQuoted.held in
    let quote = c.in-AttributeValueQuoted.quote in
    rw c.in-AttributeValueQuoted.is
    (led (in_tag (AttributeValueQuoted tag held quote)) (λ (v : Option Attribute). in_tag (AttributeValueQuoted tag v quote)) longer (part.Quoted quote) held c.add_to_value.new.held (λ (end : ℕ). piece c.args.text.now c.args.from end) c.add_to_value.result
    (λ cs h. quoted-leads tag quote held cs h) c.add_to_value.ensures.added c.add_to_value.ensures.all)

pub returns-in-AttributeValueUnquoted-clause-led : goal.returns-in-AttributeValueUnquoted-clause-led
returns-in-AttributeValueUnquoted-clause-led c =
    let tag = c.in-AttributeValueUnquoted.field-0 in
    let held = c.in-AttributeValueUnquoted.held in
    rw c.in-AttributeValueUnquoted.is
    (led (in_tag (AttributeValueUnquoted tag held)) (λ (v : Option Attribute). in_tag (AttributeValueUnquoted tag v)) longer part.Unquoted held c.add_to_value-in-AttributeValueUnquoted.new.held (λ (end : ℕ). piece c.args.text.now c.args.from end) c.add_to_value-in-AttributeValueUnquoted.result
    (λ cs h. unquoted-leads tag held cs h) c.add_to_value-in-AttributeValueUnquoted.ensures.added c.add_to_value-in-AttributeValueUnquoted.ensures.all)

pub returns-in_default-clause-led : goal.returns-in_default-clause-led
returns-in_default-clause-led c = stays-there (in_tag c.args.state.now) (piece c.args.text.now c.args.from c.args.from) (piece-none c.args.text.now c.args.from)

pub returns-in_default-clause-no_cr : goal.returns-in_default-clause-no_cr
returns-in_default-clause-no_cr c = no_cr-none (piece-none c.args.text.now c.args.from)
