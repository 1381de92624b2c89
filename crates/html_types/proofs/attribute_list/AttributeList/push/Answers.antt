use Rattle.std.proofs.Common.{◌||◌, List, subst}
use Rattle.html_types.specs.Text.{same_text}
use Rattle.html_types.specs.declared.attributes.Attribute.{Attribute}
use Rattle.html_types.specs.Attributes.{has_name, Indexes}
use Rattle.html_types.proofs.AttributeLemmas.{indexes_append}
use Rattle.html_types.proofs.attribute_list.AttributeList.push.Goals as goal

pub invariant_of-self-in_default : goal.invariant_of-self-in_default
invariant_of-self-in_default c = (
  indexes_append c.add_name.new.index c.self.inside.list.items c.push.new.self.items c.args.attribute c.in_default.ensures.items
      (subst (λ (as' : List Attribute). Indexes c.add_name.new.index (λ n. same_text c.args.attribute.name n || has_name n as')) c.deref.ensures.value c.in_ok-add_name.ensures.ok),
  tt,
)
