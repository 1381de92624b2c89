use Rattle.std.proofs.Common.{refl}
use Rattle.std.specs.Str.{chars}
use Rattle.text_store.specs.Views.{seen_attribute}
use Rattle.html_document.proofs.Lists.{one-added}
use Rattle.html_document.proofs.flat.push_attribute.Goals as goal

pub returns : goal.returns
returns c =
    one-added c.args.attributes.now.items c.push.new.self.items c.args.text.now.items c.push_text.new.text.items c.push_text-2.new.text.items (chars c.args.added.name.now) (chars c.args.added.value.now)
    (seen_attribute c.args.added) c.in_ok-name.name c.in_ok-value.value refl refl c.in_ok-name.ensures.added c.in_ok-name.ensures.place c.in_ok-value.ensures.added
    c.in_ok-value.ensures.place c.in_ok-push.ensures.items
