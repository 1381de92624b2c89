use Rattle.standard.specs.Tree.{attributes_of}
use Rattle.text_store.specs.Views.{seen_kind}
use Rattle.html_document.proofs.Lists.{none-of, none-pushed}
use Rattle.html_document.proofs.flat.push_all.Goals as goal

pub returns-in_default : goal.returns-in_default
returns-in_default c =
    none-pushed c.args.attributes.now.items c.args.text.now.items (attributes_of (seen_kind c.args.kind.now)) c.push_none.result (none-of c.args.kind.now c.in_default.not-Element) c.push_none.ensures.start
    c.push_none.ensures.length
