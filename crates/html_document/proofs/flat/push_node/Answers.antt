use Rattle.std.proofs.Common.{◌∙◌, ap}
use Rattle.std.specs.Str.{chars}
use Rattle.standard.specs.Tree.{attributes_of}
use Rattle.text_store.specs.Views.{seen_kind}
use Rattle.html_document.specs.Flat.{words_of}
use Rattle.html_document.proofs.Lists.{row-added}
use Rattle.html_document.proofs.flat.push_node.Goals as goal

pub returns : goal.returns
returns c =
    row-added c.args.tree.now c.args.node c.args.flat.now (record { nodes = c.push.new.self; attributes = c.push_all.new.attributes; text = c.push_all.new.text })
    c.push_text.new.text.items (chars c.words_in.result.now) (attributes_of (seen_kind c.kind-kind.result)) c.in_ok-row.row c.in_ok-text.text c.in_ok-attributes.attributes
    (c.words_in.ensures ∙ ap words_of c.kind-kind.ensures) (ap attributes_of c.kind-kind.ensures) c.in_ok-text.ensures.added c.in_ok-text.ensures.place
    c.in_ok-attributes.ensures.0 c.in_ok-attributes.ensures.1 c.in_ok-attributes.ensures.2 c.in_ok-row.ensures.node c.in_ok-row.ensures.text c.in_ok-row.ensures.attributes
    c.in_ok-push.ensures.items
