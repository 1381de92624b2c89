use Rattle.std.proofs.Common.{Some, length, refl, sym, ap, ◌∙◌}
use Rattle.std.proofs.lemmas.Option.{slice_get_read}
use Rattle.text_store.proofs.listed.attribute_in.Goals as goal

pub returns : goal.returns
returns c =
    slice_get_read c.args.attributes.now (length c.args.attributes.now) c.args.index c.index-attributes-index.result refl c.requires c.index-attributes-index.is ∙ ap Some (sym c.attribute_seen.ensures)
