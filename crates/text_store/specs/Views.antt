-- What a node is, as it is read.
use Rattle.std.specs.Str.{chars}
use Rattle.html_types.specs.declared.attributes.Attribute.{Attribute}
use Rattle.html_types.specs.declared.name.Name.{Name}
use Rattle.html_types.specs.declared.name.Name.TheVariants as name
use Rattle.html_types.specs.declared.tree.Kind.{Kind}
use Rattle.html_types.specs.declared.tree.Kind.TheVariants as kind
use Rattle.text_store.specs.declared.listed.SeenAttribute.{SeenAttribute}
use Rattle.text_store.specs.declared.seen.SeenName.{SeenName}
use Rattle.text_store.specs.declared.seen.SeenName.TheVariants as name_seen
use Rattle.text_store.specs.declared.seen.Seen.{Seen}
use Rattle.text_store.specs.declared.seen.Seen.TheVariants as seen

abbrev pub seen_attribute : SeenAttribute → Attribute
seen_attribute a = record { name = chars a.name.now; value = chars a.value.now }

abbrev pub seen_name : SeenName → Name
seen_name (name_seen.Known word) = name.Known word
seen_name (name_seen.Other space text) = name.Other space (chars text.now)

abbrev pub seen_kind : Seen → Kind
seen_kind seen.Document = kind.Document
seen_kind seen.Contents = kind.Contents
seen_kind (seen.Doctype text) = kind.Doctype (chars text.now)
seen_kind (seen.Element name list) = kind.Element (seen_name name) list
seen_kind (seen.Text text) = kind.Text (chars text.now)
seen_kind (seen.Comment text) = kind.Comment (chars text.now)
