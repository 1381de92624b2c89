use Rattle.std.proofs.Common.{◌∙◌, ap, string_bytes}
use Rattle.std.specs.Str.{chars}
use Rattle.std.proofs.lemmas.Str.{IsUtf8-string_bytes}
use Rattle.std.proofs.lemmas.Map.Text.{btree_map_updates_text}
use Rattle.core_steps.proofs.Indexes.{fetch-indexed}
use Rattle.page_batch.proofs.table.ScriptTable.add.Goals as goal

pub invariant_of-self-2 : goal.invariant_of-self-2
invariant_of-self-2 c =
    let key = string_bytes c.in_ok-key.key in
    fetch-indexed c.self.inside.files c.insert.new.self c.self.inside.fetched.items c.reserve.new.self.items c.push_reserved.new.self.items c.of-fetched.result (record { name = c.args.name; fetch = c.args.fetch }) key
    (IsUtf8-string_bytes c.in_ok-key.key) (ap chars c.in_ok-key.ensures.ok ∙ c.as_str.ensures) c.reserve.ensures.items c.push_reserved.ensures.items c.of-fetched.ensures
    (btree_map_updates_text key c.self.inside.files c.insert.new.self _ c.in_ok-insert.ensures.updates) c.self.invariant
