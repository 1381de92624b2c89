use Rattle.std.proofs.Common.{◌≡◌, true, rules}
use Rattle.std.proofs.lemmas.Str.{IsUtf8-from_ascii}
use Rattle.standard.specs.Entities.{is_name}
use Rattle.entity_table.proofs.Spelling.{name_ascii}
use Rattle.entity_table.proofs.prepared.entry_at.Goals as goal

pub returns-in-Err : goal.returns-in-Err
returns-in-Err c =
    let named : is_name c.in_ok-name.name.now ≡ true = search rules in
    absurd (c.in-Err.ensures.cases.0 (IsUtf8-from_ascii c.in_ok-name.name.now (name_ascii c.in_ok-name.name.now named)))
