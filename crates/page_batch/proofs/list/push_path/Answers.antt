use Rattle.std.proofs.Common.{◌++◌, [], ◌∷◌, map, ap, ◌∙◌}
use Rattle.std.specs.String.{string_bytes}
use Rattle.std.proofs.lemmas.List.{map_push}
use Rattle.page_batch.proofs.list.push_path.Goals as goal

pub returns : goal.returns
returns c =
    ap (map string_bytes) c.in_ok-push.ensures.items
    ∙ (map_push string_bytes c.args.paths.now.items c.in_ok-from_str.field-0 ∙ ap (λ l. map string_bytes c.args.paths.now.items ++ l ∷ []) c.in_ok-from_str.ensures.ok)
