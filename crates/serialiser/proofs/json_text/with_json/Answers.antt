use Rattle.std.proofs.Common.{List, [], ◌∷◌, ◌++◌, ap, ◌∙◌}
use Rattle.json.specs.Token.{Token, string}
use Rattle.serialiser.proofs.Json.{json-written}
use Rattle.serialiser.proofs.json_text.with_json.Goals as goal

pub returns : goal.returns
returns c =
    json-written c.args.text.now c.args.written.items _ _ _ c.utf8.text
    (c.string.ensures.room.0 ∙ c.new-writer.ensures.before)
    (c.in_ok-string.ensures.ok ∙ ap (λ (ts : List Token). ts ++ string c.args.text.now ∷ []) c.new-writer.ensures.tokens)
    c.into_inner.ensures.items
