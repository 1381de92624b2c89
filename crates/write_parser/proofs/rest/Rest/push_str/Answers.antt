use Rattle.std.proofs.lemmas.Str.{IsUtf8-string_bytes}
use Rattle.write_parser.proofs.RestLemmas.{boundary-more, chars-more}
use Rattle.write_parser.proofs.rest.Rest.push_str.Goals as goal

pub invariant_of-self-2 : goal.invariant_of-self-2
invariant_of-self-2 c =
    rw c.in_ok-push_str.ensures.bytes (boundary-more _ c.args.text.now c.self.inside.used (IsUtf8-string_bytes c.self.inside.string) c.utf8.text c.self.invariant)

pub returns : goal.returns
returns c =
    rw (c.in_ok-push_str.ensures.bytes, ← c.self.view_is)
    (chars-more _ c.args.text.now c.self.inside.used (IsUtf8-string_bytes c.self.inside.string) c.self.invariant)
