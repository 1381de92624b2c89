use Rattle.std.proofs.lemmas.Str.{chars-nil}
use Rattle.write_parser.proofs.rest.Rest.new.Goals as goal

pub returns : goal.returns
returns c = rw c.new.ensures.bytes chars-nil
