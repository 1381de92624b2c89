use Rattle.std.proofs.lemmas.Str.{IsCharBoundary-start}
use Rattle.low_tests.proofs.cuts.Reader.append.Goals as goal

pub append-requires : goal.append-requires
append-requires c = IsCharBoundary-start c.args.text.now c.utf8.text
