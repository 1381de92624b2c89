use Rattle.std.proofs.lemmas.Str.{IsCharBoundary-start}
use Rattle.low_tests.proofs.cuts.Reader.take_character.Goals as goal

pub char_at-requires : goal.char_at-requires
char_at-requires c = IsCharBoundary-start c.args.text.now c.utf8.text
