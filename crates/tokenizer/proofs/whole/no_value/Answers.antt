use Rattle.std.proofs.Common.{refl}
use Rattle.tokenizer.specs.Whole.{piece}
use Rattle.tokenizer.proofs.WholeLemmas.{no-value, HasValue-same}
use Rattle.tokenizer.proofs.whole.no_value.Goals as goal

pub returns-clause-value : goal.returns-clause-value
returns-clause-value c es = HasValue-same es c.gap_at.result.behind refl c.new.ensures (no-value es c.gap_at.result.behind (piece c.args.text.now c.args.from c.gap_at.result.at) c.gap_at.ensures.gap)
