use Rattle.tokenizer.proofs.reading.+settle.Given as goal

abbrev pub decreases-settle : goal.decreases-settle
decreases-settle l = l.readings
