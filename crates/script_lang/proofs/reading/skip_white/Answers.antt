use Rattle.script_lang.proofs.White.{skip_white-trimmed}
use Rattle.script_lang.proofs.reading.skip_white.Goals as goal

pub returns : goal.returns
returns c = skip_white-trimmed c.args.text.now _ c.utf8.text c.trim_start_matches.ensures.matches
