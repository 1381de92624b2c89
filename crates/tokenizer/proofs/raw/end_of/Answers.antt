use Rattle.std.proofs.Common.{rules}
use Rattle.tokenizer.proofs.RawLemmas.{script_ends, style_ends, title_ends, textarea_ends, ends_in}
use Rattle.tokenizer.proofs.raw.end_of.Goals as goal

pub returns-in-ScriptData-Script : goal.returns-in-ScriptData-Script
returns-in-ScriptData-Script c = ends_in c.args.state.now _ _ _ script_ends (search rules)

pub returns-in-Rawtext-Style : goal.returns-in-Rawtext-Style
returns-in-Rawtext-Style c = ends_in c.args.state.now _ _ _ style_ends (search rules)

pub returns-in-Rcdata-Title : goal.returns-in-Rcdata-Title
returns-in-Rcdata-Title c = ends_in c.args.state.now _ _ _ title_ends (search rules)

pub returns-in-Rcdata-Textarea : goal.returns-in-Rcdata-Textarea
returns-in-Rcdata-Textarea c = ends_in c.args.state.now _ _ _ textarea_ends (search rules)
