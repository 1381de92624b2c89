use Rattle.standard_laws.proofs.Frames.{still-tag, external-tag, inline-tag}
use Rattle.standard_laws.proofs.nested_script_begins.Goals as goal

pub returns-clause-still : goal.returns-clause-still
returns-clause-still c = still-tag

pub returns-clause-external : goal.returns-clause-external
returns-clause-external c = external-tag

pub returns-clause-inline : goal.returns-clause-inline
returns-clause-inline c = inline-tag
