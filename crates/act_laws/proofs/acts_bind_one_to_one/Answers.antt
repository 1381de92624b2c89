use Rattle.act_laws.proofs.Bindings.{NamesElements-new, NamesElements-act, NamesElements-acts, NamesElements-detached, NamesElements-appended}
use Rattle.act_laws.proofs.acts_bind_one_to_one.Goals as goal

pub returns-clause-first : goal.returns-clause-first
returns-clause-first c = NamesElements-new

pub returns-clause-one : goal.returns-clause-one
returns-clause-one c d names op bound = NamesElements-act d names op bound

pub returns-clause-all : goal.returns-clause-all
returns-clause-all c d names ops bound = NamesElements-acts d names ops bound

pub returns-clause-removal : goal.returns-clause-removal
returns-clause-removal c d names n = NamesElements-detached d n names

pub returns-clause-script_move : goal.returns-clause-script_move
returns-clause-script_move c d names p n t is = NamesElements-appended d p n t is names
