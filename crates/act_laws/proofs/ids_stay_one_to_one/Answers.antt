use Rattle.act_laws.proofs.Bindings.{BindsElements-act, BindsElements-acts, BindsElements-detached, BindsElements-appended, BindsElements-filled}
use Rattle.act_laws.proofs.ids_stay_one_to_one.Goals as goal

pub returns-clause-one : goal.returns-clause-one
returns-clause-one c d binds op bound = BindsElements-act d binds op bound

pub returns-clause-all : goal.returns-clause-all
returns-clause-all c d binds ops bound = BindsElements-acts d binds ops bound

pub returns-clause-removal : goal.returns-clause-removal
returns-clause-removal c d binds n = BindsElements-detached d n binds

pub returns-clause-script_move : goal.returns-clause-script_move
returns-clause-script_move c d binds p n t is = BindsElements-appended d p n t is binds

pub returns-clause-fragment : goal.returns-clause-fragment
returns-clause-fragment c d binds n form ops = BindsElements-filled d n form ops binds
