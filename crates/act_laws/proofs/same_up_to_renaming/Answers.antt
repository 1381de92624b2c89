use Rattle.act_laws.proofs.Renamed.{act-renamed, acts-renamed, move-renamed}
use Rattle.act_laws.proofs.same_up_to_renaming.Goals as goal

pub returns-clause-one : goal.returns-clause-one
returns-clause-one c r one d d' same op = act-renamed r one d d' same op

pub returns-clause-all : goal.returns-clause-all
returns-clause-all c r one d d' same ops = acts-renamed r one d d' same ops

pub returns-clause-script_move : goal.returns-clause-script_move
returns-clause-script_move c r d d' same v e t is = move-renamed r d d' same v e t is
