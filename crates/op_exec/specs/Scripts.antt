-- How a script runs.
use Rattle.standard.specs.Prepare.{Prepared, still, inline, external}
use Rattle.op_exec.specs.declared.script.ScriptKind.{ScriptKind}
use Rattle.op_exec.specs.declared.script.ScriptKind.TheVariants.{Still, Inline, External}

abbrev pub script_kind : Prepared → ScriptKind
script_kind still = Still
script_kind (inline text) = Inline
script_kind (external src) = External
