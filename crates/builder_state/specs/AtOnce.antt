-- How a row goes on behind an instruction that was done at once.
use Rattle.html_types.specs.declared.instruction.Flow.{Flow}
use Rattle.html_types.specs.declared.instruction.Flow.TheVariants as flow
use Rattle.html_types.specs.declared.instruction.Next.TheVariants as next
use Rattle.builder_state.specs.declared.at_once.AtOnce.{AtOnce}
use Rattle.builder_state.specs.declared.at_once.AtOnce.TheVariants.{On, Skip, Reprocess, Not}

abbrev pub flow_behind : AtOnce → Flow
flow_behind On = flow.On
flow_behind Skip = flow.Skip
flow_behind Reprocess = flow.Leave next.Reprocess
flow_behind Not = flow.On
