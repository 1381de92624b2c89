-- Failures as statuses.
use Rattle.std.specs.Prelude.{ℕ}
use Rattle.html_types.specs.declared.ending.Why.{Why}
use Rattle.html_types.specs.declared.ending.Why.TheVariants as why
use Rattle.entity_table.specs.declared.table.TableFault.{TableFault}
use Rattle.entity_table.specs.declared.table.TableFault.TheVariants as table
use Rattle.parse_machine.specs.declared.end.End.{End}
use Rattle.parse_machine.specs.declared.end.End.TheVariants as end
use Rattle.html_document.specs.declared.refused.Refused.{Refused}
use Rattle.html_document.specs.declared.refused.Refused.TheVariants as refused
use Rattle.specparse_c.specs.declared.failure.Failure.{Failure}
use Rattle.specparse_c.specs.declared.failure.Failure.TheVariants as failure

abbrev pub status_of : Failure → ℕ
status_of failure.Context = 2
status_of failure.Entities = 3
status_of failure.BadUtf8 = 4
status_of failure.Limit = 5
status_of failure.NoMemory = 12

-- of a parse that is refused for that
abbrev pub failure_by : Why → Failure
failure_by why.BadUtf8 = failure.BadUtf8
failure_by _ = failure.Limit

abbrev pub failure_of : Refused → Failure
failure_of refused.NoMemory = failure.NoMemory
failure_of (refused.Parse w) = failure_by w

-- of entities that aren't read
abbrev pub failure_at : TableFault → Failure
failure_at table.NotTable = failure.Entities
failure_at table.NoMemory = failure.NoMemory

-- of a page that was run
abbrev pub status_told : End → ℕ
status_told end.Finished = 0
status_told (end.Refused w) = status_of (failure_by w)
