-- The status of a run, by what its parse comes to.
use Rattle.html_types.specs.declared.ending.Why.TheVariants as why
use Rattle.parse_machine.specs.declared.end.End.{End}
use Rattle.parse_machine.specs.declared.end.End.TheVariants.{Finished, Refused}
use Rattle.page_runner.specs.declared.status.Limit.TheVariants as limits
use Rattle.page_runner.specs.declared.status.Status.{Status}
use Rattle.page_runner.specs.declared.status.Status.TheVariants as status

-- the status with which a run of that outcome ends
abbrev pub status_of : End → Status
status_of Finished = status.Done
status_of (Refused why.BadUtf8) = status.BadUtf8
status_of (Refused why.Depth) = status.Limit limits.Depth
status_of (Refused why.Writes) = status.Limit limits.Writes
status_of (Refused why.Page) = status.Limit limits.Page
status_of (Refused why.Fault) = status.ReadFault
