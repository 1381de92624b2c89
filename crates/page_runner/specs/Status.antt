-- The exit status of the program.
use Rattle.std.specs.Prelude.{ℕ}
use Rattle.page_runner.specs.declared.status.Status.{Status}
use Rattle.page_runner.specs.declared.status.Status.TheVariants as status

abbrev pub exit_of : Status → ℕ
exit_of status.Done = 0
exit_of status.Usage = 2
exit_of status.Entities = 3
exit_of status.BadUtf8 = 4
exit_of (status.Limit which) = 5
exit_of status.ReadFault = 7
exit_of status.WriteFault = 8
exit_of status.Absent = 9
exit_of status.List = 11
exit_of status.NoMemory = 12
