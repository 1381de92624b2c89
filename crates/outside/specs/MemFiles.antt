-- What contracts see of files in memory with calls that fail.
use Rattle.std.specs.Prelude.{ℕ, ◌+◌, ◌-◌, ◌^◌, min, Bool, List}
use Rattle.outside.specs.ByPort.{at_port}
use Rattle.outside.specs.Outside.{Files, Paths, Calls, Seen}
use Rattle.outside.specs.Memory.{files_of, left_of, begun_of, calls_of, open_of, absences_of, seen_with}
use Rattle.outside.specs.declared.traits.Port.{Port}
use Rattle.outside.specs.declared.mem_files.MemFiles.{MemFiles}

abbrev pub files_in : MemFiles → Files
files_in all = files_of all.files

abbrev pub left_in : MemFiles → Port → List ℕ
left_in all = left_of all.files

abbrev pub begun_in : MemFiles → Port → Paths
begun_in all = begun_of all.files

abbrev pub calls_in : MemFiles → Port → Calls
calls_in all = calls_of all.files

abbrev pub open_in : MemFiles → Port → Bool
open_in all = open_of all.files

abbrev pub faults_in : MemFiles → Port → ℕ
faults_in all = at_port all.faults

abbrev pub absences_in : MemFiles → Port → ℕ
absences_in all = absences_of all.files

abbrev pub shown : MemFiles → Seen
shown all = seen_with (faults_in all) all.files

-- the calls that are to fail: the port, and the call's number at that port
abbrev pub failing : MemFiles → List (Port × ℕ)
failing all = all.fail.items

-- the number of the next call at a port, counted from 1; it stops at the last value of a u64
abbrev pub number_at : MemFiles → Port → ℕ
number_at all port = min (at_port all.calls port + 1) (2 ^ 64 - 1)

-- the most bytes that a read gives
abbrev pub most_in : MemFiles → ℕ
most_in all = all.most
