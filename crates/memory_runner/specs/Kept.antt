-- What contracts see of a sink that keeps what it takes.
use Rattle.std.specs.Prelude.{ℕ, Bool, List}
use Rattle.memory_runner.specs.declared.keeper.Keeper.{Keeper}

abbrev pub kept : Keeper → List ℕ
kept sink = sink.bytes.items

abbrev pub faults_of : Keeper → ℕ
faults_of sink = sink.faults

abbrev pub is_clean : Keeper → Bool
is_clean sink = sink.is_clean
