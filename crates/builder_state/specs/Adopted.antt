-- Whether the token is to go by "any other end tag" behind the adoption agency algorithm.
use Rattle.std.specs.Prelude.{Bool, true, false}
use Rattle.builder_state.specs.declared.state.Adopted.{Adopted}
use Rattle.builder_state.specs.declared.state.Adopted.TheVariants.{Done, Other}

abbrev pub is_other : Adopted → Bool
is_other Done = false
is_other Other = true
