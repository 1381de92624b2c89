-- An element pushed onto the stack of open elements, of which at most 512 are open.
use Rattle.std.specs.Prelude.{if◌then◌else◌, ◌∷◌}
use Rattle.html_types.specs.declared.open.Open.{Open}
use Rattle.html_types.specs.declared.open.OpenElement.{OpenElement}
use Rattle.standard.specs.Instructions.{room}
use Rattle.builder_state.specs.declared.state.Pushed.{Pushed}
use Rattle.builder_state.specs.declared.state.Pushed.TheVariants.{Done, Deep}

abbrev pub opened : OpenElement → Open → Open × Pushed
opened e b = if room b then (record b { stack = e ∷ b.stack }, Done) else (b, Deep)
