use Rattle.std.proofs.Common.{◌≡◌, length}
use Rattle.std.specs.Str.{chars}
use Rattle.core_pair.specs.Files.{files_of}
use Rattle.core_steps.specs.Journals.{found}
use Rattle.core_pair.proofs.scripts.find_in.Given as goal

abbrev pub invariant-files : goal.invariant-files
invariant-files l = found (chars l.name) (files_of l.rest) ≡ found (chars l.name) (files_of l.files)

abbrev pub decreases-files : goal.decreases-files
decreases-files l = length l.rest
