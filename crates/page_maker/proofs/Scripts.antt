-- The list of scripts, as the code makes it.
use Rattle.std.proofs.Common.{◌≡◌, ◌++◌, List, [], ◌∷◌, refl}
use Rattle.std.specs.Prelude.{codes}
use Rattle.std.specs.Str.{chars}
use Rattle.page_maker.specs.declared.page.MadeScript.{MadeScript}
use Rattle.page_maker.specs.Made.{named_script, made_scripts}

pub two_scripts : (none one two : List MadeScript) (e f : MadeScript)
    → none ≡ []
    → e ≡ named_script (chars (codes "e")) (chars (codes "document.write(\"<br>\");"))
    → f ≡ named_script (chars (codes "f")) (chars (codes "document.write(\"<!--\");"))
    → one ≡ none ++ e ∷ []
    → two ≡ one ++ f ∷ []
    → two ≡ made_scripts
unfolding chars
two_scripts none one two e f none_is e_is f_is one_is two_is = rw two_is (rw one_is (rw none_is (rw e_is (rw f_is refl))))
