-- The path of a script's file.
use Rattle.std.proofs.Common.{◌≡◌, true, ℕ, List, ◌∷◌, ◌++◌, sym, ap, ◌∙◌}
use Rattle.std.specs.Str.{chars, IsUtf8}
use Rattle.serial.specs.Scripts.{is_lawful}
use Rattle.core_steps.proofs.FileLemmas.{lawful-bytes}
use Rattle.page_turns.specs.Scripts.{path_of}

pub script-path : (path dir bs : List ℕ) → IsUtf8 bs → is_lawful (chars bs) ≡ true → path ≡ dir ++ 47 ∷ bs → path ≡ path_of dir (chars bs)
script-path path dir bs utf8 lawful is = is ∙ ap (path_of dir) (sym (lawful-bytes bs utf8 lawful))
