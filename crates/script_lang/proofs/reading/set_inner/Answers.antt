use Rattle.std.proofs.Common.{sym, ap, ◌∙◌, option_map}
use Rattle.std.specs.Str.{chars}
use Rattle.serial.specs.declared.script.Statement.TheVariants.{SetInner}
use Rattle.script_lang.specs.Parts.{parted}
use Rattle.script_lang.proofs.Fronts.{strings-no_first, strings-no_second, strings-whole}
use Rattle.script_lang.proofs.reading.set_inner.Goals as goal

pub returns-in_default : goal.returns-in_default
unfolding chars
returns-in_default c = strings-no_first SetInner "document.getElementById(" ").innerHTML = " ";" _ (sym (ap (option_map parted) c.in_default.is) ∙ c.in_ok-first.ensures)

pub returns-in-Some-2 : goal.returns-in-Some-2
unfolding chars
returns-in-Some-2 c =
    let first = sym (ap (option_map parted) c.in-Some.is) ∙ c.in_ok-first.ensures in
    strings-whole SetInner "document.getElementById(" ").innerHTML = " ";" _ _ _ first _ _ (sym (ap (option_map parted) c.in-Some-2.is) ∙ c.in_ok-second.ensures)

pub returns-in-None : goal.returns-in-None
unfolding chars
returns-in-None c =
    let first = sym (ap (option_map parted) c.in-Some.is) ∙ c.in_ok-first.ensures in
    strings-no_second SetInner "document.getElementById(" ").innerHTML = " ";" _ _ _ first (sym (ap (option_map parted) c.in-None.is) ∙ c.in_ok-second.ensures)
