use Rattle.std.proofs.Common.{Some, None, sym, ap, ◌∙◌, option_map}
use Rattle.script_lang.specs.Parts.{parted}
use Rattle.script_lang.proofs.Words.{behind-stripped}
use Rattle.script_lang.proofs.Fronts.{string_between-no_front, string_between-no_string, string_between-no_end, string_between-whole}
use Rattle.script_lang.proofs.reading.string_between.Goals as goal

pub returns-in_default : goal.returns-in_default
returns-in_default c = string_between-no_front _ _ _ (behind-stripped _ _ None c.utf8.before c.utf8.text c.in_default.ensures.cases)

pub returns-in_default-2 : goal.returns-in_default-2
returns-in_default-2 c =
    let front = behind-stripped _ _ (Some c.in-Some.at_string) c.utf8.before c.utf8.text c.in-Some.ensures.cases in
    string_between-no_string _ _ _ _ front (sym (ap (option_map parted) c.in_default-2.is) ∙ c.in_ok-value.ensures.value)

pub returns-in-Some-strip_prefix : goal.returns-in-Some-strip_prefix
returns-in-Some-strip_prefix c =
    let front = behind-stripped _ _ (Some c.in-Some.at_string) c.utf8.before c.utf8.text c.in-Some.ensures.cases in
    let string = sym (ap (option_map parted) c.in-Some-2.is) ∙ c.in_ok-value.ensures.value in
    let text = rw c.in-Some-2.is at c.in_ok-value.ensures.rest_is_text in
    let end = behind-stripped _ _ (Some c.in-Some-strip_prefix.rest) c.utf8.after text c.in-Some-strip_prefix.ensures.cases in
    string_between-whole _ _ _ _ front _ _ string _ end

pub returns-in-None : goal.returns-in-None
returns-in-None c =
    let front = behind-stripped _ _ (Some c.in-Some.at_string) c.utf8.before c.utf8.text c.in-Some.ensures.cases in
    let string = sym (ap (option_map parted) c.in-Some-2.is) ∙ c.in_ok-value.ensures.value in
    let text = rw c.in-Some-2.is at c.in_ok-value.ensures.rest_is_text in
    let end = behind-stripped _ _ None c.utf8.after text c.in-None.ensures.cases in
    string_between-no_end _ _ _ _ front _ _ string end
