use Rattle.std.proofs.Common.{Some, None, sym, ap, ◌∙◌, option_map}
use Rattle.std.specs.Str.{chars}
use Rattle.script_lang.specs.Parts.{parted}
use Rattle.script_lang.proofs.Fronts.{statement-write, statement-write_line, statement-remove, statement-append, statement-set_inner, statement-log_by_id, statement-log_root, statement-none, log_root-stripped}
use Rattle.script_lang.proofs.reading.statement.Goals as goal

pub returns-in-Some : goal.returns-in-Some
unfolding chars
returns-in-Some c = statement-write _ _ _ (sym (ap (option_map parted) c.in-Some.is) ∙ c.in_ok-value.ensures)

pub returns-in-Some-2 : goal.returns-in-Some-2
unfolding chars
returns-in-Some-2 c =
    let no_write = sym (ap (option_map parted) c.in_default.is) ∙ c.in_ok-value.ensures in
    statement-write_line _ no_write _ _ (sym (ap (option_map parted) c.in-Some-2.is) ∙ c.in_ok-value-2.ensures)

pub returns-in-Some-3 : goal.returns-in-Some-3
unfolding chars
returns-in-Some-3 c =
    let no_write = sym (ap (option_map parted) c.in_default.is) ∙ c.in_ok-value.ensures in
    let no_line = sym (ap (option_map parted) c.in_default-2.is) ∙ c.in_ok-value-2.ensures in
    statement-remove _ no_write no_line _ _ (sym (ap (option_map parted) c.in-Some-3.is) ∙ c.in_ok-value-3.ensures)

pub returns-in-Some-4 : goal.returns-in-Some-4
unfolding chars
returns-in-Some-4 c =
    let no_write = sym (ap (option_map parted) c.in_default.is) ∙ c.in_ok-value.ensures in
    let no_line = sym (ap (option_map parted) c.in_default-2.is) ∙ c.in_ok-value-2.ensures in
    let no_remove = sym (ap (option_map parted) c.in_default-3.is) ∙ c.in_ok-value-3.ensures in
    statement-append _ no_write no_line no_remove _ (sym (ap (option_map parted) c.in-Some-4.is) ∙ c.in_ok-moved.ensures)

pub returns-in-Some-5 : goal.returns-in-Some-5
unfolding chars
returns-in-Some-5 c =
    let no_write = sym (ap (option_map parted) c.in_default.is) ∙ c.in_ok-value.ensures in
    let no_line = sym (ap (option_map parted) c.in_default-2.is) ∙ c.in_ok-value-2.ensures in
    let no_remove = sym (ap (option_map parted) c.in_default-3.is) ∙ c.in_ok-value-3.ensures in
    let no_append = sym (ap (option_map parted) c.in_default-4.is) ∙ c.in_ok-moved.ensures in
    statement-set_inner _ no_write no_line no_remove no_append _ (sym (ap (option_map parted) c.in-Some-5.is) ∙ c.in_ok-set.ensures)

pub returns-in-Some-6 : goal.returns-in-Some-6
unfolding chars
returns-in-Some-6 c =
    let no_write = sym (ap (option_map parted) c.in_default.is) ∙ c.in_ok-value.ensures in
    let no_line = sym (ap (option_map parted) c.in_default-2.is) ∙ c.in_ok-value-2.ensures in
    let no_remove = sym (ap (option_map parted) c.in_default-3.is) ∙ c.in_ok-value-3.ensures in
    let no_append = sym (ap (option_map parted) c.in_default-4.is) ∙ c.in_ok-moved.ensures in
    let no_set = sym (ap (option_map parted) c.in_default-5.is) ∙ c.in_ok-set.ensures in
    statement-log_by_id _ no_write no_line no_remove no_append no_set _ _ (sym (ap (option_map parted) c.in-Some-6.is) ∙ c.in_ok-value-4.ensures)

pub returns-in-Some-strip_prefix : goal.returns-in-Some-strip_prefix
unfolding chars
returns-in-Some-strip_prefix c =
    let no_write = sym (ap (option_map parted) c.in_default.is) ∙ c.in_ok-value.ensures in
    let no_line = sym (ap (option_map parted) c.in_default-2.is) ∙ c.in_ok-value-2.ensures in
    let no_remove = sym (ap (option_map parted) c.in_default-3.is) ∙ c.in_ok-value-3.ensures in
    let no_append = sym (ap (option_map parted) c.in_default-4.is) ∙ c.in_ok-moved.ensures in
    let no_set = sym (ap (option_map parted) c.in_default-5.is) ∙ c.in_ok-set.ensures in
    let no_log = sym (ap (option_map parted) c.in_default-6.is) ∙ c.in_ok-value-4.ensures in
    statement-log_root _ no_write no_line no_remove no_append no_set no_log _ (log_root-stripped _ (Some c.in-Some-strip_prefix.rest) c.utf8.text c.in-Some-strip_prefix.ensures.cases)

pub returns-in-None : goal.returns-in-None
unfolding chars
returns-in-None c =
    let no_write = sym (ap (option_map parted) c.in_default.is) ∙ c.in_ok-value.ensures in
    let no_line = sym (ap (option_map parted) c.in_default-2.is) ∙ c.in_ok-value-2.ensures in
    let no_remove = sym (ap (option_map parted) c.in_default-3.is) ∙ c.in_ok-value-3.ensures in
    let no_append = sym (ap (option_map parted) c.in_default-4.is) ∙ c.in_ok-moved.ensures in
    let no_set = sym (ap (option_map parted) c.in_default-5.is) ∙ c.in_ok-set.ensures in
    let no_log = sym (ap (option_map parted) c.in_default-6.is) ∙ c.in_ok-value-4.ensures in
    statement-none _ no_write no_line no_remove no_append no_set no_log (log_root-stripped _ None c.utf8.text c.in-None.ensures.cases)
