-- Worked pages whose scripts write scripts, remove and move elements and read them, by computation.
use Rattle.std.proofs.Common.{◌≡◌, ℕ, true, [], ◌∷◌, option_map, refl, codes}
use Rattle.html_types.specs.declared.ending.Ending.TheVariants as ending
use Rattle.serial.specs.declared.script.Statement.TheVariants as statement
use Rattle.html_types.specs.declared.ending.Why.TheVariants as why
use Rattle.serial.specs.Serial.{Serial, first, Course, goes, refuses, starved, execute, run_statements, serial_with}
use Rattle.serial.specs.Dump.{dump_lines}
use Rattle.serial.specs.Output.{output_with}
use Rattle.standard_examples.proofs.OnLiterals.{serial_on_literals}
use Rattle.standard_examples.proofs.Rows.{without_files, written, wants}

a_reading_before_bad_bytes : written "<script>console.log(document.documentElement.outerHTML);</script>" ending.Bad ≡ wants "log 1 \"<html><head><script>console.log(document.documentElement.outerHTML);</script></head></html>\"\nrefused bad-utf8\n"
unfolding serial_on_literals
a_reading_before_bad_bytes = refl

a_written_comment_before_bad_bytes : written "<script>document.write(\"<!--\");</script>" ending.Bad ≡ wants "refused bad-utf8\n"
unfolding serial_on_literals
a_written_comment_before_bad_bytes = refl

-- its dump
a_script_that_removed_itself : option_map (output_with true) (serial_with 10000 (record { text = codes "<body>a<script id=\"s\">document.getElementById(\"s\").remove();</script>b"; ending = ending.End }) (without_files []))
    ≡ wants "node 0 element \"html\"\nnode 1 element \"head\"\nnode 1 element \"body\"\nnode 2 text \"ab\"\nend\n"
unfolding serial_on_literals dump_lines output_with
a_script_that_removed_itself = refl

-- texts that come to stand side by side stay two
texts_beside_a_moved_element : option_map (output_with true) (serial_with 10000 (record { text = codes "<body>a<x id=\"k\">b</x>c<div id=\"d\"></div><script>document.getElementById(\"d\").append(document.getElementById(\"k\"));</script>"; ending = ending.End }) (without_files []))
    ≡ wants "node 0 element \"html\"\nnode 1 element \"head\"\nnode 1 element \"body\"\nnode 2 text \"a\"\nnode 2 text \"c\"\nnode 2 element \"div\" \"id\" \"d\"\nnode 3 element \"x\" \"id\" \"k\"\nnode 4 text \"b\"\nnode 2 element \"script\"\nnode 3 text \"document.getElementById(\\\"d\\\").append(document.getElementById(\\\"k\\\"));\"\nend\n"
unfolding serial_on_literals dump_lines output_with
texts_beside_a_moved_element = refl

-- a template's contents come before its own children
a_template_with_children : option_map (output_with true) (serial_with 10000 (record { text = codes "<body><template id=\"k\">c</template><table id=\"t\"><script>document.getElementById(\"k\").append(document.getElementById(\"t\"));</script>x"; ending = ending.End }) (without_files []))
    ≡ wants "node 0 element \"html\"\nnode 1 element \"head\"\nnode 1 element \"body\"\nnode 2 element \"template\" \"id\" \"k\"\nnode 3 contents\nnode 4 text \"cx\"\nnode 3 element \"table\" \"id\" \"t\"\nnode 4 element \"script\"\nnode 5 text \"document.getElementById(\\\"k\\\").append(document.getElementById(\\\"t\\\"));\"\nend\n"
unfolding serial_on_literals dump_lines output_with
a_template_with_children = refl

-- one character more may be written
abbrev full : Serial
full =
    let s : Serial = first (record { text = []; ending = ending.End }) in
    record s { side = record s.side { written = 1048575 } }

-- a line's feed counts, and where it is too much nothing is written
a_line_too_long : run_statements 9 (without_files []) 1 (statement.WriteLine (codes "a") ∷ []) full ≡ refuses why.Writes full
unfolding execute
a_line_too_long = refl

abbrev has_written : Course → ℕ
has_written (goes s) = s.side.written
has_written (refuses w s) = 0
has_written starved = 0

an_empty_line_that_fits : has_written (run_statements 9 (without_files []) 1 (statement.WriteLine [] ∷ []) full) ≡ 1048576
unfolding serial_on_literals
an_empty_line_that_fits = refl
