-- Worked pages with external scripts, by computation.
use Rattle.std.proofs.Common.{◌≡◌, ℕ, true, false, List, [], ◌∷◌, Option, refl, codes}
use Prim.Native.String.{String}
use Rattle.std.specs.Prelude.{encode_utf8_all}
use Rattle.html_types.specs.Text.{same_text}
use Rattle.html_types.specs.declared.ending.Ending.{Ending}
use Rattle.html_types.specs.declared.ending.Ending.TheVariants as ending
use Rattle.serial.specs.Scripts.{Fetched, got, missing, faulted, is_lawful}
use Rattle.standard_examples.proofs.OnLiterals.{serial_on_literals}
use Rattle.standard_examples.proofs.Rows.{written_in, wants, times}

-- ---- names

a_name : is_lawful (codes "a.B-_9") ≡ true
unfolding is_lawful
a_name = refl

no_name : is_lawful [] ≡ false
unfolding is_lawful
no_name = refl

a_name_with_a_dot_in_front : is_lawful (codes ".a") ≡ false
unfolding is_lawful
a_name_with_a_dot_in_front = refl

a_name_in_a_folder : is_lawful (codes "a/b") ≡ false
unfolding is_lawful
a_name_in_a_folder = refl

a_name_beyond_ascii : is_lawful (codes "é") ≡ false
unfolding is_lawful
a_name_beyond_ascii = refl

the_longest_name : is_lawful (times 100 (codes "a")) ≡ true
unfolding is_lawful
the_longest_name = refl

a_name_that_is_too_long : is_lawful (times 101 (codes "a")) ≡ false
unfolding is_lawful
a_name_that_is_too_long = refl

-- ---- pages

abbrev Files : Type 0
Files = List (String × Fetched)

abbrev found : Files → List ℕ → Fetched
found [] name = missing
found (f ∷ fs) name = elim (same_text (codes f.0) name) [ true ↦ f.1 | false ↦ found fs name ]

-- a file with these characters
abbrev file : String → Fetched
file text = got (encode_utf8_all (codes text))

-- what is written where these are the files
abbrev written : Files → String → Ending → Option (List ℕ)
written files page ending = written_in (record { entities = []; scripts = found files }) (codes page) ending

an_external_script_in_a_written_text : written (("a", file "document.write(\"Q\");") ∷ []) "<body><script>document.write(\"<script src=\\\"a\\\"><\\/script>X\");document.write(\"Y\");</script>Z" ending.End ≡ wants "tree \"<html><head></head><body><script>document.write(\\\"<script src=\\\\\\\"a\\\\\\\"><\\\\/script>X\\\");document.write(\\\"Y\\\");</script><script src=\\\"a\\\"></script>QXYZ</body></html>\"\n"
unfolding serial_on_literals
an_external_script_in_a_written_text = refl

a_missing_script : written ([]) "<script src=\"b\"></script>" ending.End ≡ wants "miss \"b\"\ntree \"<html><head><script src=\\\"b\\\"></script></head><body></body></html>\"\n"
unfolding serial_on_literals
a_missing_script = refl

a_name_that_is_not_lawful : written (("../b", file "document.write(\"x\");") ∷ []) "<script src=\"../b\"></script>" ending.End ≡ wants "miss \"../b\"\ntree \"<html><head><script src=\\\"../b\\\"></script></head><body></body></html>\"\n"
unfolding serial_on_literals
a_name_that_is_not_lawful = refl

a_file_that_is_not_utf_8 : written (("a", got (0xFF ∷ [])) ∷ []) "<script src=\"a\"></script>" ending.End ≡ wants "syntax 1\ntree \"<html><head><script src=\\\"a\\\"></script></head><body></body></html>\"\n"
unfolding serial_on_literals
a_file_that_is_not_utf_8 = refl

a_faulted_file : written (("a", faulted) ∷ []) "<p>x<script src=\"a\"></script>y" ending.End ≡ wants ""
unfolding serial_on_literals
a_faulted_file = refl

an_empty_file : written (("a", file "") ∷ []) "<script src=\"a\"></script><script>foo();</script>" ending.End ≡ wants "syntax 2\ntree \"<html><head><script src=\\\"a\\\"></script><script>foo();</script></head><body></body></html>\"\n"
unfolding serial_on_literals
an_empty_file = refl

a_byte_order_mark : written (("a", got (0xEF ∷ 0xBB ∷ 0xBF ∷ codes "document.write(\"x\");")) ∷ []) "<body><script src=\"a\"></script>y" ending.End ≡ wants "tree \"<html><head></head><body><script src=\\\"a\\\"></script>xy</body></html>\"\n"
unfolding serial_on_literals
a_byte_order_mark = refl

a_file_that_writes_itself : written (("a", file "document.write(\"<script src=\\\"b\\\"><\\/script>x\");") ∷ ("b", file "document.write(\"y\");") ∷ []) "<body><script src=\"a\"></script>z" ending.End ≡ wants "tree \"<html><head></head><body><script src=\\\"a\\\"></script><script src=\\\"b\\\"></script>yxz</body></html>\"\n"
unfolding serial_on_literals
a_file_that_writes_itself = refl

a_file_reads_the_page : written (("a", file "console.log(document.getElementById(\"p\").outerHTML);") ∷ []) "<p id=p>x<script src=\"a\"></script>y" ending.End ≡ wants "log 1 \"<p id=\\\"p\\\">x<script src=\\\"a\\\"></script></p>\"\ntree \"<html><head></head><body><p id=\\\"p\\\">x<script src=\\\"a\\\"></script>y</p></body></html>\"\n"
unfolding serial_on_literals
a_file_reads_the_page = refl

a_pending_script_stops_the_parser : written (("b", file "document.write(\"1\");") ∷ ("c", file "foo();") ∷ []) "<p id=p><script>document.write(\"<script src=\\\"b\\\"><\\/script>x<script src=\\\"c\\\"><\\/script>y\");console.log(document.getElementById(\"p\").outerHTML);</script>z" ending.End ≡ wants "log 1 \"<p id=\\\"p\\\"><script>document.write(\\\"<script src=\\\\\\\"b\\\\\\\"><\\\\/script>x<script src=\\\\\\\"c\\\\\\\"><\\\\/script>y\\\");console.log(document.getElementById(\\\"p\\\").outerHTML);</script><script src=\\\"b\\\"></script></p>\"\nsyntax 3\ntree \"<html><head></head><body><p id=\\\"p\\\"><script>document.write(\\\"<script src=\\\\\\\"b\\\\\\\"><\\\\/script>x<script src=\\\\\\\"c\\\\\\\"><\\\\/script>y\\\");console.log(document.getElementById(\\\"p\\\").outerHTML);</script><script src=\\\"b\\\"></script>1x<script src=\\\"c\\\"></script>yz</p></body></html>\"\n"
unfolding serial_on_literals
a_pending_script_stops_the_parser = refl

a_script_that_is_deferred : written (("a", file "foo();") ∷ []) "<script defer src=a></script>x" ending.End ≡ wants "tree \"<html><head><script defer=\\\"\\\" src=\\\"a\\\"></script></head><body>x</body></html>\"\n"
unfolding serial_on_literals
a_script_that_is_deferred = refl
