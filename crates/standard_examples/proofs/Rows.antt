-- Worked pages: what is written for each, by computation.
use Rattle.std.proofs.Common.{◌≡◌, ℕ, zero, suc, ◌++◌, true, false, List, [], ◌∷◌, Option, Some, option_map, refl, codes}
use Prim.Native.String.{String}
use Rattle.std.specs.Prelude.{encode_utf8_all}
use Rattle.html_types.specs.declared.ending.Ending.{Ending}
use Rattle.html_types.specs.declared.ending.Ending.TheVariants as ending
use Rattle.standard.specs.Entities.{Entities}
use Rattle.standard.specs.Instructions.{is_hidden}
use Rattle.serial.specs.Scripts.{missing}
use Rattle.serial.specs.Serial.{World, serial_with}
use Rattle.serial.specs.Output.{output}
use Rattle.standard_examples.proofs.OnLiterals.{serial_on_literals}
use Rattle.standard_examples.proofs.TokenizerRows.{some_names}

-- what is written for a page of this text and ending
abbrev pub written_in : World → List ℕ → Ending → Option (List ℕ)
written_in w text ending = option_map output (serial_with 10000 (record { text = text; ending = ending }) w)

-- these entities, and no script has a file
abbrev pub without_files : Entities → World
without_files names = record { entities = names; scripts = λ name. missing }

-- where these names are listed
abbrev pub written_with : Entities → List ℕ → Ending → Option (List ℕ)
written_with names text ending = written_in (without_files names) text ending

-- and where none is
abbrev pub written_for : List ℕ → Ending → Option (List ℕ)
written_for text ending = written_with [] text ending

abbrev pub written : String → Ending → Option (List ℕ)
written page ending = written_for (codes page) ending

abbrev pub wants : String → Option (List ℕ)
wants s = Some (encode_utf8_all (codes s))

bad_bytes_after_text : written "<p>a<script>document.write(\"b\");</script>c" ending.Bad ≡ wants "refused bad-utf8\n"
unfolding serial_on_literals
bad_bytes_after_text = refl

page_too_long : written "<p>a" ending.Long ≡ wants "refused page\n"
unfolding serial_on_literals
page_too_long = refl

fault : written "<p>a" ending.Fault ≡ wants ""
unfolding serial_on_literals
fault = refl

reference : written_with some_names (codes "<p>a&amp;c") ending.End ≡ wants "tree \"<html><head></head><body><p>a&amp;c</p></body></html>\"\n"
unfolding serial_on_literals
reference = refl

syntax_line_and_bad_bytes : written "<script>foo();</script><p>a" ending.Bad ≡ wants "syntax 1\nrefused bad-utf8\n"
unfolding serial_on_literals
syntax_line_and_bad_bytes = refl

reference_begun_by_a_write : written_with some_names (codes "<body><script>document.write(\"&am\");</script>p;") ending.End ≡ wants "tree \"<html><head></head><body><script>document.write(\\\"&am\\\");</script>&amp;</body></html>\"\n"
unfolding serial_on_literals
reference_begun_by_a_write = refl

references : written_with some_names (codes "<p title=\"&notit;&amp;x\">&notit;&#128;</p>") ending.End ≡ wants "tree \"<html><head></head><body><p title=\\\"&amp;notit;&amp;x\\\">¬it;€</p></body></html>\"\n"
unfolding serial_on_literals
references = refl

reference_in_a_title : written_with some_names (codes "<title>&lt;x</title><li>1<li>2") ending.End ≡ wants "tree \"<html><head><title>&lt;x</title></head><body><li>1</li><li>2</li></body></html>\"\n"
unfolding serial_on_literals
reference_in_a_title = refl

reference_cut_by_the_end : written_with some_names (codes "a&am") ending.End ≡ wants "tree \"<html><head></head><body>a&amp;am</body></html>\"\n"
unfolding serial_on_literals
reference_cut_by_the_end = refl

hidden_in_any_case : is_hidden (Some (codes "hIDDEN")) ≡ true
hidden_in_any_case = refl

hidden_alone : is_hidden (Some (codes "hidden ")) ≡ false
hidden_alone = refl

abbrev pub times : ℕ → List ℕ → List ℕ
times zero t = []
times (suc n) t = t ++ times n t

pub open_elements_up_to_the_limit : written_for (times 510 (codes "<div>")) ending.Bad ≡ wants "refused bad-utf8\n"
unfolding serial_on_literals
open_elements_up_to_the_limit = refl

pub one_open_element_more : written_for (times 511 (codes "<div>")) ending.Bad ≡ wants "refused depth\n"
unfolding serial_on_literals
one_open_element_more = refl

pub void_element_beyond_the_limit : written_for (times 510 (codes "<div>") ++ codes "<br>") ending.Bad ≡ wants "refused depth\n"
unfolding serial_on_literals
void_element_beyond_the_limit = refl

-- `times 600 "<div>"` behind a comment's beginning that was written: no element is opened
comment_begun_by_a_write : written_for (codes "<script>document.write(\"<!--\");</script>" ++ times 600 (codes "<div>")) ending.End
    ≡ Some (encode_utf8_all (codes "tree \"<html><head><script>document.write(\\\"<!--\\\");</script><!--" ++ times 600 (codes "<div>") ++ codes "--></head><body></body></html>\"\n"))
unfolding serial_on_literals
comment_begun_by_a_write = refl

-- ---- NUL in foreign content

nul_in_svg : written_for (codes "<svg>a" ++ 0 ∷ codes "<![CDATA[" ++ 0 ∷ codes "]]>") ending.End ≡ wants "tree \"<html><head></head><body><svg>a��</svg></body></html>\"\n"
unfolding serial_on_literals
nul_in_svg = refl

-- at an integration point it is left out
nul_in_desc : written_for (codes "<svg><desc>a" ++ 0 ∷ codes "<![CDATA[" ++ 0 ∷ codes "]]>b") ending.End ≡ wants "tree \"<html><head></head><body><svg><desc>ab</desc></svg></body></html>\"\n"
unfolding serial_on_literals
nul_in_desc = refl

-- it and white space leave a frameset possible
nul_before_a_frameset : written_for (codes "<svg> " ++ 0 ∷ codes "</svg><frameset>") ending.End ≡ wants "tree \"<html><head></head><frameset></frameset></html>\"\n"
unfolding serial_on_literals
nul_before_a_frameset = refl
