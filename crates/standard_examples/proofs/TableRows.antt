-- Worked pages with tables, templates, select and framesets: what is written for each, by computation.
use Rattle.std.proofs.Common.{◌≡◌, true, ◌∷◌, ◌++◌, [], Some, option_map, refl, codes}
use Rattle.html_types.specs.declared.ending.Ending.TheVariants as ending
use Rattle.standard.specs.Adoption.{adopt}
use Rattle.standard.specs.Rules.{adopting}
use Rattle.serial.specs.Scripts.{missing}
use Rattle.serial.specs.Serial.{serial_with}
use Rattle.serial.specs.Dump.{dump_lines}
use Rattle.serial.specs.Output.{output_with}
use Rattle.standard_examples.proofs.OnLiterals.{serial_on_literals}
use Rattle.standard_examples.proofs.Rows.{written_for, wants, times}

-- ---- tables

-- ---- foster parenting, and pending text

-- ---- captions and columns

-- ---- rows and cells

-- ---- select

-- ---- templates

-- ---- framesets

-- ---- a removed table, NUL, the limit of open elements, and a dump

nul_in_a_table : written_for (codes "<table>a" ++ 0 ∷ codes "b<select>" ++ 0 ∷ codes "c") ending.End ≡ wants "tree \"<html><head></head><body>ab<select>c</select><table></table></body></html>\"\n"
unfolding serial_on_literals adopting adopt
nul_in_a_table = refl

-- the element that is opened again for the pending text would be one too many
text_beyond_the_limit : written_for (codes "<p><b></p>" ++ times 509 (codes "<div>") ++ codes "<table>x<!---->") ending.Bad ≡ wants "refused depth\n"
unfolding serial_on_literals adopting adopt
text_beyond_the_limit = refl

nested_templates_up_to_the_limit : written_for (times 510 (codes "<template>")) ending.Bad ≡ wants "refused bad-utf8\n"
unfolding serial_on_literals adopting adopt
nested_templates_up_to_the_limit = refl

dump_of_a_template : option_map (output_with true) (serial_with 10000 (record { text = codes "<template a=b>x<i>y</i></template>"; ending = ending.End }) (record { entities = []; scripts = λ n. missing }))
    ≡ Some (codes "node 0 element \"html\"\nnode 1 element \"head\"\nnode 2 element \"template\" \"a\" \"b\"\nnode 3 contents\nnode 4 text \"x\"\nnode 4 element \"i\"\nnode 5 text \"y\"\nnode 1 element \"body\"\nend\n")
unfolding serial_on_literals adopting adopt dump_lines output_with
dump_of_a_template = refl
