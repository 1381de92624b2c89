-- The characters of the texts that the code adds: they are ASCII.
use Rattle.std.proofs.Common.{◌≡◌, ◌<◌, ◌^◌, ℕ, refl, arith}
use Rattle.std.specs.Prelude.{codes, decimal}
use Rattle.std.specs.Str.{chars}
use Rattle.std.proofs.lemmas.Str.{chars-IsAscii}
use Rattle.std.proofs.lemmas.Fmt.{IsAscii-decimal}

pub number_text : (n : ℕ) → n < 2 ^ 32 → chars (decimal n) ≡ decimal n
number_text n small = chars-IsAscii (decimal n) (IsAscii-decimal n (omega arith))

pub nothing : chars (codes "") ≡ codes ""
unfolding chars
nothing = refl

pub paragraph : chars (codes "<p>") ≡ codes "<p>"
unfolding chars
paragraph = refl

pub division : chars (codes "<div>") ≡ codes "<div>"
unfolding chars
division = refl

pub division_end : chars (codes "</div>") ≡ codes "</div>"
unfolding chars
division_end = refl

pub bold : chars (codes "<b>") ≡ codes "<b>"
unfolding chars
bold = refl

pub bold_end : chars (codes "</b>") ≡ codes "</b>"
unfolding chars
bold_end = refl

pub written_italic : chars (codes "<p><script>document.write(\"<i>") ≡ codes "<p><script>document.write(\"<i>"
unfolding chars
written_italic = refl

pub written_italic_end : chars (codes "</i>\");</script>") ≡ codes "</i>\");</script>"
unfolding chars
written_italic_end = refl

pub written_underline : chars (codes "<p><script>document.write(\"<u>\");</script>") ≡ codes "<p><script>document.write(\"<u>\");</script>"
unfolding chars
written_underline = refl

pub underline_end : chars (codes "</u>") ≡ codes "</u>"
unfolding chars
underline_end = refl

pub script_e : chars (codes "<script src=\"e\"></script>") ≡ codes "<script src=\"e\"></script>"
unfolding chars
script_e = refl

pub cell : chars (codes "<table><tr><td>") ≡ codes "<table><tr><td>"
unfolding chars
cell = refl

pub table_end : chars (codes "</table>") ≡ codes "</table>"
unfolding chars
table_end = refl

pub script_f : chars (codes "<script src=\"f\"></script>") ≡ codes "<script src=\"f\"></script>"
unfolding chars
script_f = refl

pub comment_end : chars (codes "-->") ≡ codes "-->"
unfolding chars
comment_end = refl

pub ruleset pieces = (nothing, paragraph, division, division_end, bold, bold_end, written_italic, written_italic_end, written_underline, underline_end, script_e, cell, table_end, script_f, comment_end)
