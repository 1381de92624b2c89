-- The text of a batch: of each page, in the list's order, its path, what a run of that page alone writes, and the exit status of that run.
use Rattle.std.specs.Prelude.{ℕ, List, [], ◌∷◌, ◌++◌, codes, decimal}
use Rattle.std.specs.Str.{chars}
use Rattle.html_types.specs.declared.ending.Why.TheVariants as why
use Rattle.serial.specs.Serial.{Result, finished, refused, Outcome}
use Rattle.serial.specs.Output.{json_string, output}
use Rattle.page_turns.specs.Given.{Given, unmet, missing, faulted, got}

abbrev pub end_number : Result → ℕ
end_number finished = 0
end_number (refused why.BadUtf8) = 4
end_number (refused why.Depth) = 5
end_number (refused why.Writes) = 5
end_number (refused why.Page) = 5
end_number (refused why.Fault) = 7

-- of a page that isn't there, or can't be begun, too; none stands in the text of one for which memory didn't suffice
abbrev pub number_of : Given Outcome → ℕ
number_of unmet = 0
number_of missing = 9
number_of faulted = 7
number_of (got o) = end_number o.result

abbrev pub body_of : Given Outcome → List ℕ
body_of unmet = []
body_of missing = []
body_of faulted = []
body_of (got o) = output o

abbrev pub page_line : List ℕ → List ℕ
page_line path = codes "page " ++ json_string (chars path) ++ codes "\n"

abbrev pub status_line : ℕ → List ℕ
status_line number = codes "status " ++ decimal number ++ codes "\n"

abbrev pub part_of : List ℕ → Given Outcome → List ℕ
part_of path page = page_line path ++ body_of page ++ status_line (number_of page)

-- Of paths, and what came of each. It ends before a page for which memory didn't suffice.
abbrev pub batch_text : List (List ℕ) → List (Given Outcome) → List ℕ
batch_text [] pages = []
batch_text (path ∷ paths) [] = []
batch_text (path ∷ paths) (unmet ∷ pages) = []
batch_text (path ∷ paths) (missing ∷ pages) = part_of path missing ++ batch_text paths pages
batch_text (path ∷ paths) (faulted ∷ pages) = part_of path faulted ++ batch_text paths pages
batch_text (path ∷ paths) (got o ∷ pages) = part_of path (got o) ++ batch_text paths pages
