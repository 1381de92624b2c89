-- The page that a number makes, as characters, and its scripts.
use Rattle.std.specs.Prelude.{ℕ, zero, suc, ◌+◌, ◌*◌, ◌/◌, ◌%◌, ◌==◌, if◌then◌else◌, List, [], ◌∷◌, ◌++◌, codes, decimal}
use Rattle.page_maker.specs.declared.page.MadeScript.{MadeScript}

-- ---- the numbers

-- the number behind x, of 31 bits
unfoldable pub next : ℕ → ℕ
next x = (x * 1103515245 + 12345) % 2147483648

-- the number that chooses item i of the page that begins with `number`
unfoldable pub number_at : ℕ → ℕ → ℕ
number_at number zero = number
number_at number (suc i) = next (number_at number i)

-- the kind of the item that a number chooses, one of eight
unfoldable pub kind : ℕ → ℕ
kind x = (x / 65536) % 8

-- ---- the page

-- item i of a page, of kind k
unfoldable pub item : ℕ → ℕ → List ℕ
item k i =
    if k == 0 then codes "<p>" ++ decimal i
    else (if k == 1 then codes "<div>" ++ decimal i ++ codes "</div>"
    else (if k == 2 then codes "<b>" ++ decimal i ++ codes "</b>"
    else (if k == 3 then codes "<p><script>document.write(\"<i>" ++ decimal i ++ codes "</i>\");</script>"
    else (if k == 4 then codes "<p><script>document.write(\"<u>\");</script>" ++ decimal i ++ codes "</u>"
    else (if k == 5 then codes "<script src=\"e\"></script>"
    else (if k == 6 then codes "<table><tr><td>" ++ decimal i ++ codes "</table>"
    else codes "<script src=\"f\"></script>" ++ decimal i ++ codes "-->"))))))

-- items 1 to `count`
unfoldable pub items : ℕ → ℕ → List ℕ
items number zero = []
items number (suc i) = items number i ++ item (kind (number_at number (suc i))) (suc i)

-- the page of so many items
unfoldable pub made_page : ℕ → ℕ → List ℕ
made_page number count = codes "<!DOCTYPE html><body>" ++ items number count

-- ---- the scripts

abbrev pub named_script : List ℕ → List ℕ → MadeScript
named_script name text = record { name = name; text = text }

-- those that the items of kinds 5 and 7 name
abbrev pub made_scripts : List MadeScript
made_scripts = named_script (codes "e") (codes "document.write(\"<br>\");") ∷ named_script (codes "f") (codes "document.write(\"<!--\");") ∷ []
