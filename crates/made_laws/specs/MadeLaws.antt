-- What is claimed of a page that is made from a number.
use Rattle.std.specs.Prelude.{◌≡◌, ◌≤◌, ℕ, [], codes, false, Some}
use Rattle.std.specs.Str.{IsAscii}
use Rattle.html_types.specs.declared.ending.Ending.TheVariants.{End}
use Rattle.standard.specs.Entities.{entities_of}
use Rattle.serial.specs.Page.{page_of}
use Rattle.page_maker.specs.Made.{made_page}

abbrev pub IsInAscii : Type 0
IsInAscii = (number count : ℕ) → count ≤ 50000 → IsAscii (made_page number count)

-- the bytes of a page, all of them read, and within the limit
abbrev pub IsReadAsMade : Type 0
IsReadAsMade = (number count : ℕ) → count ≤ 50000 → page_of 1073741824 (made_page number count) false ≡ record { text = made_page number count; ending = End }

abbrev pub NamesNoEntity : Type 0
NamesNoEntity = entities_of (codes "{}") ≡ Some []
