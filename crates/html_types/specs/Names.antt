-- The names of elements.
use Rattle.std.specs.Prelude.{◌≡◌, ℕ, Bool, false, List, [], ◌∷◌, Option, None, Some, IsTrue, ◌&&◌, if◌then◌else◌, slice_get}
use Rattle.std.specs.List.{list_any}
use denote.Enum.Bare.{sameb}
use Rattle.html_types.specs.Text.{same_text}
use Rattle.html_types.specs.Words.{word_text, words, same_word}
use Rattle.html_types.specs.declared.word.Word.{Word}
use Rattle.html_types.specs.contracts.name.Space.{the_type}
use Rattle.html_types.specs.declared.name.Space.{Space}
use Rattle.html_types.specs.declared.name.Space.TheVariants.{Html}
use Rattle.html_types.specs.declared.name.Name.{Name}
use Rattle.html_types.specs.declared.name.Name.TheVariants.{Known, Other}

-- the first of the words whose text it is
abbrev pub word_among : List Word → List ℕ → Option Word
word_among [] t = None
word_among (w ∷ ws) t = if same_text t (word_text w) then Some w else word_among ws t

-- the word that is written so
abbrev pub known_word : List ℕ → Option Word
known_word = word_among words

-- These have all words that begin with the letter.
abbrev pub HasAllFrom : ℕ → List Word → Type 0
HasAllFrom letter ws = (w : Word) → slice_get (word_text w) 0 ≡ Some letter → IsTrue (list_any (same_word w) ws)

-- the word's name, and else a name of its own
abbrev pub name_from : Option Word → List ℕ → Name
name_from (Some w) t = Known w
name_from None t = Other Html t

-- the HTML name that is written so
abbrev pub name_of : List ℕ → Name
name_of t = name_from (known_word t) t

-- Each word is known by its text.
abbrev pub NamesAreKnown : Type 0
NamesAreKnown = (w : Word) → name_of (word_text w) ≡ Known w

-- the name as it is written, without its namespace
abbrev pub name_text : Name → List ℕ
name_text (Known w) = word_text w
name_text (Other s t) = t

abbrev pub space_of : Name → Space
space_of (Known w) = Html
space_of (Other s t) = s

abbrev pub same_space : Space → Space → Bool
same_space r s = sameb the_type r s

abbrev pub same_name : Name → Name → Bool
same_name (Known a) (Known b) = same_word a b
same_name (Known a) (Other s t) = false
same_name (Other r t) (Known b) = false
same_name (Other r t) (Other s u) = same_space r s && same_text t u
