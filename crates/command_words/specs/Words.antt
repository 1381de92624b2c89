-- The command's grammar, as `clap` reads it, and the values of its words.
use Rattle.std.specs.Prelude.{◌≡◌, ◌≤◌, ◌<◌, ◌^◌, ℕ, Bool, false, List, [], ◌∷◌, Option, Some, None, true, codes, unwrap_or, if◌then◌else◌}
use Rattle.std.specs.Option.{option_and_then, option_map_or}
use Rattle.std.specs.Str.{bytes_eq}
use Rattle.std.specs.Str.Parse.{digits_value, without_leading_plus}
use Rattle.std.specs.String.{string_bytes}
use Rattle.clap.specs.Walk.{Row, first_of}
use Rattle.clap.specs.Words.{App, Rule, Text, new_app, new_rule, with_rule, with_subcommand, subcommand_of}
use Rattle.clap.specs.Faults.{fault_of}
use Rattle.clap.specs.Kinds.{Kinds}
use Rattle.clap.specs.Simple.{on_top}
use Rattle.clap.specs.ValueTests.{is_unsigned_in}
use Rattle.clap.specs.declared.builder.action.ArgAction.TheVariants as actions
use Rattle.clap.specs.declared.builder.value_parser.ValueParser.TheVariants as parsers
use Rattle.command_words.specs.declared.words.PageWords.{PageWords}
use Rattle.command_words.specs.declared.words.MakeWords.{MakeWords}
use Rattle.command_words.specs.declared.words.BatchWords.{BatchWords}
use Rattle.command_words.specs.declared.words.CommandWords.{CommandWords}
use Rattle.command_words.specs.declared.words.CommandWords.TheVariants as words

-- an option that takes a number from this to that
abbrev pub number_option : List ℕ → ℕ → ℕ → Rule
number_option name least most = record (new_rule name) { long = Some name; parser = Some (parsers.Unsigned least most) }

-- an option that takes none
abbrev pub flag : List ℕ → Rule
flag name = record (new_rule name) { long = Some name; action = Some actions.SetTrue }

abbrev pub required : List ℕ → Rule
required name = record (new_rule name) { required = true }

-- one that takes a number from this to that
abbrev pub required_number : List ℕ → ℕ → ℕ → Rule
required_number name least most = record (new_rule name) { required = true; parser = Some (parsers.Unsigned least most) }

-- page [--piece N] [--ahead K] [--preload N] [--dump] [--watch N] PAGE DIR ENTITIES
abbrev pub page_command : App
page_command = with_rule (with_rule (with_rule (with_rule (with_rule (with_rule (with_rule (with_rule (new_app (codes "page"))
    (number_option (codes "piece") 1 65536))
    (number_option (codes "ahead") 1 64))
    (number_option (codes "preload") 0 8))
    (flag (codes "dump")))
    (number_option (codes "watch") 0 8))
    (required (codes "PAGE")))
    (required (codes "DIR")))
    (required (codes "ENTITIES"))

-- make NUMBER COUNT
abbrev pub make_command : App
make_command = with_rule (with_rule (new_app (codes "make"))
    (required_number (codes "NUMBER") 0 2147483647))
    (required_number (codes "COUNT") 1 50000)

-- batch LIST DIR ENTITIES
abbrev pub batch_command : App
batch_command = with_rule (with_rule (with_rule (new_app (codes "batch"))
    (required (codes "LIST")))
    (required (codes "DIR")))
    (required (codes "ENTITIES"))

abbrev pub specparse : App
specparse = with_subcommand (with_subcommand (with_subcommand (on_top (λ s. record s { subcommand_required = true }) (new_app (codes "specparse")))
    page_command.top) make_command.top) batch_command.top

-- the words, the program's name first, are in the grammar
abbrev pub AreInGrammar : List Text → Type 0
AreInGrammar words = fault_of specparse words ≡ []

-- the value of an argument, among those of the subcommand that the words name
abbrev pub value_of : Text → Option (Text × List Row) → Option Text
value_of name = option_and_then (λ sub. first_of name sub.1)

-- the text of an argument; the grammar requires one
abbrev pub text_from : Option Text → List ℕ
text_from value = unwrap_or value []

-- the number of an argument, from the first to the second, and where it isn't given the third; the grammar takes no other text than such a
-- number
abbrev pub number_from : ℕ → ℕ → ℕ → Option Text → ℕ
number_from least most otherwise = λ value. option_map_or (λ text.
    if is_unsigned_in least most text then digits_value 10 (without_leading_plus text) else otherwise) value otherwise

-- whether a flag is given: its text is "true" then, and else "false"
abbrev pub flag_from : Option Text → Bool
flag_from value = bytes_eq (text_from value) (codes "true")

-- what the words of the command `page` ask for
pub record PageAsked : Type 0 where
  pub page : List ℕ
  pub dir : List ℕ
  pub entities : List ℕ
  pub piece : ℕ
  pub ahead : ℕ
  pub preload : ℕ
  pub dump : Bool
  -- so many watch the tree while it grows
  pub watch : ℕ

-- what the words of the command `batch` ask for
pub record BatchAsked : Type 0 where
  pub list : List ℕ
  pub dir : List ℕ
  pub entities : List ℕ

-- what the words ask for: that a page is parsed, that one is made, or that the pages of a list are parsed
pub data Asked : Type 0 where
  for_page : PageAsked → Asked
  for_make : MakeWords → Asked
  for_batch : BatchAsked → Asked

abbrev pub page_asked : Option (Text × List Row) → PageAsked
page_asked sub = record {
  page = text_from (value_of (codes "PAGE") sub);
  dir = text_from (value_of (codes "DIR") sub);
  entities = text_from (value_of (codes "ENTITIES") sub);
  piece = number_from 1 65536 4096 (value_of (codes "piece") sub);
  ahead = number_from 1 64 8 (value_of (codes "ahead") sub);
  preload = number_from 0 8 0 (value_of (codes "preload") sub);
  dump = flag_from (value_of (codes "dump") sub);
  watch = number_from 0 8 0 (value_of (codes "watch") sub);
}

abbrev pub make_asked : Option (Text × List Row) → MakeWords
make_asked sub = record {
  number = number_from 0 2147483647 0 (value_of (codes "NUMBER") sub);
  count = number_from 1 50000 1 (value_of (codes "COUNT") sub);
}

abbrev pub batch_asked : Option (Text × List Row) → BatchAsked
batch_asked sub = record {
  list = text_from (value_of (codes "LIST") sub);
  dir = text_from (value_of (codes "DIR") sub);
  entities = text_from (value_of (codes "ENTITIES") sub);
}

-- whether the command `make` is named
abbrev pub is_make : Option (Text × List Row) → Bool
is_make None = false
is_make (Some sub) = bytes_eq sub.0 (codes "make")

-- whether the command `batch` is named
abbrev pub is_batch : Option (Text × List Row) → Bool
is_batch None = false
is_batch (Some sub) = bytes_eq sub.0 (codes "batch")

abbrev pub asked_by : Option (Text × List Row) → Asked
asked_by sub = if is_make sub then for_make (make_asked sub) else (if is_batch sub then for_batch (batch_asked sub) else for_page (page_asked sub))

abbrev pub where_none : {A : Type 0} → Kinds → A → Option A
where_none [] a = Some a
where_none (fault ∷ faults) a = None

-- what words ask for, where they are in the grammar
abbrev pub asked : List Text → Option Asked
asked words = where_none (fault_of specparse words) (asked_by (subcommand_of specparse words))

abbrev pub shown : PageWords → PageAsked
shown read = record {
  page = string_bytes read.page;
  dir = string_bytes read.dir;
  entities = string_bytes read.entities;
  piece = read.piece;
  ahead = read.ahead;
  preload = read.preload;
  dump = read.dump;
  watch = read.watch;
}

abbrev pub batch_shown : BatchWords → BatchAsked
batch_shown read = record { list = string_bytes read.list; dir = string_bytes read.dir; entities = string_bytes read.entities }

abbrev pub asked_for : CommandWords → Asked
asked_for (words.Page read) = for_page (shown read)
asked_for (words.Make read) = for_make read
asked_for (words.Batch read) = for_batch (batch_shown read)

-- the numbers are those that the grammar takes
abbrev pub AreWithin : CommandWords → Type 0
AreWithin (words.Page read) = (1 ≤ read.piece) × (read.piece ≤ 65536) × (1 ≤ read.ahead) × (read.ahead ≤ 64) × (read.preload ≤ 8) × (read.watch ≤ 8)
AreWithin (words.Make read) = (read.number < 2 ^ 31) × (1 ≤ read.count) × (read.count ≤ 50000)
AreWithin (words.Batch read) = Unit {0}
