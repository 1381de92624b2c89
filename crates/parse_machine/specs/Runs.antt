-- Runs of characters, and tags, that are parsed at once.
use Rattle.std.specs.Prelude.{◌≡◌, ℕ, Bool, true, false, List, ◌∷◌, ◌++◌, length, take, drop}
use Rattle.std.specs.List.{list_any}
use Rattle.std.specs.Str.{chars}
use Rattle.html_types.specs.declared.operation.Op.{Op}
use Rattle.html_types.specs.declared.instruction.Stop.TheVariants.{InputEnd}
use Rattle.html_types.specs.declared.state.TokState.{TokState}
use Rattle.html_types.specs.declared.state.TokState.TheVariants.{Text}
use Rattle.html_types.specs.declared.state.TextState.TheVariants.{Data, Raw}
use Rattle.html_types.specs.declared.state.RawText.TheVariants.{Rcdata, Rawtext, ScriptData}
use Rattle.builder_state.specs.Texts.{TakesText}
use Rattle.standard.specs.Class.{is_mark}
use Rattle.standard.specs.Entities.{Entities}
use Rattle.standard_laws.specs.Laws.{joined}
use Rattle.standard.specs.Parser.{Parser, parse}
use Rattle.standard.specs.Step.{data_state}
use Rattle.tokenizer.specs.Reference.{IsFirst}
use Rattle.parse_machine.specs.declared.machine.Ran.{Ran}

-- no NUL, CR, `&` or `<` among them
abbrev pub ArePlain : List ℕ → Type 0
ArePlain cs = list_any is_mark cs ≡ false

-- the states that emit such characters as they are, and stay
abbrev pub reads_runs : TokState → Bool
reads_runs (Text Data) = true
reads_runs (Text (Raw Rcdata last)) = true
reads_runs (Text (Raw Rawtext last)) = true
reads_runs (Text (Raw ScriptData last)) = true
reads_runs _ = false

-- those of them that read a text up to its end tag
abbrev pub reads_raw : TokState → Bool
reads_raw (Text (Raw Rcdata last)) = true
reads_raw (Text (Raw Rawtext last)) = true
reads_raw (Text (Raw ScriptData last)) = true
reads_raw _ = false

-- The parser inserts such characters as they are.
pub record TakesRuns (p : Parser) : Type 0 where
  pub tokenizer : reads_runs p.tokenizer ≡ true
  pub after_cr : p.after_cr ≡ false
  pub builder : TakesText p.open_state

-- The characters of the text from one place to another were parsed, and the parser didn't stop.
pub record TakesRun (text : List ℕ) (from end : ℕ) (was : Parser) (before : List Op) (now : Parser) (after : List Op) : Type 0 where
  pub run : List ℕ
  pub added : List Op
  pub front : chars (take end text) ≡ chars (take from text) ++ run
  pub ops : after ≡ before ++ added
  pub parsed : (es : Entities) → parse es was run ≡ record { ops = added; parser = now; used = length run; stop = InputEnd }

-- A tag that stands whole in the text may be read at once.
pub record ReadsTags (p : Parser) : Type 0 where
  pub tokenizer : p.tokenizer ≡ data_state
  pub after_cr : p.after_cr ≡ false

abbrev pub IsSomeText : List ℕ → Type 0
IsSomeText cs = (c : ℕ) × (rest : List ℕ) × (cs ≡ c ∷ rest)

-- The characters of the text from a place to where the parser came were parsed.
pub record Takes (es : Entities) (text : List ℕ) (from : ℕ) (ran : Ran) (was : Parser) (before : List Op) (now : Parser) (after : List Op) : Type 0 where
  pub run : List ℕ
  pub some : IsSomeText run
  pub front : chars (take ran.used text) ≡ chars (take from text) ++ run
  pub ops : after ≡ before ++ (parse es was run).ops
  pub state : now ≡ (parse es was run).parser
  pub used : (parse es was run).used ≡ length run
  pub stop : ran.stop ≡ (parse es was run).stop

-- These characters insert text, though perhaps only where the next is read, which is the first of those behind them.
abbrev pub InsertsText : Entities → List ℕ → Parser → List Op → Parser → List ℕ → Type 0
InsertsText es run was added now behind = (c : ℕ) (rest : List ℕ) → IsFirst c behind → parse es was (run ++ c ∷ rest) ≡ joined (record { ops = added; parser = now; used = length run; stop = InputEnd }) (parse es now (c ∷ rest))

-- So do the characters of the text from one place to another.
pub record Inserts (es : Entities) (text : List ℕ) (from end : ℕ) (was : Parser) (before : List Op) (now : Parser) (after : List Op) : Type 0 where
  pub run : List ℕ
  pub added : List Op
  pub front : chars (take end text) ≡ chars (take from text) ++ run
  pub ops : after ≡ before ++ added
  pub parsed : InsertsText es run was added now (chars (drop end text))

-- The same, where nothing was inserted at the end of the text.
pub record Ahead (es : Entities) (text : List ℕ) (from end : ℕ) (was : Parser) (before : List Op) (now : Parser) (after : List Op) : Type 0 where
  pub inserts : Inserts es text from end was before now after
  pub at_end : end ≡ length text → from ≡ end
  pub same : end ≡ length text → now ≡ was
  pub none_added : end ≡ length text → after ≡ before
