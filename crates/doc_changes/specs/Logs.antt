-- What a document did while a log was kept of it.
use Rattle.std.specs.Prelude.{◌≡◌, Bool, true, List, ◌++◌, fold, if◌then◌else◌}
use Rattle.standard.specs.Act.{Doc}
use Rattle.doc_changes.specs.declared.change.Change.{Change}
use Rattle.doc_changes.specs.Changes.{changed}

-- whether it is kept, and the changes, in order
pub record LogView : Type 0 where
  pub on : Bool
  pub list : List Change

-- with these behind them, where they are kept
abbrev pub with_more : List Change → LogView → LogView
with_more more log = if log.on then record log { list = log.list ++ more } else log

-- the log gains changes that lead from the one document to the other
pub record Gains (log : LogView) (d : Doc) (log' : LogView) (d' : Doc) : Type 0 where
  pub more : List Change
  pub list : log'.list ≡ log.list ++ more
  pub leads : fold changed d more ≡ d'

-- the same where it is kept
pub record Logs (log : LogView) (d : Doc) (log' : LogView) (d' : Doc) : Type 0 where
  pub on : log'.on ≡ log.on
  pub gains : log.on ≡ true → Gains log d log' d'
