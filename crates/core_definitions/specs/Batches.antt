-- What the parser's side makes of the page's text, piece by piece, ahead of the document. (The
-- speculative parser of 13.2.8 #speculative-html-parsing looks ahead only for what to fetch; that
-- its work is used is this project's own.)
use Rattle.std.specs.Prelude.{ℕ, zero, suc, List, [], ◌∷◌, ◌++◌, length, take, drop, Option, Some, None}
use Rattle.html_types.specs.declared.operation.Op.{Op}
use Rattle.html_types.specs.declared.instruction.Stop.{Stop}
use Rattle.html_types.specs.declared.instruction.Stop.TheVariants as stop
use Rattle.html_types.specs.declared.instruction.Finish.{Finish}
use Rattle.html_types.specs.declared.ending.Ending.{Ending}
use Rattle.html_types.specs.declared.ending.Ending.TheVariants as ending
use Rattle.html_types.specs.declared.ending.Why.{Why}
use Rattle.html_types.specs.declared.ending.Why.TheVariants as why
use Rattle.html_types.specs.declared.instruction.Finish.TheVariants as finale
use Rattle.standard.specs.Entities.{Entities}
use Rattle.standard.specs.Parser.{Parser, Finished, finish, Parsed, parse}
use Rattle.serial.specs.Serial.{Result, finished, refused}

-- a piece of the page: some of its text, and perhaps the page's ending behind it
pub record Piece : Type 0 where
  pub text : List ℕ
  pub ending : Option Ending

abbrev pub of_text : List ℕ → Piece
of_text t = record { text = t; ending = None }

abbrev pub of_ending : Ending → Piece
of_ending e = record { text = []; ending = Some e }

-- Why a batch ends: the parser used all its text or stopped in it, or the parse is over behind
-- it, since it carries the page's ending.
pub data Halt : Type 0 where
  at : Stop → Halt
  over_with : Result → Halt

-- a text that was parsed: the parser's state before it and behind it, and the operations, none of which is executed yet
pub record Batch : Type 0 where
  pub start : Parser
  pub text : List ℕ
  pub ops : List Op
  pub after : Parser
  pub halt : Halt

abbrev pub text_batch : Parser → List ℕ → Parsed → Batch
text_batch p t r = record { start = p; text = t; ops = r.ops; after = r.parser; halt = at r.stop }

-- ---- the page's ending, which a batch of empty text carries

-- what the end of the input comes to (13.2.7 #the-end)
abbrev pub result_at : Finish → Result
result_at finale.Finished = finished
result_at finale.Deep = refused why.Depth

abbrev pub finish_batch : Parser → Finished → Batch
finish_batch p f = record { start = p; text = []; ops = f.ops; after = f.parser; halt = over_with (result_at f.finish) }

abbrev pub refusal_batch : Parser → Why → Batch
refusal_batch p w = record { start = p; text = []; ops = []; after = p; halt = over_with (refused w) }

abbrev pub end_batch : Entities → Parser → Ending → Batch
end_batch es p ending.End = finish_batch p (finish es p)
end_batch es p ending.Bad = refusal_batch p why.BadUtf8
end_batch es p ending.Long = refusal_batch p why.Page
end_batch es p ending.Fault = refusal_batch p why.Fault

-- ---- the answer to a piece

-- batches in order, and the parser's state behind them: none behind a refusal and behind the page's ending
pub record Answered : Type 0 where
  pub batches : List Batch
  pub parser : Option Parser

-- a batch, and what comes behind it: nothing where the parser was refused
abbrev pub and_behind : Batch → Stop → Answered → Answered
and_behind b stop.Deep rest = record { batches = b ∷ []; parser = None }
and_behind b _ rest = record rest { batches = b ∷ rest.batches }

-- A text, cut behind each end tag of a script and at a refusal. Each batch has a character at least, so there are at most as many
-- as characters.
unfoldable pub cut : ℕ → Entities → Parser → List ℕ → Answered
cut zero es p t = record { batches = []; parser = Some p }
cut (suc n) es p [] = record { batches = []; parser = Some p }
cut (suc n) es p (c ∷ cs) =
    let r : Parsed = parse es p (c ∷ cs) in
    and_behind (text_batch p (take r.used (c ∷ cs)) r) r.stop (cut n es r.parser (drop r.used (c ∷ cs)))

abbrev pub end_behind : Entities → Ending → List Batch → Option Parser → Answered
end_behind es e bs None = record { batches = bs; parser = None }
end_behind es e bs (Some p) = record { batches = bs ++ end_batch es p e ∷ []; parser = None }

-- the page's ending is applied behind the text, unless that was refused
abbrev pub and_ending : Entities → Option Ending → Answered → Answered
and_ending es None a = a
and_ending es (Some e) a = end_behind es e a.batches a.parser

-- what a parser makes of a piece: nothing where there is none any more
unfoldable pub answer : Entities → Option Parser → Piece → Answered
answer es None x = record { batches = []; parser = None }
answer es (Some p) x = and_ending es x.ending (cut (length x.text) es p x.text)
