-- The parser's state (the tokenizer and the open state of tree construction), and what it makes of text. No tree is read.
use Rattle.std.specs.Prelude.{◌≡◌, ℕ, ◌==◌, Bool, true, false, ◌&&◌, List, [], ◌∷◌, ◌++◌, Option, Some, None}
use Rattle.std.proofs.Common.{suc}
use Rattle.html_types.specs.declared.word.Word.{Word}
use Rattle.html_types.specs.declared.name.Name.{Name}
use Rattle.html_types.specs.declared.name.Name.TheVariants.{Known, Other}
use Rattle.html_types.specs.declared.token.Token.{Token}
use Rattle.html_types.specs.declared.token.Token.TheVariants.{StartTag}
use Rattle.html_types.specs.declared.state.TokState.{TokState}
use Rattle.html_types.specs.declared.state.TextState.TheVariants as text_state
use Rattle.html_types.specs.declared.state.RawText.TheVariants as raw
use Rattle.html_types.specs.declared.instruction.Mode.TheVariants as mode
use Rattle.html_types.specs.declared.instruction.TokenizerSwitch.{TokenizerSwitch}
use Rattle.html_types.specs.declared.instruction.TokenizerSwitch.TheVariants.{Rcdata, Rawtext, ScriptData, Plaintext}
use Rattle.html_types.specs.declared.instruction.Next.{Next}
use Rattle.html_types.specs.declared.instruction.Next.TheVariants as next
use Rattle.html_types.specs.declared.instruction.Stop.{Stop}
use Rattle.html_types.specs.declared.instruction.Stop.TheVariants as stop
use Rattle.html_types.specs.declared.instruction.Finish.{Finish}
use Rattle.html_types.specs.declared.instruction.Finish.TheVariants as finale
use Rattle.html_types.specs.declared.operation.Op.{Op}
use Rattle.html_types.specs.declared.open.Open.{Open}
use Rattle.standard.specs.Entities.{Entities}
use Rattle.standard.specs.Step.{in_text}
use Rattle.standard.specs.Foreign.{is_foreign}
use Rattle.standard.specs.Tokenizer.{Reached, read, read_end}
use Rattle.standard.specs.Rules.{Answer, construct}

-- ---- the state

-- the open state at the beginning; its ids are of that realm
abbrev pub opening : ℕ → Open
opening realm = record {
  stack = [];
  formats = [];
  head = None;
  form = None;
  mode = mode.Initial;
  original = None;
  template_modes = [];
  pending_text = [];
  frameset_ok = true;
  quirks = false;
  skip_line_feed = false;
  foster = false;
  next = record { realm = realm; n = 0 };
  context = None;
}

pub record Parser : Type 0 where
  pub tokenizer : TokState
  -- the last character was a CR
  pub after_cr : Bool
  pub open_state : Open

abbrev pub parser : TokState → Bool → Open → Parser
parser s cr b = record { tokenizer = s; after_cr = cr; open_state = b }

abbrev pub new_parser : ℕ → Parser
new_parser realm = parser (in_text text_state.Data) false (opening realm)

-- two states are the same where all parts agree, the next id aside
abbrev pub AreSame : Parser → Parser → Type 0
AreSame p q = record p { open_state = record p.open_state { next = q.open_state.next } } ≡ q

-- ---- how the tokenizer reads on where a rule switches it; the token is then the last start tag

abbrev pub word_of : Name → Option Word
word_of (Known w) = Some w
word_of (Other s t) = None

abbrev pub word_of_tag : Token → Option Word
word_of_tag (StartTag tag) = word_of tag.name
word_of_tag _ = None

abbrev pub read_as : TokenizerSwitch → Token → TokState
read_as Rcdata t = in_text (text_state.Raw raw.Rcdata (word_of_tag t))
read_as Rawtext t = in_text (text_state.Raw raw.Rawtext (word_of_tag t))
read_as ScriptData t = in_text (text_state.Raw raw.ScriptData (word_of_tag t))
read_as Plaintext t = in_text text_state.Plaintext

-- ---- one character

-- the operations, the parser's state then, and whether it stopped
pub data Took : Type 0 where
  took : List Op → Parser → Stop → Took

abbrev pub after_ops : List Op → Took → Took
after_ops ops (took more p s) = took (ops ++ more) p s

-- what comes after a token; `rest` reads the tokens behind it. End-of-file is no token of a text
abbrev pub build_on : TokState → Bool → Token → Open → (TokState → Took) → Next → Took
build_on s cr t b rest (next.SwitchTokenizer r) = rest (read_as r t)
build_on s cr t b rest (next.Script i) = took [] (parser s cr b) (stop.Script i)
build_on s cr t b rest next.Deep = took [] (parser s cr b) stop.Deep
build_on s cr t b rest _ = rest s

-- tokens in order, up to the first stop
unfoldable pub build : TokState → Bool → List Token → Open → Took
build s cr [] b = took [] (parser s cr b) stop.InputEnd
build s cr (t ∷ ts) b =
    let a : Answer = construct t b [] in
    after_ops a.ops (build_on s cr t a.open_state (λ s'. build s' cr ts a.open_state) a.next)

abbrev pub built : Parser → Bool → Reached → Took
built p cr r = build r.state cr r.tokens p.open_state

-- a CR is an LF, and an LF that follows it is skipped (13.2.3.5 #preprocessing-the-input-stream)
unfoldable pub take_character : Entities → Parser → ℕ → Took
take_character es p c = elim (p.after_cr && (c == 10)) [
  | true ↦ took [] (record p { after_cr = false }) stop.InputEnd
  | false ↦ elim (c == 13) [
    | true ↦ built p true (read es (is_foreign p.open_state) p.tokenizer 10)
    | false ↦ built p false (read es (is_foreign p.open_state) p.tokenizer c)
  ]
]

-- ---- the end of the input

pub record Finished : Type 0 where
  pub ops : List Op
  pub parser : Parser
  pub finish : Finish

abbrev pub after_all : List Op → Finished → Finished
after_all ops f = record f { ops = ops ++ f.ops }

abbrev pub finished : Parser → Finish → Finished
finished p f = record { ops = []; parser = p; finish = f }

abbrev pub build_end_on : TokState → Bool → Open → Finished → Next → Finished
build_end_on s cr b rest next.Finished = finished (parser s cr b) finale.Finished
build_end_on s cr b rest next.Deep = finished (parser s cr b) finale.Deep
build_end_on s cr b rest _ = rest

-- the last tokens in order, up to the one at which parsing stops (13.2.7 #the-end); the end-of-file
-- token, which is the last, is one
unfoldable pub build_end : TokState → Bool → List Token → Open → Finished
build_end s cr [] b = finished (parser s cr b) finale.Finished
build_end s cr (t ∷ ts) b =
    let a : Answer = construct t b [] in
    after_all a.ops (build_end_on s cr a.open_state (build_end s cr ts a.open_state) a.next)

unfoldable pub finish : Entities → Parser → Finished
finish es p = let r = read_end es (is_foreign p.open_state) p.tokenizer in build_end r.state p.after_cr r.tokens p.open_state

-- ---- a text, up to the first stop

pub record Parsed : Type 0 where
  pub ops : List Op
  pub parser : Parser
  -- the number of characters used
  pub used : ℕ
  pub stop : Stop

-- one more character was used
abbrev pub after_character : List Op → Parsed → Parsed
after_character ops r = record r { ops = ops ++ r.ops; used = suc r.used }

-- what a character gave, and then the rest, unless the parser stops there
abbrev pub and_rest : Took → (Parser → Parsed) → Parsed
and_rest (took ops p stop.InputEnd) rest = after_character ops (rest p)
and_rest (took ops p why) rest = record { ops = ops; parser = p; used = 1; stop = why }

unfoldable pub parse : Entities → Parser → List ℕ → Parsed
parse es p [] = record { ops = []; parser = p; used = 0; stop = stop.InputEnd }
parse es p (c ∷ cs) = and_rest (take_character es p c) (λ p'. parse es p' cs)
