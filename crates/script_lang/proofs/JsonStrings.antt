-- A string that is alone in its text, as serde_json reads it.
use Rattle.std.proofs.Common.{◌≡◌, ℕ, ◌==◌, Bool, true, false, cond, List, [], ◌∷◌, Option, Some, None, option_map, option_and_then, refl, sym, ap, ◌∙◌}
use Rattle.json.specs.Text.{content, plain}
use Rattle.json.specs.Word.{is_operator, is_space}
use Rattle.json.specs.Lex.{Lexeme, token, quote, backslash, operator, space, other, string_token, Mode, between, in_string, in_escape, lex, lex_byte, punctuate, fresh}
use Rattle.json.specs.Json as json
use Rattle.json.specs.Json.{items, members, value}
use Rattle.serde_json.specs.Find.{as_str}
use Rattle.serde_json.specs.Read.{read, of_json}
use Rattle.serial.specs.Statements.{string_end, in_front}
use Rattle.script_lang.proofs.Ends.{a_quote, no_quote}

abbrev Parts : Type 0
Parts = List ℕ × List ℕ

abbrev mode : Bool → Mode
mode true = in_escape
mode false = in_string

-- where something is mapped, it was there
mapped : (c : ℕ) (o : Option Parts) (p : Parts) → option_map (in_front c) o ≡ Some p → (q : Parts) × (o ≡ Some q) × (p.0 ≡ c ∷ q.0)
mapped c None p e = absurd (cc)
mapped c (Some q) p e = (q, refl, sym (ap (λ (o : Option Parts). elim o [ None ↦ c ∷ q.0 | Some r ↦ r.0 ]) e))

one_byte : (is_quote is_backslash is_operator is_space : Bool) (c : ℕ) (cs : List ℕ) (go : Mode → List Lexeme) → is_quote ≡ false
    → lex_byte in_string (cond is_quote quote (cond is_backslash backslash (cond is_operator operator (cond is_space space other)))) c cs go ≡ go (mode is_backslash)
one_byte true b o s c cs go e = absurd (cc)
one_byte false true o s c cs go e = refl
one_byte false false true s c cs go e = refl
one_byte false false false true c cs go e = refl
one_byte false false false false c cs go e = refl

in_string_byte : (c : ℕ) (cs : List ℕ) → (c == 34) ≡ false → lex in_string (c ∷ cs) ≡ lex (mode (c == 92)) cs
unfolding lex
in_string_byte c cs e = one_byte (c == 34) (c == 92) (is_operator c) (is_space c) c cs (λ next. lex next cs) e

in_escape_byte : (c : ℕ) (cs : List ℕ) → lex in_escape (c ∷ cs) ≡ lex in_string cs
unfolding lex
in_escape_byte c cs = refl

closing_quote : lex in_string (34 ∷ []) ≡ []
unfolding lex
closing_quote = refl

lexed_at : (is_quote : Bool) (c : ℕ) (cs : List ℕ) (p : Parts) → (c == 34) ≡ is_quote → string_end false (c ∷ cs) ≡ Some p
    → ((q : Parts) → string_end (c == 92) cs ≡ Some q → lex (mode (c == 92)) q.0 ≡ []) → lex in_string p.0 ≡ []
lexed_at true c cs p h e next =
    ap (lex in_string) (ap (λ (o : Option Parts). elim o [ None ↦ [] | Some r ↦ r.0 ]) (sym e ∙ a_quote c cs h)) ∙ closing_quote
lexed_at false c cs p h e next =
    let (q, found, is) = mapped c (string_end (c == 92) cs) p (sym (no_quote c cs h) ∙ e) in
    ap (lex in_string) is ∙ in_string_byte c q.0 h ∙ next q found

-- nothing stands behind the string's end
lexed : (escaped : Bool) (xs : List ℕ) (p : Parts) → string_end escaped xs ≡ Some p → lex (mode escaped) p.0 ≡ []
lexed escaped [] p e = absurd (cc)
lexed true (c ∷ cs) p e =
    let (q, found, is) = mapped c (string_end false cs) p e in
    ap (lex in_escape) is ∙ in_escape_byte c q.0 ∙ lexed false cs q found
lexed false (c ∷ cs) p e = lexed_at (c == 34) c cs p refl e (lexed (c == 92) cs)

read_as : (o : Option (List ℕ)) → option_and_then as_str (option_and_then of_json (option_and_then (λ p. json.if_last p.0 p.1) (value 127 (punctuate fresh (token (string_token o) ∷ []))))) ≡ o
unfolding punctuate items members value
read_as None = refl
read_as (Some s) = refl

first_lexeme : (xs : List ℕ) → lex between (34 ∷ xs) ≡ token (string_token (content plain xs)) ∷ lex in_string xs
unfolding lex
first_lexeme xs = refl

-- its value is what its content stands for
pub read-string : (xs : List ℕ) (p : Parts) → string_end false xs ≡ Some p → option_and_then as_str (read (34 ∷ p.0)) ≡ content plain p.0
read-string xs p e =
    ap (λ ls. option_and_then as_str (option_and_then of_json (option_and_then (λ p. json.if_last p.0 p.1) (value 127 (punctuate fresh ls)))))
    (first_lexeme p.0 ∙ ap (λ ls. token (string_token (content plain p.0)) ∷ ls) (lexed false xs p e))
    ∙ read_as (content plain p.0)
