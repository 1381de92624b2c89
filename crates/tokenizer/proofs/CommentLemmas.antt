-- A comment that stands whole in a text, read character by character.
use Rattle.std.proofs.Common.{◌≡◌, ℕ, ◌==◌, Bool, true, false, true≢false, List, [], ◌∷◌, ◌++◌, refl, sym, ap, ◌∙◌, append-nil, append_assoc}
use Rattle.std.proofs.lemmas.Bool.{and_parts}
use Rattle.std.proofs.lemmas.Bool.Decides.{Decides-eqb}
use Rattle.html_types.specs.declared.class.Class.{Class}
use Rattle.html_types.specs.declared.class.Class.TheVariants.{Hyphen, Less, Greater, InputEnd}
use Rattle.html_types.specs.declared.mark_state.CommentState.TheVariants.{Start, Inside, EndDash}
use Rattle.html_types.specs.declared.mark_state.MarkState.TheVariants.{MarkupDeclarationOpen}
use Rattle.html_types.specs.declared.token.Token.TheVariants.{Comment}
use Rattle.html_types.specs.declared.state.TagState.TheVariants.{TagOpen}
use Rattle.standard.specs.Class.{class_of, shown}
use Rattle.standard.specs.CommentStates.{in_comment, comment_start_row, comment_inside_row, comment_end_dash_row}
use Rattle.standard.specs.Entities.{Entities}
use Rattle.standard.specs.Step.{Step, data_state, in_tag, in_mark, to, again}
use Rattle.standard.specs.Tokenizer.{Reached, row, feed, settle}
use Rattle.tokenizer.specs.Comments.{begins, begins_inside, OpensComment, Continues}
use Rattle.tokenizer.specs.declared.part.Part.TheVariants as part
use Rattle.tokenizer.specs.Whole.{in_comment_text, is_of, all_of, MakesAlone}
use Rattle.tokenizer.proofs.WholeLemmas.{feed-to, feed-again}

-- ---- `<!--`

one_dash : (es : Entities) (foreign : Bool) → row es foreign (in_mark (MarkupDeclarationOpen [])) Hyphen 45 ≡ to (in_mark (MarkupDeclarationOpen (45 ∷ [])))
one_dash es true = refl
one_dash es false = refl

two_dashes : (es : Entities) (foreign : Bool) → row es foreign (in_mark (MarkupDeclarationOpen (45 ∷ []))) Hyphen 45 ≡ to (in_comment Start)
two_dashes es true = refl
two_dashes es false = refl

pub opens-comment : OpensComment (60 ∷ 33 ∷ 45 ∷ 45 ∷ [])
opens-comment es foreign rest =
    feed-to es foreign data_state (in_tag TagOpen) 60 (33 ∷ 45 ∷ 45 ∷ rest) refl
    ∙ feed-to es foreign (in_tag TagOpen) (in_mark (MarkupDeclarationOpen [])) 33 (45 ∷ 45 ∷ rest) refl
    ∙ feed-to es foreign (in_mark (MarkupDeclarationOpen [])) (in_mark (MarkupDeclarationOpen (45 ∷ []))) 45 (45 ∷ rest) (one_dash es foreign)
    ∙ feed-to es foreign (in_mark (MarkupDeclarationOpen (45 ∷ []))) (in_comment Start) 45 rest (two_dashes es foreign)

pub OpensComment-same : {xs ys : List ℕ} → xs ≡ ys → OpensComment ys → OpensComment xs
OpensComment-same e o es foreign rest = ap (λ (l : List ℕ). feed es foreign data_state (l ++ rest)) e ∙ o es foreign rest

-- ---- its text

pub inside_row : (text : List ℕ) (k : Class) (c : ℕ) → in_comment_text k ≡ true → shown c ≡ c → comment_inside_row text k c ≡ to (in_comment (Inside (text ++ c ∷ [])))
inside_row text Hyphen c h e = absurd (true≢false (sym h))
inside_row text Less c h e = absurd (true≢false (sym h))
inside_row text InputEnd c h e = absurd (true≢false (sym h))
inside_row text _ c h e = ap (λ (x : ℕ). to (in_comment (Inside (text ++ x ∷ [])))) e

row_of : (es : Entities) (foreign : Bool) (text : List ℕ) (c : ℕ) → is_of part.Comment c ≡ true → row es foreign (in_comment (Inside text)) (class_of c) c ≡ to (in_comment (Inside (text ++ c ∷ [])))
row_of es foreign text c h = let p = and_parts (in_comment_text (class_of c)) (shown c == c) h in inside_row text (class_of c) c p.0 ((Decides-eqb (shown c) c).0 p.1)

pub continues-one : (c : ℕ) → is_of part.Comment c ≡ true → Continues (c ∷ [])
continues-one c h es foreign text rest = feed-to es foreign (in_comment (Inside text)) (in_comment (Inside (text ++ c ∷ []))) c rest (row_of es foreign text c h)

dash_row : (text : List ℕ) (k : Class) (c : ℕ) → in_comment_text k ≡ true → comment_end_dash_row text k c ≡ again (in_comment (Inside (text ++ 45 ∷ [])))
dash_row text Hyphen c h = absurd (true≢false (sym h))
dash_row text Less c h = absurd (true≢false (sym h))
dash_row text InputEnd c h = absurd (true≢false (sym h))
dash_row text _ c h = refl

pub continues-dash : (c : ℕ) → is_of part.Comment c ≡ true → Continues (45 ∷ c ∷ [])
continues-dash c h es foreign text rest =
    let p = and_parts (in_comment_text (class_of c)) (shown c == c) h in
    let dashed : List ℕ = text ++ 45 ∷ [] in
    feed-to es foreign (in_comment (Inside text)) (in_comment (EndDash text)) 45 (c ∷ rest) refl
    ∙ feed-again es foreign (in_comment (EndDash text)) (in_comment (Inside dashed)) c rest (dash_row text (class_of c) c p.0) (ap (λ (r : Step). r.again) (row_of es foreign dashed c h))
    ∙ continues-one c h es foreign dashed rest
    ∙ ap (λ (l : List ℕ). feed es foreign (in_comment (Inside l)) rest) (append_assoc text (45 ∷ []) (c ∷ []))

pub continues-none : Continues []
continues-none es foreign text rest = ap (λ (l : List ℕ). feed es foreign (in_comment (Inside l)) rest) (sym (append-nil text))

pub continues-both : (xs ys : List ℕ) → Continues xs → Continues ys → Continues (xs ++ ys)
continues-both xs ys a b es foreign text rest =
    ap (feed es foreign (in_comment (Inside text))) (append_assoc xs ys rest)
    ∙ a es foreign text (ys ++ rest)
    ∙ b es foreign (text ++ xs) rest
    ∙ ap (λ (l : List ℕ). feed es foreign (in_comment (Inside l)) rest) (append_assoc text xs ys)

pub continues-run : (cs : List ℕ) → all_of part.Comment cs ≡ true → Continues cs
continues-run [] h = continues-none
continues-run (c ∷ cs) h =
    let p = and_parts (is_of part.Comment c) (all_of part.Comment cs) h in
    continues-both (c ∷ []) cs (continues-one c p.0) (continues-run cs p.1)

pub Continues-same : {xs ys : List ℕ} → xs ≡ ys → Continues ys → Continues xs
Continues-same e n es foreign text rest =
    ap (λ (l : List ℕ). feed es foreign (in_comment (Inside text)) (l ++ rest)) e ∙ n es foreign text rest ∙ ap (λ (l : List ℕ). feed es foreign (in_comment (Inside (text ++ l))) rest) (sym e)

start_row : (k : Class) (c : ℕ) → begins k ≡ true → comment_start_row k c ≡ again (in_comment (Inside []))
start_row Hyphen c h = absurd (true≢false (sym h))
start_row Less c h = absurd (true≢false (sym h))
start_row Greater c h = absurd (true≢false (sym h))
start_row InputEnd c h = absurd (true≢false (sym h))
start_row _ c h = refl

-- ---- its end

feed-text : (es : Entities) (foreign : Bool) (inside rest : List ℕ) → begins_inside inside ≡ true → Continues inside → feed es foreign (in_comment Start) (inside ++ rest) ≡ feed es foreign (in_comment (Inside inside)) rest
feed-text es foreign [] rest b n = absurd (true≢false (sym b))
feed-text es foreign (c ∷ cs) rest b n =
    let p = and_parts (begins (class_of c)) (is_of part.Comment c) b in
    feed-again es foreign (in_comment Start) (in_comment (Inside [])) c (cs ++ rest) (start_row (class_of c) c p.0) (ap (λ (r : Step). r.again) (row_of es foreign [] c p.1))
    ∙ n es foreign [] rest

closed : (es : Entities) (foreign : Bool) (inside : List ℕ) → feed es foreign (in_comment (Inside inside)) (45 ∷ 45 ∷ 62 ∷ []) ≡ record { tokens = Comment inside ∷ []; state = data_state }
unfolding feed settle
closed es foreign inside = refl

dashed : (es : Entities) (foreign : Bool) (inside : List ℕ) → (feed es foreign (in_comment (Inside inside)) (45 ∷ 45 ∷ [])).tokens ≡ []
unfolding feed settle
dashed es foreign inside = refl

pub comment_alone : (start inside now : List ℕ) → now ≡ start ++ (inside ++ 45 ∷ 45 ∷ 62 ∷ []) → OpensComment start → begins_inside inside ≡ true → Continues inside → (es : Entities) → MakesAlone es now (Comment inside)
comment_alone start inside now e o b n es = record {
  front = start ++ (inside ++ 45 ∷ 45 ∷ []);
  last = 62;
  split = e ∙ ap (λ (l : List ℕ). start ++ l) (sym (append_assoc inside (45 ∷ 45 ∷ []) (62 ∷ []))) ∙ sym (append_assoc start (inside ++ 45 ∷ 45 ∷ []) (62 ∷ []));
  silent = λ foreign. ap (λ (m : Reached). m.tokens) (o es foreign (inside ++ 45 ∷ 45 ∷ []) ∙ feed-text es foreign inside (45 ∷ 45 ∷ []) b n) ∙ dashed es foreign inside;
  whole = λ foreign. ap (feed es foreign data_state) e ∙ o es foreign (inside ++ 45 ∷ 45 ∷ 62 ∷ []) ∙ feed-text es foreign inside (45 ∷ 45 ∷ 62 ∷ []) b n ∙ closed es foreign inside;
}
