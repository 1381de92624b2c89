-- A character by the rules of "in body": what its row comes to.
use Rattle.std.proofs.Common.{◌≡◌, ◌==◌, ◌&&◌, ℕ, Bool, true, false, List, [], ◌∷◌, ◌++◌, reverse, refl, sym, ap, ◌∙◌, suc}
use Rattle.std.specs.Prelude.{if◌then◌else◌}
use Rattle.html_types.specs.declared.token.Tag.{Tag}
use Rattle.html_types.specs.declared.token.Token.{Token}
use Rattle.html_types.specs.declared.token.Token.TheVariants.{Character}
use Rattle.html_types.specs.declared.operation.Op.{Op}
use Rattle.html_types.specs.declared.open.Open.{Open}
use Rattle.html_types.specs.declared.instruction.Flow.{Flow}
use Rattle.html_types.specs.declared.instruction.Flow.TheVariants.{On, Skip, Leave}
use Rattle.html_types.specs.declared.instruction.Instr.{Instr}
use Rattle.html_types.specs.declared.instruction.Instr.TheVariants.{Reconstruct, InsertText, FramesetNotOk}
use Rattle.html_types.specs.declared.instruction.Mode.{Mode}
use Rattle.html_types.specs.declared.instruction.Mode.TheVariants.{InBody, InText, InCaption, InCell, InSelect, InSelectInTable, InTemplate, InForeign}
use Rattle.html_types.specs.declared.instruction.Next.TheVariants as next
use Rattle.standard.specs.WhiteSpace.{is_space}
use Rattle.standard.specs.Formatting.{lost, kept}
use Rattle.html_types.specs.declared.operation.Op.TheVariants as op
use Rattle.standard.specs.Instructions.{Config, config, on, here, room, reopen, reopen_all, reconstruct, run, body_text, body_character}
use Rattle.standard.specs.RulesBody.{in_body_space, in_body_character}
use Rattle.standard.specs.Rules.{Answer, answer, answer_of, next_of, by_mode, with_adoption, go_round, round_after, process, rounds, row}

-- how a reconstruction ends: at its end, or where no element more may be opened
ends : Flow → Bool
ends On = true
ends (Leave next.Deep) = true
ends _ = false

either-ends : (t : Bool) (x y : Config) → ends x.flow ≡ true → ends y.flow ≡ true → ends (if t then x else y).flow ≡ true
either-ends true x y h k = h
either-ends false x y h k = k

reopen-ends : (tag : Tag) (b : Open) (o : List Op) → ends (reopen tag b o).flow ≡ true
unfolding ends
reopen-ends tag b o = either-ends (room b) _ _ refl refl

reopen_all-ends : (tags : List Tag) (b : Open) (o : List Op) (f : Flow) → ends f ≡ true → ends (reopen_all tags (config b o f)).flow ≡ true
reopen_all-ends [] b o f h = h
reopen_all-ends (tag ∷ tags) b o On h = let r : Config = reopen tag b o in reopen_all-ends tags r.open_state r.ops r.flow (reopen-ends tag b o)
reopen_all-ends (tag ∷ tags) b o Skip h = h
reopen_all-ends (tag ∷ tags) b o (Leave n) h = h

rebuilt-ends : (b : Open) (o : List Op) → ends (reconstruct b o).flow ≡ true
unfolding ends
rebuilt-ends b o = reopen_all-ends (reverse (lost b.stack b.formats)) (record b { formats = kept b.stack b.formats }) o On refl

-- the rest of the row, behind the reconstruction
rest_of : Bool → List Instr
rest_of true = InsertText ∷ []
rest_of false = InsertText ∷ FramesetNotOk ∷ []

rest-comes : (c : ℕ) (b : Open) (o : List Op) (f : Flow) (space : Bool) → ends f ≡ true → is_space c ≡ space
    → run (Character c) (config b o f) (rest_of space) ≡ body_text c (config b o f)
unfolding run rest_of ends
rest-comes c b o On true h e = rw e refl
rest-comes c b o On false h e = rw e refl
rest-comes c b o Skip space h e = absurd (cc)
rest-comes c b o (Leave n) true h e = refl
rest-comes c b o (Leave n) false h e = refl

text-ends : (c : ℕ) (b : Open) (o : List Op) (f : Flow) → ends f ≡ true → ends (body_text c (config b o f)).flow ≡ true
unfolding ends
text-ends c b o On h = refl
text-ends c b o Skip h = h
text-ends c b o (Leave n) h = h

-- the row

row-by : (zero space : Bool) → zero ≡ false → (if zero then [] else (if space then in_body_space else in_body_character)) ≡ Reconstruct ∷ rest_of space
unfolding rest_of
row-by true space e = absurd (cc)
row-by false true e = refl
row-by false false e = refl

row-comes : (c : ℕ) → (c == 0) ≡ false → row InBody (Character c) ≡ Reconstruct ∷ rest_of (is_space c)
unfolding row
row-comes c h = row-by (c == 0) (is_space c) h

row-runs : (c : ℕ) (b : Open) (o : List Op) → (c == 0) ≡ false → by_mode InBody (Character c) b o ≡ answer_of (body_character c b o)
unfolding by_mode run
row-runs c b o h =
    let r : Config = reconstruct b o in
    ap (λ is. answer_of (run (Character c) (on b o) is)) (row-comes c h)
    ∙ ap answer_of (rest-comes c r.open_state r.ops r.flow (is_space c) (rebuilt-ends b o) refl)

-- one round is enough

behind : ℕ → Token → Answer → Answer
behind n t a = go_round (λ m'. process n m' t a.open_state a.ops) a.open_state a.ops (round_after t a.open_state a.next)

over : (n : ℕ) (t : Token) (b : Open) (o : List Op) (f : Flow) → ends f ≡ true → behind n t (with_adoption t b o (next_of f)) ≡ answer b o (next_of f)
unfolding ends behind
over n t b o On h = refl
over n t b o (Leave next.Deep) h = refl
over n t b o _ h = absurd (cc)

one_round : (n : ℕ) (m : Mode) (t : Token) (b b' : Open) (o o' : List Op) (f : Flow) → by_mode m t b o ≡ answer_of (config b' o' f) → ends f ≡ true
    → process (suc n) m t b o ≡ answer_of (config b' o' f)
unfolding process behind
one_round n m t b b' o o' f e h = ap (λ (a : Answer). behind n t (with_adoption t a.open_state a.ops a.next)) e ∙ over n t b' o' f h

pub character_in_body : (c : ℕ) (b : Open) (o : List Op) (x : Answer) → (c == 0) ≡ false → x ≡ answer_of (body_character c b o) → x ≡ process rounds InBody (Character c) b o
character_in_body c b o x h e =
    let r : Config = body_character c b o in
    let q : Config = reconstruct b o in
    e ∙ sym (one_round 8191 InBody (Character c) b r.open_state o r.ops r.flow (row-runs c b o h) (text-ends c q.open_state q.ops q.flow (rebuilt-ends b o)))

-- the same in the modes whose rules take a character to those of "in body"

second_round : (c : ℕ) (b : Open) (o : List Op) → (c == 0) ≡ false → process 8191 InBody (Character c) b o ≡ answer_of (body_character c b o)
second_round c b o h =
    let r : Config = body_character c b o in
    let q : Config = reconstruct b o in
    one_round 8190 InBody (Character c) b r.open_state o r.ops r.flow (row-runs c b o h) (text-ends c q.open_state q.ops q.flow (rebuilt-ends b o))

in_caption : (n : ℕ) (c : ℕ) (b : Open) (o : List Op) → process (suc (suc n)) InCaption (Character c) b o ≡ process (suc n) InBody (Character c) b o
unfolding process by_mode run row
in_caption n c b o = refl

in_cell : (n : ℕ) (c : ℕ) (b : Open) (o : List Op) → process (suc (suc n)) InCell (Character c) b o ≡ process (suc n) InBody (Character c) b o
unfolding process by_mode run row
in_cell n c b o = refl

in_template : (n : ℕ) (c : ℕ) (b : Open) (o : List Op) → process (suc (suc n)) InTemplate (Character c) b o ≡ process (suc n) InBody (Character c) b o
unfolding process by_mode run row
in_template n c b o = refl

pub body_in_caption : (c : ℕ) (b : Open) (o : List Op) → (c == 0) ≡ false → process rounds InCaption (Character c) b o ≡ answer_of (body_character c b o)
body_in_caption c b o h = in_caption 8190 c b o ∙ second_round c b o h

pub body_in_cell : (c : ℕ) (b : Open) (o : List Op) → (c == 0) ≡ false → process rounds InCell (Character c) b o ≡ answer_of (body_character c b o)
body_in_cell c b o h = in_cell 8190 c b o ∙ second_round c b o h

pub body_in_template : (c : ℕ) (b : Open) (o : List Op) → (c == 0) ≡ false → process rounds InTemplate (Character c) b o ≡ answer_of (body_character c b o)
body_in_template c b o h = in_template 8190 c b o ∙ second_round c b o h

-- and in those that only insert it

abbrev inserted : ℕ → Open → List Op → Answer
inserted c b o = answer b (o ++ op.Text (here b) (c ∷ []) ∷ []) next.Done

text_round : (n : ℕ) (c : ℕ) (b : Open) (o : List Op) → process (suc n) InText (Character c) b o ≡ inserted c b o
unfolding process by_mode run row
text_round n c b o = refl

select_round : (n : ℕ) (c : ℕ) (b : Open) (o : List Op) → (c == 0) ≡ false → process (suc n) InSelect (Character c) b o ≡ inserted c b o
unfolding process by_mode run row
select_round n c b o h = rw h refl

table_round : (n : ℕ) (c : ℕ) (b : Open) (o : List Op) → process (suc (suc n)) InSelectInTable (Character c) b o ≡ process (suc n) InSelect (Character c) b o
unfolding process by_mode run row
table_round n c b o = refl

pub in_text_mode : (c : ℕ) (b : Open) (o : List Op) → process rounds InText (Character c) b o ≡ answer b (o ++ op.Text (here b) (c ∷ []) ∷ []) next.Done
in_text_mode c b o = text_round 8191 c b o

pub in_select_mode : (c : ℕ) (b : Open) (o : List Op) → (c == 0) ≡ false → process rounds InSelect (Character c) b o ≡ answer b (o ++ op.Text (here b) (c ∷ []) ∷ []) next.Done
in_select_mode c b o h = select_round 8191 c b o h

pub in_select_in_table_mode : (c : ℕ) (b : Open) (o : List Op) → (c == 0) ≡ false → process rounds InSelectInTable (Character c) b o ≡ answer b (o ++ op.Text (here b) (c ∷ []) ∷ []) next.Done
in_select_in_table_mode c b o h = table_round 8190 c b o ∙ select_round 8190 c b o h

-- and by the rules for foreign content

foreign_round : (n : ℕ) (c : ℕ) (b : Open) (o : List Op) (space : Bool) → (c == 0) ≡ false → is_space c ≡ space
    → process (suc n) InForeign (Character c) b o ≡ answer (record b { frameset_ok = space && b.frameset_ok }) (o ++ op.Text (here b) (c ∷ []) ∷ []) next.Done
unfolding process by_mode run row
foreign_round n c b o true h e = rw h (rw e refl)
foreign_round n c b o false h e = rw h (rw e refl)

pub in_foreign_content : (c : ℕ) (b : Open) (o : List Op) → (c == 0) ≡ false
    → process rounds InForeign (Character c) b o ≡ answer (record b { frameset_ok = is_space c && b.frameset_ok }) (o ++ op.Text (here b) (c ∷ []) ∷ []) next.Done
in_foreign_content c b o h = foreign_round 8191 c b o (is_space c) h refl
