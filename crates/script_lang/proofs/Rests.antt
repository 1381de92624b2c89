-- The statements of a text, one at a time.
use Rattle.std.proofs.Common.{◌≡◌, ℕ, zero, suc, ◌<◌, ◌≤◌, Bool, true, false, List, [], ◌∷◌, ◌++◌, length, Option, Some, None, option_map, option_and_then, refl, sym, ap, ◌∙◌, subst, arith, ◌==◌, eq-eqb}
use Rattle.std.specs.Str.{chars, IsUtf8}
use Rattle.std.proofs.Math.Utf8.{encodes}
use Rattle.std.proofs.lemmas.Bool.{eqb-true, true≢false}
use Rattle.std.proofs.lemmas.List.{append_assoc, append-nil}
use Rattle.std.proofs.lemmas.Str.{chars-nil, encodes-chars}
use Rattle.serial.specs.declared.script.Statement.{Statement}
use Rattle.serial.specs.Statements.{is_white, skip_white, statement, statements_within, statements}
use Rattle.script_lang.proofs.White.{skipped, kept}
use Rattle.script_lang.proofs.Shorter.{statement-shorter}

-- a first statement, and what is read behind it
abbrev joined : (List ℕ → Option (List Statement)) → Option (Statement × List ℕ) → Option (List Statement)
joined more first = option_and_then (λ p. option_and_then (λ ss. Some (p.0 ∷ ss)) (more p.1)) first

-- a text that begins with no white space
abbrev read_from : (List ℕ → Option (List Statement)) → List ℕ → Option (List Statement)
read_from more [] = Some []
read_from more (c ∷ cs) = joined more (statement (c ∷ cs))

within : (n : ℕ) (t : List ℕ) → statements_within (suc n) t ≡ read_from (statements_within n) (skip_white t)
within n t = refl

shorter_by : (white : Bool) (c : ℕ) (cs : List ℕ) → is_white c ≡ white → length (skip_white cs) ≤ length cs → length (skip_white (c ∷ cs)) ≤ suc (length cs)
shorter_by true c cs e h = subst (λ w. length w ≤ suc (length cs)) (sym (skipped c cs e)) (omega arith)
shorter_by false c cs e h = subst (λ w. length w ≤ suc (length cs)) (sym (kept c cs e)) (omega arith)

skip_white-shorter : (t : List ℕ) → length (skip_white t) ≤ length t
skip_white-shorter [] = omega arith
skip_white-shorter (c ∷ cs) = shorter_by (is_white c) c cs refl (skip_white-shorter cs)

again_by : (white : Bool) (c : ℕ) (cs : List ℕ) → is_white c ≡ white → skip_white (skip_white cs) ≡ skip_white cs → skip_white (skip_white (c ∷ cs)) ≡ skip_white (c ∷ cs)
again_by true c cs e h = ap skip_white (skipped c cs e) ∙ h ∙ sym (skipped c cs e)
again_by false c cs e h = ap skip_white (kept c cs e)

pub skip_white-skip_white : (t : List ℕ) → skip_white (skip_white t) ≡ skip_white t
skip_white-skip_white [] = refl
skip_white-skip_white (c ∷ cs) = again_by (is_white c) c cs refl (skip_white-skip_white cs)

-- ---- any bound above the length gives the same

same_joined : (f g : List ℕ → Option (List Statement)) (o : Option (Statement × List ℕ)) → ((p : Statement × List ℕ) → o ≡ Some p → f p.1 ≡ g p.1) → joined f o ≡ joined g o
same_joined f g None h = refl
same_joined f g (Some p) h = ap (option_and_then (λ ss. Some (p.0 ∷ ss))) (h p refl)

same_read : (f g : List ℕ → Option (List Statement)) (w : List ℕ) → ((r : List ℕ) → length r < length w → f r ≡ g r) → read_from f w ≡ read_from g w
same_read f g [] h = refl
same_read f g (c ∷ cs) h = same_joined f g (statement (c ∷ cs)) (λ p e. h p.1 (statement-shorter (c ∷ cs) p e))

enough : (n m : ℕ) (t : List ℕ) → length t < n → length t < m → statements_within n t ≡ statements_within m t
enough zero m t h k = absurd (omega arith)
enough (suc n) zero t h k = absurd (omega arith)
enough (suc n) (suc m) t h k =
    let skip = skip_white-shorter t in
    same_read (statements_within n) (statements_within m) (skip_white t) (λ r short. enough n m r (omega arith) (omega arith))

statements-within : (n : ℕ) (t : List ℕ) → length t < n → statements t ≡ statements_within n t
unfolding statements
statements-within n t h = enough (suc (length t)) n t (omega arith) h

-- ---- what a text's statements are

pub statements-skip_white : (t : List ℕ) → statements (skip_white t) ≡ statements t
statements-skip_white t =
    let skip = skip_white-shorter t in
    statements-within (suc (length t)) (skip_white t) (omega arith)
    ∙ ap (read_from (statements_within (length t))) (skip_white-skip_white t)
    ∙ sym (statements-within (suc (length t)) t (omega arith))

from_front : (w : List ℕ) → skip_white w ≡ w → statements w ≡ read_from (statements_within (length w)) w
from_front w e = statements-within (suc (length w)) w (omega arith) ∙ ap (read_from (statements_within (length w))) e

pub statements-nil : statements [] ≡ Some []
unfolding statements
statements-nil = refl

read_none : (more : List ℕ → Option (List Statement)) (w : List ℕ) → (w ≡ [] → ⊥) → statement w ≡ None → read_from more w ≡ None
read_none more [] some e = absurd (some refl)
read_none more (c ∷ cs) some e = ap (joined more) e

pub statements-none : (w : List ℕ) → skip_white w ≡ w → (w ≡ [] → ⊥) → statement w ≡ None → statements w ≡ None
statements-none w front some e = from_front w front ∙ read_none _ w some e

read_some : (more : List ℕ → Option (List Statement)) (w : List ℕ) (p : Statement × List ℕ) → statement w ≡ Some p → read_from more w ≡ option_and_then (λ ss. Some (p.0 ∷ ss)) (more p.1)
read_some more [] p e = let short = statement-shorter [] p e in absurd (omega arith)
read_some more (c ∷ cs) p e = ap (joined more) e

chained : {A B : Type 0} (f : A → B) (o : Option A) → option_and_then (λ a. Some (f a)) o ≡ option_map f o
chained f None = refl
chained f (Some a) = refl

pub statements-some : (w : List ℕ) (p : Statement × List ℕ) → skip_white w ≡ w → statement w ≡ Some p → statements w ≡ option_map (λ ss. p.0 ∷ ss) (statements p.1)
statements-some w p front e =
    from_front w front ∙ read_some _ w p e
    ∙ ap (option_and_then (λ ss. Some (p.0 ∷ ss))) (sym (statements-within (length w) p.1 (statement-shorter w p e)))
    ∙ chained (λ ss. p.0 ∷ ss) (statements p.1)

-- ---- the loop's turns: the statements so far, and those of what is left

pub record Reads (whole rest : List ℕ) (so_far : List Statement) : Type 0 where
  pub all : statements whole ≡ option_map (λ more. so_far ++ more) (statements rest)
  pub front : skip_white rest ≡ rest

no_front : (o : Option (List Statement)) → o ≡ option_map (λ more. [] ++ more) o
no_front None = refl
no_front (Some ss) = refl

pub Reads-begin : (whole rest : List ℕ) → rest ≡ skip_white whole → Reads whole rest []
Reads-begin whole rest e = record {
  all = sym (ap statements e ∙ statements-skip_white whole) ∙ no_front (statements rest);
  front = ap skip_white e ∙ skip_white-skip_white whole ∙ sym e;
}

regroup : (so_far : List Statement) (s : Statement) (o : Option (List Statement)) → option_map (λ more. so_far ++ more) (option_map (λ ss. s ∷ ss) o) ≡ option_map (λ more. (so_far ++ s ∷ []) ++ more) o
regroup so_far s None = refl
regroup so_far s (Some ss) = ap Some (sym (append_assoc so_far (s ∷ []) ss))

pub Reads-more : (whole rest next : List ℕ) (so_far : List Statement) (p : Statement × List ℕ) → Reads whole rest so_far → statement rest ≡ Some p → next ≡ skip_white p.1 → Reads whole next (so_far ++ p.0 ∷ [])
Reads-more whole rest next so_far p was e skip = record {
  all = was.all ∙ ap (option_map (λ more. so_far ++ more)) (statements-some rest p was.front e) ∙ regroup so_far p.0 (statements p.1)
      ∙ ap (option_map (λ more. (so_far ++ p.0 ∷ []) ++ more)) (sym (ap statements skip ∙ statements-skip_white p.1));
  front = ap skip_white skip ∙ skip_white-skip_white p.1 ∙ sym skip;
}

pub Reads-none : (whole rest : List ℕ) (so_far : List Statement) → Reads whole rest so_far → (rest ≡ [] → ⊥) → None ≡ statement rest → None ≡ statements whole
Reads-none whole rest so_far was some e = sym (was.all ∙ ap (option_map (λ more. so_far ++ more)) (statements-none rest was.front some (sym e)))

pub Reads-end : (whole rest : List ℕ) (so_far : List Statement) → Reads whole rest so_far → rest ≡ [] → Some so_far ≡ statements whole
Reads-end whole rest so_far was e =
    ap Some (sym (append-nil so_far)) ∙ sym (was.all ∙ ap (λ t. option_map (λ more. so_far ++ more) (statements t)) e ∙ ap (option_map (λ more. so_far ++ more)) statements-nil)

pub rest_shorter : (rest next : List ℕ) (p : Statement × List ℕ) → statement rest ≡ Some p → next ≡ skip_white p.1 → length next < length rest
rest_shorter rest next p e skip =
    let short = statement-shorter rest p e in
    let skips = skip_white-shorter p.1 in
    let same = ap length skip in
    omega arith

-- a text without bytes is one without characters
pub chars-empty : (t : List ℕ) → true ≡ (length t == 0) → chars t ≡ []
chars-empty [] e = chars-nil
chars-empty (b ∷ bs) e = let none = eqb-true (length (b ∷ bs)) 0 (sym e) in absurd (omega arith)

pub chars-some : (t : List ℕ) → IsUtf8 t → false ≡ (length t == 0) → chars t ≡ [] → ⊥
chars-some t u e none =
    let same : t ≡ [] = sym (encodes-chars t u) ∙ ap encodes none in
    true≢false (sym (eq-eqb (length t) 0 (ap length same)) ∙ sym e)
