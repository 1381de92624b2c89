-- What is left of the page: in the piece in hand, in the pieces that were asked, and in those to be sent.
use Rattle.std.proofs.Common.{◌≡◌, true≢false, ℕ, Bool, true, false, List, [], ◌∷◌, ◌++◌, Option, Some, None, refl, subst, sym, ◌∙◌, ap}
use Rattle.std.specs.Prelude.{◌&&◌, is_none, if◌then◌else◌}
use Rattle.html_types.specs.declared.ending.Ending.{Ending}
use Rattle.standard.specs.Entities.{Entities}
use Rattle.standard.specs.Parser.{Parser}
use Rattle.core_definitions.specs.Batches.{Piece, answer}
use Rattle.core_definitions.specs.Settling.{is_empty}
use Rattle.core_definitions.specs.Core.{joined}
use Rattle.core_definitions.specs.Desk.{Phase, free, tagged, waits, done, Desk, pieces_with, sent_again}
use Rattle.core_definitions.specs.StandsFor.{text_of}

-- the last piece has the page's ending, and no other has one
abbrev pub EndsAt : Option Ending → List Piece → Ending → Type 0 → Type 0
EndsAt None xs e C = C
EndsAt (Some e') xs e C = (e' ≡ e) × (xs ≡ [])

abbrev pub EndsWith : List Piece → Ending → Type 0
EndsWith [] e = ⊥
EndsWith (x ∷ xs) e = EndsAt x.ending xs e (EndsWith xs e)

-- the batches in hand are what is to be made of what is left of the piece
pub record Piped (es : Entities) (e : Ending) (held : Parser) (d : Desk) : Type 0 where
  pub hand : d.hand ≡ (answer es (Some held) d.left).batches
  pub pieces : EndsWith (d.left ∷ d.asked ++ d.to_send) e

-- from the state behind the end tag, where a script is in hand
abbrev pub Pipe : Entities → Ending → Phase → Desk → Type 0
Pipe es e free d = Piped es e d.own.parser d
Pipe es e (tagged i held) d = Piped es e held d
Pipe es e (waits name held) d = Piped es e held d
Pipe es e (done r) d = Unit {0}

none-left : (xs ys : List Piece) → xs ++ ys ≡ [] → sent_again xs ++ ys ≡ []
none-left [] ys h = h
none-left (x ∷ xs) ys h = absurd (true≢false (sym (ap is_empty h)))

-- what isn't sent again has no text and no ending
pub again-text : (xs ys : List Piece) → text_of (sent_again xs ++ ys) ≡ text_of (xs ++ ys)
again-text [] ys = refl
again-text (x ∷ xs) ys = by (is_empty x.text) (is_none x.ending) refl (again-text xs ys)
  where
    nothing : (t : List ℕ) (rest : List ℕ) → is_empty t ≡ true → rest ≡ t ++ rest
    nothing [] rest h = refl
    nothing (c ∷ cs) rest h = absurd (true≢false (sym h))

    by : (a b : Bool) → is_empty x.text ≡ a → text_of (sent_again xs ++ ys) ≡ text_of (xs ++ ys) →
        text_of ((if a && b then sent_again xs else x ∷ sent_again xs) ++ ys) ≡ x.text ++ text_of (xs ++ ys)
    by true true q h = h ∙ nothing x.text (text_of (xs ++ ys)) q
    by true false q h = ap (λ t. x.text ++ t) h
    by false b q h = ap (λ t. x.text ++ t) h

pub again-ends : (xs ys : List Piece) (e : Ending) → EndsWith (xs ++ ys) e → EndsWith (sent_again xs ++ ys) e
again-ends [] ys e h = h
again-ends (x ∷ xs) ys e h = by (is_empty x.text) (is_none x.ending) refl (again-ends xs ys e) h
  where
    no-ending : (o : Option Ending) → is_none o ≡ true → EndsAt o (xs ++ ys) e (EndsWith (xs ++ ys) e) → EndsWith (xs ++ ys) e
    no-ending None q g = g
    no-ending (Some a) q g = absurd (true≢false (sym q))

    onward : (o : Option Ending) → (EndsWith (xs ++ ys) e → EndsWith (sent_again xs ++ ys) e) → EndsAt o (xs ++ ys) e (EndsWith (xs ++ ys) e) → EndsAt o (sent_again xs ++ ys) e (EndsWith (sent_again xs ++ ys) e)
    onward None f g = f g
    onward (Some a) f g = (g.0, none-left xs ys g.1)

    by : (a b : Bool) → is_none x.ending ≡ b → (EndsWith (xs ++ ys) e → EndsWith (sent_again xs ++ ys) e) → EndsAt x.ending (xs ++ ys) e (EndsWith (xs ++ ys) e) →
        EndsWith ((if a && b then sent_again xs else x ∷ sent_again xs) ++ ys) e
    by true true q f g = f (no-ending x.ending q g)
    by true false q f g = onward x.ending f g
    by false b q f g = onward x.ending f g

-- the pieces of a page
pub page-text : (ts : List (List ℕ)) (e : Ending) → text_of (pieces_with ts (Some e)) ≡ joined ts
page-text [] e = refl
page-text (t ∷ ts) e = ap (λ x. t ++ x) (page-text ts e)

pub page-ends : (ts : List (List ℕ)) (e : Ending) → EndsWith (pieces_with ts (Some e)) e
page-ends [] e = (refl, refl)
page-ends (t ∷ ts) e = page-ends ts e

-- a piece with the ending is the last
pub last-piece : (o : Option Ending) (xs : List Piece) (e a : Ending) → o ≡ Some a → EndsAt o xs e (EndsWith xs e) → (a ≡ e) × (xs ≡ [])
last-piece o xs e a q h = subst (λ (x : Option Ending). EndsAt x xs e (EndsWith xs e)) q h
