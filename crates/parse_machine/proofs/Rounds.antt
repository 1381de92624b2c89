-- One round less.
use Rattle.std.proofs.Common.{◌≡◌, ℕ, zero, suc, ◌-◌, ◌<◌, ◌≤◌, List, refl, sym, ap, ◌∙◌, arith}
use Rattle.html_types.specs.declared.operation.Op.{Op}
use Rattle.html_types.specs.declared.token.Token.{Token}
use Rattle.html_types.specs.declared.open.Open.{Open}
use Rattle.html_types.specs.declared.instruction.Mode.{Mode}
use Rattle.html_types.specs.declared.instruction.Next.{Next}
use Rattle.html_types.specs.declared.instruction.Next.TheVariants.{Reprocess, UsingRules, InBodyFostering}
use Rattle.standard.specs.Rules.{Answer, answer, by_rules, go_round, round_after, process}
use Rattle.parse_machine.specs.declared.token.Round.{Round}
use Rattle.parse_machine.specs.declared.token.Round.TheVariants.{Once}
use Rattle.parse_machine.specs.Rounds.{rounded, asked, round_of, rounds_left}

by_next : (n : ℕ) (t : Token) (b : Open) (o : List Op) (x : Next) → go_round (λ m'. process n m' t b o) b o (round_after t b x) ≡ rounds_left n t (rounded b o (asked t b x))
by_next n t b o Reprocess = refl
by_next n t b o (UsingRules m) = refl
by_next n t b o InBodyFostering = refl
by_next n t b o _ = refl

turn : (n : ℕ) (m : Mode) (t : Token) (b : Open) (o : List Op) → process (suc n) m t b o ≡ rounds_left n t (round_of m t b o)
unfolding process
turn n m t b o = let a : Answer = by_rules m t b o in by_next n t a.open_state a.ops a.next

pub rounds_turn : (n : ℕ) (m : Mode) (t : Token) (b b' : Open) (o o' : List Op) (r : Round) → 0 < n
    → rounded b' o' r ≡ round_of m t b o → rounds_left (n - 1) t (rounded b' o' r) ≡ rounds_left n t (rounded b o (Once m))
rounds_turn zero m t b b' o o' r h e = absurd (omega (arith, h))
rounds_turn (suc n) m t b b' o o' r h e =
    let less : suc n - 1 ≡ n = omega arith in
    ap (λ k. rounds_left k t (rounded b' o' r)) less ∙ ap (rounds_left n t) e ∙ sym (turn n m t b o)

-- no round is left
pub rounds_end : (n : ℕ) (m : Mode) (t : Token) (b : Open) (o : List Op) (r : Round) (x : Answer) → n ≤ 0 → r ≡ Once m
    → rounds_left n t (rounded b o r) ≡ x → answer b o Reprocess ≡ x
unfolding process
rounds_end zero m t b o r x h e is = sym (ap (λ v. rounds_left 0 t (rounded b o v)) e) ∙ is
rounds_end (suc n) m t b o r x h e is = absurd (omega (arith, h))
