-- The rounds in which a token is processed, as the code counts them.
use Rattle.std.specs.Prelude.{ℕ, List}
use Rattle.html_types.specs.declared.operation.Op.{Op}
use Rattle.html_types.specs.declared.token.Token.{Token}
use Rattle.html_types.specs.declared.open.Open.{Open}
use Rattle.html_types.specs.declared.instruction.Mode.{Mode}
use Rattle.html_types.specs.declared.instruction.Mode.TheVariants.{InBody}
use Rattle.html_types.specs.declared.instruction.Next.{Next}
use Rattle.html_types.specs.declared.instruction.Next.TheVariants.{Reprocess, UsingRules, InBodyFostering}
use Rattle.standard.specs.Rules.{Answer, answer, by_rules, rules_for, process}
use Rattle.parse_machine.specs.declared.token.Round.{Round}
use Rattle.parse_machine.specs.declared.token.Round.TheVariants.{Once, Over}

pub record Rounded : Type 0 where
  pub open_state : Open
  pub ops : List Op
  pub round : Round

abbrev pub rounded : Open → List Op → Round → Rounded
rounded b o r = record { open_state = b; ops = o; round = r }

abbrev pub asked : Token → Open → Next → Round
asked t b Reprocess = Once (rules_for t b)
asked t b (UsingRules m) = Once m
asked t b InBodyFostering = Once InBody
asked t b n = Over n

-- what one round comes to
abbrev pub round_of : Mode → Token → Open → List Op → Rounded
round_of m t b o = let a : Answer = by_rules m t b o in rounded a.open_state a.ops (asked t a.open_state a.next)

-- what the rest of the rounds come to
abbrev pub rounds_left : ℕ → Token → Rounded → Answer
rounds_left n t c = elim c.round [ Once m ↦ process n m t c.open_state c.ops | Over x ↦ answer c.open_state c.ops x ]
