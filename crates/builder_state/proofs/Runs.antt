-- A row that is at its end stays so.
use Rattle.std.proofs.Common.{◌≡◌, refl, List, [], ◌∷◌}
use Rattle.html_types.specs.declared.token.Tag.{Tag}
use Rattle.html_types.specs.declared.token.Token.{Token}
use Rattle.html_types.specs.declared.operation.Op.{Op}
use Rattle.html_types.specs.declared.instruction.Instr.{Instr}
use Rattle.html_types.specs.declared.instruction.Flow.{Flow}
use Rattle.html_types.specs.declared.instruction.Flow.TheVariants.{On, Skip, Leave}
use Rattle.html_types.specs.declared.instruction.Next.{Next}
use Rattle.html_types.specs.declared.open.Open.{Open}
use Rattle.standard.specs.Instructions.{config, reopen_all, run}

pub reopen_all_ended : (tags : List Tag) (b : Open) (o : List Op) (f : Flow) → (f ≡ On → ⊥) → reopen_all tags (config b o f) ≡ config b o f
reopen_all_ended [] b o f h = refl
reopen_all_ended (t ∷ ts) b o On h = absurd (h refl)
reopen_all_ended (t ∷ ts) b o Skip h = refl
reopen_all_ended (t ∷ ts) b o (Leave n) h = refl

pub run_left : (t : Token) (b : Open) (o : List Op) (n : Next) (is : List Instr) → run t (config b o (Leave n)) is ≡ config b o (Leave n)
unfolding run
run_left t b o n [] = refl
run_left t b o n (i ∷ is) = run_left t b o n is
