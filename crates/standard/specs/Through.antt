-- A text that is read through, as a fragment is (13.4 #parsing-html-fragments) and as a page is
-- whose scripts don't run: at the end tag of a script nothing runs, and the parser goes on behind
-- it. The scripting flag is on.
use Rattle.std.specs.Prelude.{ℕ, List, [], ◌∷◌, ◌++◌, Option, Some, None}
use Rattle.html_types.specs.declared.instruction.Stop.TheVariants as stop
use Rattle.html_types.specs.declared.instruction.Finish.{Finish}
use Rattle.html_types.specs.declared.instruction.Finish.TheVariants as finale
use Rattle.html_types.specs.declared.operation.Op.{Op}
use Rattle.standard.specs.Entities.{Entities}
use Rattle.standard.specs.Parser.{Parser, Took, took, take_character, Finished, finish}

-- what a text comes to: the operations, and the parser's state behind it; or a push that would open element 513
pub data Through : Type 0 where
  through : List Op → Parser → Through
  deep : Through

-- the operations of a text come behind those of what stands before it
abbrev pub after_those : List Op → Through → Through
after_those ops (through more p) = through (ops ++ more) p
after_those ops deep = deep

-- what a character gave, and then the rest, behind the end tag of a script too
abbrev pub and_through : Took → (Parser → Through) → Through
and_through (took ops p stop.InputEnd) rest = after_those ops (rest p)
and_through (took ops p (stop.Script i)) rest = after_those ops (rest p)
and_through (took ops p stop.Deep) rest = deep

unfoldable pub read_through : Entities → Parser → List ℕ → Through
read_through es p [] = through [] p
read_through es p (c ∷ cs) = and_through (take_character es p c) (λ p'. read_through es p' cs)

-- ---- the end of the input behind it

abbrev pub if_finished : List Op → Finish → Option (List Op)
if_finished ops finale.Finished = Some ops
if_finished ops finale.Deep = None

abbrev pub with_end : Entities → Through → Option (List Op)
with_end es (through ops p) = let f : Finished = finish es p in if_finished (ops ++ f.ops) f.finish
with_end es deep = None

-- The operations of a text that is the whole input; none at a push that would open element 513.
unfoldable pub whole : Entities → Parser → List ℕ → Option (List Op)
whole es p text = with_end es (read_through es p text)
