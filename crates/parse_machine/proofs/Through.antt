-- A text that the machine reads through.
use Rattle.std.proofs.Common.{◌≡◌, ℕ, List, [], ◌∷◌, ◌++◌, true, false, None, refl, sym, ap, ◌∙◌, drop}
use Rattle.std.specs.Str.{chars, IsCharBoundary, IsUtf8}
use Rattle.html_types.specs.declared.operation.Op.{Op}
use Rattle.html_types.specs.declared.instruction.Stop.{Stop}
use Rattle.html_types.specs.declared.instruction.Stop.TheVariants as stop
use Rattle.html_types.specs.declared.instruction.Finish.{Finish}
use Rattle.standard.specs.Entities.{Entities}
use Rattle.standard.specs.Parser.{Parser, Parsed, parse, Finished, finish, after_all}
use Rattle.standard.specs.Through.{Through, through, deep, after_those, read_through, if_finished, with_end, whole}
use Rattle.standard_laws.specs.Quiet.{on_from}
use Rattle.standard_laws.proofs.Quiet.{after-none, after-twice, through-parse}
use Rattle.parse_machine.specs.declared.machine.Ran.{Ran}
use Rattle.parse_machine.specs.Machine.{RanAs}
use Rattle.parse_machine.specs.Through.{came_to, from_stop}
use Rattle.parse_machine.proofs.Fronts.{rest-chars}

stopped : (es : Entities) (before : List Op) (x : List ℕ) (r : Parsed) (s : Stop) →
    after_those before (on_from es x r.ops r.parser r.used s) ≡ from_stop es r.parser (before ++ r.ops) (drop r.used x) s
stopped es before x r stop.InputEnd = refl
stopped es before x r (stop.Script i) = after-twice before r.ops (read_through es r.parser (drop r.used x))
stopped es before x r stop.Deep = refl

-- up to the first stop
pub through-run : (es : Entities) (p now : Parser) (before ops : List Op) (ran : Ran) (text : List ℕ) → IsUtf8 text → IsCharBoundary text ran.used → RanAs (parse es p (chars text)) before now ops ran text →
    after_those before (read_through es p (chars text)) ≡ from_stop es now ops (chars (drop ran.used text)) ran.stop
through-run es p now before ops ran text utf8 boundary run =
    let r : Parsed = parse es p (chars text) in
    let left : chars (drop ran.used text) ≡ drop r.used (chars text) = rest-chars text ran.used r.used utf8 boundary run.used in
    ap (after_those before) (through-parse es p (chars text))
    ∙ (stopped es before (chars text) r r.stop
    ∙ sym (ap (λ q. from_stop es q ops (chars (drop ran.used text)) ran.stop) run.state
    ∙ (ap (λ os. from_stop es r.parser os (chars (drop ran.used text)) ran.stop) run.ops
    ∙ (ap (λ l. from_stop es r.parser (before ++ r.ops) l ran.stop) left ∙ ap (from_stop es r.parser (before ++ r.ops) (drop r.used (chars text))) run.stop))))

-- ---- the whole input

same-through : (t : Through) (before : List Op) (s : Through) → before ≡ [] → after_those before t ≡ s → t ≡ s
same-through t before s none is = after-none t ∙ (ap (λ os. after_those os t) (sym none) ∙ is)

-- with the end of the input
pub whole-ended : (es : Entities) (p now last : Parser) (text : List ℕ) (before ops all : List Op) (k : Finish) → before ≡ [] → after_those before (read_through es p text) ≡ came_to now ops true →
    after_all ops (finish es now) ≡ record { ops = all; parser = last; finish = k } → whole es p text ≡ if_finished all k
unfolding whole
whole-ended es p now last text before ops all k none went ended =
    let f : Finished = finish es now in
    ap (with_end es) (same-through (read_through es p text) before (through ops now) none went)
    ∙ (ap (λ (g : Finished). if_finished g.ops f.finish) ended ∙ ap (λ (g : Finished). if_finished all g.finish) ended)

pub whole-deep : (es : Entities) (p now : Parser) (text : List ℕ) (before ops : List Op) → before ≡ [] → after_those before (read_through es p text) ≡ came_to now ops false → whole es p text ≡ None
unfolding whole
whole-deep es p now text before ops none went = ap (with_end es) (same-through (read_through es p text) before deep none went)
