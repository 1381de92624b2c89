use Rattle.std.proofs.Common.{ℕ, List, ◌+◌, ◌-◌, take, drop, refl, arith}
use Rattle.std.proofs.lemmas.Grind.{common_steps}
use Rattle.char_class.proofs.Marks.{in_window, past_window}
use Rattle.char_class.proofs.mark.first_mark.Goals as goal

pub returns-then-place-behind : goal.returns-then-place-behind
returns-then-place-behind c =
    let bytes = c.args.bytes.now in
    let passed = c.windows.passed in
    let behind = passed + c.min.result in
    in_window bytes (take (behind - passed) (drop passed bytes)) passed behind c.mark_in.result (omega arith) (omega arith) refl c.mark_in.ensures.place c.windows.invariant.2 (omega arith)

pub windows-preserved : goal.windows-preserved
windows-preserved c =
    let bytes = c.args.bytes.now in
    let passed = c.windows.passed in
    let behind = passed + c.min.result in (
      omega arith,
      first_of (omega arith, grind (arith, common_steps)),
      past_window bytes (take (behind - passed) (drop passed bytes)) passed behind c.mark_in.result (omega arith) (omega arith) refl c.mark_in.ensures.place c.mark_in.ensures.within c.windows.invariant.2 (omega arith),
    )
