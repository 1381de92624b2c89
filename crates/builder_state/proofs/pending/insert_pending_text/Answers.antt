use Rattle.std.proofs.Common.{◌≡◌, ◌∙◌, sym, ap}
use Rattle.std.specs.Prelude.{false}
use Rattle.standard.specs.Instructions.{all_space}
use Rattle.builder_state.proofs.Characters.{pending_inserted}
use Rattle.builder_state.proofs.pending.insert_pending_text.Goals as goal

pub returns-clause-done : goal.returns-clause-done
returns-clause-done c =
    let mixed : all_space c.args.state.now.pending_text ≡ false =
    ap all_space (sym (c.as_str.ensures ∙ c.replace-text.ensures.value)) ∙ sym c.is_all_space.ensures ∙ c.if-is_all_space.false in
    pending_inserted c.args.state.now c.args.ops.now _ _ _ _ _ (c.as_str-2.ensures ∙ c.replace-text.ensures.value) (c.replace-text.ensures.after ∙ c.new.ensures) mixed c.in_ok-flow.ensures.done
