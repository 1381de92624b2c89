use Rattle.std.proofs.Common.{◌≡◌, ◌-◌, ◌+◌, suc, length, Some, refl, arith, ◌∙◌, sym, ap}
use Rattle.standard.specs.Tree.{parent_of}
use Rattle.standard.specs.Fragment.{is_form, in_form_by}
use Rattle.op_exec.proofs.Contexts.{form-here, form-above, form-none}
use Rattle.op_exec.proofs.fragment.stands_in_form.Goals as goal

pub returns-then-is_form : goal.returns-then-is_form
returns-then-is_form c =
    let t = c.args.tree.now in
    let left : length t - c.loop.counter ≡ suc (length t - (c.loop.counter + 1)) = omega arith in
    sym (c.loop.invariant.same ∙ (ap (λ k. in_form_by t k c.loop.at) left ∙ form-here t _ c.loop.at (ap is_form (sym c.kind.ensures) ∙ (sym c.is_form.ensures ∙ c.if-is_form.true))))

pub loop-preserved : goal.loop-preserved
loop-preserved c =
    let t = c.args.tree.now in
    let link : parent_of t c.loop.at ≡ Some c.in-Some.parent = sym c.parent.ensures.parent ∙ c.in-Some.is in
    let left : length t - c.loop.counter ≡ suc (length t - (c.loop.counter + 1)) = omega arith in
    record {
      here = c.in-Some.ensures.here c.in-Some.parent refl;
      size = c.loop.invariant.size;
      same = c.loop.invariant.same ∙ (ap (λ k. in_form_by t k c.loop.at) left ∙ form-above t _ c.loop.at c.in-Some.parent (ap is_form (sym c.kind.ensures) ∙ (sym c.is_form.ensures ∙ c.if-is_form.false)) link);
    }

pub returns-in-None : goal.returns-in-None
returns-in-None c =
    let t = c.args.tree.now in
    let left : length t - c.loop.counter ≡ suc (length t - (c.loop.counter + 1)) = omega arith in
    sym (c.loop.invariant.same ∙ (ap (λ k. in_form_by t k c.loop.at) left ∙ form-none t _ c.loop.at (ap is_form (sym c.kind.ensures) ∙ (sym c.is_form.ensures ∙ c.if-is_form.false)) (sym c.parent.ensures.parent ∙ c.in-None.is)))
