use Rattle.std.proofs.Common.{◌≡◌, ◌<◌, length, ◌-◌}
use Rattle.standard.specs.Fragment.{in_form_by}
use Rattle.op_exec.proofs.fragment.stands_in_form.Given as goal

-- the steps that are left decide it from `at` on
abbrev pub invariant-loop : goal.invariant-loop
invariant-loop l = record {
  here : l.at < length l.tree;
  size : l.end ≡ length l.tree;
  same : in_form_by l.tree (length l.tree) l.node ≡ in_form_by l.tree (length l.tree - l.counter) l.at;
}
