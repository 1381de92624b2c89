use Rattle.std.proofs.Common.{◌≡◌, List, Option, true, sym, ap, subst, ◌∙◌}
use Rattle.std.specs.Prelude.{is_some}
use Rattle.standard.specs.Act.{Bound, is_bound}
use Rattle.op_exec.specs.declared.bound.Realm.{Realm}
use Rattle.op_exec.specs.Ids.{listed}
use Rattle.op_exec.proofs.Ids.{is_bound-listed, bound_to-others}
use Rattle.op_exec.proofs.bound.Bound.has.Goals as goal

pub returns-in-Some : goal.returns-in-Some
returns-in-Some c =
    sym
    (subst (λ (l : Bound). is_bound l c.args.id ≡ true) c.self.view_is
    (is_bound-listed c.self.inside.realms.items c.self.inside.others.entries c.args.id c.in-Some.field-0 (c.in-Some.ensures ∙ ap (λ (rs : List Realm). listed rs c.args.id) c.deref.ensures.value)))

pub returns-in-None : goal.returns-in-None
returns-in-None c =
    let same = bound_to-others c.self.inside.realms.items c.self.inside.others.entries c.args.id (c.in-None.ensures ∙ ap (λ (rs : List Realm). listed rs c.args.id) c.deref.ensures.value) in
    c.is_in_map.ensures ∙ (ap is_some (sym same) ∙ ap (λ (l : Bound). is_bound l c.args.id) c.self.view_is)
