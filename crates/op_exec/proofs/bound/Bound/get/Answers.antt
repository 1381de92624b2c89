use Rattle.std.proofs.Common.{◌≡◌, ℕ, List, Option, IsTrue, sym, ap, subst, ◌∙◌}
use Rattle.std.specs.Prelude.{unwrap_or, is_some}
use Rattle.standard.specs.Act.{Bound, node_of, is_bound}
use Rattle.op_exec.specs.declared.bound.Realm.{Realm}
use Rattle.op_exec.specs.Ids.{listed}
use Rattle.op_exec.proofs.Ids.{node_of-listed, bound_to-others}
use Rattle.op_exec.proofs.bound.Bound.get.Goals as goal

pub returns-in-Some : goal.returns-in-Some
returns-in-Some c =
    subst (λ (l : Bound). c.in-Some.node ≡ node_of l c.args.id) c.self.view_is
    (node_of-listed c.self.inside.realms.items c.self.inside.others.entries c.args.id c.in-Some.node (c.in-Some.ensures ∙ ap (λ (rs : List Realm). listed rs c.args.id) c.deref.ensures.value))

pub in_map-requires : goal.in_map-requires
in_map-requires c =
    let same = bound_to-others c.self.inside.realms.items c.self.inside.others.entries c.args.id (c.in-None.ensures ∙ ap (λ (rs : List Realm). listed rs c.args.id) c.deref.ensures.value) in
    subst (λ (o : Option ℕ). IsTrue (is_some o)) same (subst (λ (l : Bound). IsTrue (is_bound l c.args.id)) (sym c.self.view_is) c.requires)

pub returns-in-None : goal.returns-in-None
returns-in-None c =
    let same = bound_to-others c.self.inside.realms.items c.self.inside.others.entries c.args.id (c.in-None.ensures ∙ ap (λ (rs : List Realm). listed rs c.args.id) c.deref.ensures.value) in
    c.in_map.ensures ∙ (ap (λ (o : Option ℕ). unwrap_or o 0) (sym same) ∙ ap (λ (l : Bound). node_of l c.args.id) c.self.view_is)
