use Rattle.std.proofs.Common.{◌≡◌, None, length, refl, sym, ap, subst, ◌∙◌}
use Rattle.std.specs.BTreeMap.{insert_entry}
use Rattle.standard.specs.Act.{Bound, id_cmp, bound_to}
use Rattle.op_exec.specs.declared.bound.Realm.{Realm}
use Rattle.op_exec.specs.Ids.{with_realms}
use Rattle.op_exec.proofs.Ids.{grown_realm, kept_realm, none-under_realms, under_realms, on_ok, on_err}
use Rattle.op_exec.proofs.bound.Bound.make.Goals as goal

pub returns-in-Some-clause-bound : goal.returns-in-Some-clause-bound
returns-in-Some-clause-bound c =
    let rs = c.self.inside.realms.items in
    let es = c.self.inside.others.entries in
    let r : Realm = record { realm = c.index_mut.result.now.realm; nodes = c.make_in_list.new.nodes } in
    let none : bound_to (with_realms rs es) c.args.id ≡ None = subst (λ (l : Bound). bound_to l c.args.id ≡ None) (sym c.self.view_is) c.requires in
    on_ok c.make_in_list.result _ _ (λ grown. grown_realm rs c.deref.result.now c.in-Some.place c.index_mut.result.now r es c.args.id (length c.args.tree.now) none c.deref.ensures.value
    (c.in-Some.ensures.here c.in-Some.place refl) (c.in-Some.ensures.next c.in-Some.place refl) c.index_mut.ensures.value refl grown
    ∙ ap (λ (l : Bound). insert_entry id_cmp l c.args.id (length c.args.tree.now)) c.self.view_is) c.make_in_list.ensures.bound

pub returns-in-Some-clause-err_bound : goal.returns-in-Some-clause-err_bound
returns-in-Some-clause-err_bound c =
    let r : Realm = record { realm = c.index_mut.result.now.realm; nodes = c.make_in_list.new.nodes } in
    on_err c.make_in_list.result _ _ (λ kept. kept_realm c.self.inside.realms.items c.deref.result.now c.in-Some.place c.index_mut.result.now r c.self.inside.others.entries c.deref.ensures.value
    (c.in-Some.ensures.here c.in-Some.place refl) c.index_mut.ensures.value refl kept
    ∙ c.self.view_is) c.make_in_list.ensures.err_bound

pub make_in_map-requires : goal.make_in_map-requires
make_in_map-requires c =
    none-under_realms c.self.inside.realms.items c.self.inside.others.entries c.args.id (subst (λ (l : Bound). bound_to l c.args.id ≡ None) (sym c.self.view_is) c.requires)

pub returns-clause-bound : goal.returns-clause-bound
returns-clause-bound c =
    let rs = c.self.inside.realms.items in
    let none = subst (λ (l : Bound). bound_to l c.args.id ≡ None) (sym c.self.view_is) c.requires in
    on_ok c.make_in_map.result _ _ (λ more. ap (with_realms rs) more
    ∙ (under_realms rs c.self.inside.others.entries c.args.id (length c.args.tree.now) none
    ∙ ap (λ (l : Bound). insert_entry id_cmp l c.args.id (length c.args.tree.now)) c.self.view_is)) c.make_in_map.ensures.bound
