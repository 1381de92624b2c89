use Rattle.std.proofs.Common.{◌||◌, sym, subst}
use Rattle.std.proofs.lemmas.Result.{on_err_weaker, on_ok_weaker}
use Rattle.html_types.specs.Text.{same_text}
use Rattle.html_types.specs.Attributes.{has_name, Finds}
use Rattle.html_types.specs.declared.name_index.NameIndex.{NameIndex}
use Rattle.html_types.proofs.AttributeLemmas.{finds_held}
use Rattle.html_types.proofs.attribute_list.add_name.Goals as goal

pub returns-in-Some-clause-ok : goal.returns-in-Some-clause-ok
returns-in-Some-clause-ok c =
    let held = finds_held c.args.index.now c.in-Some.names c.deref_mut.result.now (λ n. has_name n c.args.list.now) c.in-Some.is c.deref_mut.ensures.value c.requires in
    on_ok_weaker c.add.result (λ adds. adds (λ n. has_name n c.args.list.now) held) c.add.ensures.ok

pub returns-in-Some-clause-err : goal.returns-in-Some-clause-err
returns-in-Some-clause-err c =
    let held = finds_held c.args.index.now c.in-Some.names c.deref_mut.result.now (λ n. has_name n c.args.list.now) c.in-Some.is c.deref_mut.ensures.value c.requires in
    on_err_weaker c.add.result (λ adds. adds (λ n. has_name n c.args.list.now) held) c.add.ensures.err

pub returns-clause-ok : goal.returns-clause-ok
returns-clause-ok c =
    let more = c.in_ok-add.ensures.ok (λ n. has_name n c.args.list.now) c.in_ok-names.ensures in
    subst (λ (index : NameIndex). Finds index.names (λ n. same_text c.args.name.now n || has_name n c.args.list.now)) (sym c.in_ok-new.ensures.ok) more
