use Rattle.std.proofs.Common.{ap, sym, ◌≡◌, ◌<◌, ℕ, length, subst, ◌∙◌, arith}
use Rattle.std.specs.Prelude.{codes}
use Rattle.html_types.specs.declared.tree.Kind.TheVariants as kind
use Rattle.standard.specs.Tree.{attribute, lone}
use Rattle.text_store.specs.Views.{seen_name}
use Rattle.doc_tree.specs.Rows.{Rows, seen}
use Rattle.doc_tree.specs.Holders.{IsTold, IsKept}
use Rattle.doc_tree.proofs.Done.{push_written, seen_mirrors}
use Rattle.doc_tree.proofs.HolderLemmas.{kept_rows, kept_all, grown_rows, on_err_held, told_of, told_pushed}
use Rattle.doc_tree.proofs.nodes.Nodes.push_element.Goals as goal

pub invariant_of-self-2 : goal.invariant_of-self-2
invariant_of-self-2 c =
    let number : c.len-number.result ≡ length c.args.self.now = c.len-number.ensures ∙ (c.self.inside.rows.ok.0 ∙ (seen_mirrors c.self.inside.store c.self.inside.rows.items c.args.self.now c.self.view_is c.self.invariant.linked).size) in
    kept_rows _ _ _ _
    (push_written c.self.inside.store c.self.inside.rows.items c.args.self.now c.self.view_is c.self.invariant.linked c.push_seen.new.self c.push_seen.ensures.kept c.in_ok-kept.kept (kind.Element (seen_name c.args.name) c.args.attributes.now) c.in_ok-kept.ensures.ok (omega (arith, c.self.inside.rows.ok.0)) c.push.new.self.items c.lone_row.result c.lone_row.ensures c.in_ok-push.ensures.items)
    (told_pushed c.self.inside.ids c.note_seen.new.self c.note_seen.ensures.kept c.args.self.now (told_of c.self.inside.store c.self.inside.rows.items c.self.inside.ids c.args.self.now c.self.view_is c.self.invariant) (lone (kind.Element (seen_name c.args.name) c.args.attributes.now)) (subst (λ (k : ℕ). IsTold c.note_seen.new.self (attribute (codes "id") c.args.attributes.now) k) number c.note_seen.ensures.told))

pub returns-clause-ok : goal.returns-clause-ok
returns-clause-ok c =
    let small : length c.self.inside.rows.items < 4294967295 = omega (arith, c.self.inside.rows.ok.0) in (
      c.len-number.ensures ∙ (c.self.inside.rows.ok.0 ∙ (seen_mirrors c.self.inside.store c.self.inside.rows.items c.args.self.now c.self.view_is c.self.invariant.linked).size),
      (push_written c.self.inside.store c.self.inside.rows.items c.args.self.now c.self.view_is c.self.invariant.linked c.push_seen.new.self c.push_seen.ensures.kept c.in_ok-kept.kept (kind.Element (seen_name c.args.name) c.args.attributes.now) c.in_ok-kept.ensures.ok small c.push.new.self.items c.lone_row.result c.lone_row.ensures c.in_ok-push.ensures.items).view,
    )

pub invariant_of-self : goal.invariant_of-self
invariant_of-self c = (grown_rows c.self.inside.store c.push_seen.new.self c.push_seen.ensures.kept c.self.inside.rows.items c.self.inside.ids c.self.inside.ids (kept_all c.self.inside.ids) c.args.self.now c.self.view_is c.self.invariant).0

pub returns-in_err-kept-clause-err : goal.returns-in_err-kept-clause-err
returns-in_err-kept-clause-err c = on_err_held c.from_residual.result (grown_rows c.self.inside.store c.push_seen.new.self c.push_seen.ensures.kept c.self.inside.rows.items c.self.inside.ids c.self.inside.ids (kept_all c.self.inside.ids) c.args.self.now c.self.view_is c.self.invariant).1

pub invariant_of-self-in_err-push : goal.invariant_of-self-in_err-push
invariant_of-self-in_err-push c =
    subst (λ (v : Rows). IsKept c.push_seen.new.self v c.note_seen.new.self) (sym c.in_err-push.ensures.items)
    (grown_rows c.self.inside.store c.push_seen.new.self c.push_seen.ensures.kept c.self.inside.rows.items c.self.inside.ids c.note_seen.new.self c.note_seen.ensures.kept c.args.self.now c.self.view_is c.self.invariant).0

pub returns-in_err-push-clause-err : goal.returns-in_err-push-clause-err
returns-in_err-push-clause-err c =
    on_err_held c.from_residual-in_err-push.result (ap (λ (v : Rows). seen c.push_seen.new.self v) c.in_err-push.ensures.items ∙ (grown_rows c.self.inside.store c.push_seen.new.self c.push_seen.ensures.kept c.self.inside.rows.items c.self.inside.ids c.note_seen.new.self c.note_seen.ensures.kept c.args.self.now c.self.view_is c.self.invariant).1)
