use Rattle.std.proofs.Common.{◌≡◌, ◌+◌, ◌++◌, ◌∷◌, List, take, drop, Result, Ok, Err, OnErr, refl, sym, ap, subst, ◌∙◌, arith}
use Rattle.std.proofs.lemmas.List.{take_all, take-append-drop}
use Rattle.html_types.specs.Operations.{spelled}
use Rattle.html_types.specs.declared.operation.Op.{Op}
use Rattle.standard.specs.Act.{Doc, acts, is_bound, AreOpsBound}
use Rattle.text_store.specs.Records.{seen_op}
use Rattle.op_exec.specs.Docs.{IsDoneInPart}
use Rattle.op_exec.proofs.Lists.{take_read, drop_read, turn-bound, turn-bound_after, turn-done, turn-part}
use Rattle.op_exec.proofs.doc.Doc.apply_all.Goals as goal

on_err : {T E : Type 0} (r : Result T E) (P : Type 0) → P → OnErr r P
on_err (Ok x) P h = tt
on_err (Err e) P h = h

pub loop-index-init : goal.loop-index-init
unfolding acts spelled
loop-index-init c = record {
  done = refl;
  bound = subst (λ (os : List Op). AreOpsBound (is_bound c.args.self.now.bound) os) (sym c.read-list.ensures) c.requires;
}

pub apply_spelled-requires : goal.apply_spelled-requires
apply_spelled-requires c =
    let all = c.read-list.result in
    let i = c.loop-index.index in
    let o = seen_op c.at.result in
    let next = subst (λ (os : List Op). AreOpsBound (is_bound c.loop-index.self.bound) (spelled os)) (drop_read all i o c.at.ensures) c.loop-index.invariant.bound in
    turn-bound c.args.self.now c.loop-index.self (take i all) o (drop (i + 1) all) c.loop-index.invariant.done next

pub returns-in_err-apply_spelled-clause-err : goal.returns-in_err-apply_spelled-clause-err
returns-in_err-apply_spelled-clause-err c =
    let all = c.read-list.result in
    let i = c.loop-index.index in
    let o = seen_op c.at.result in
    let next = subst (λ (os : List Op). AreOpsBound (is_bound c.loop-index.self.bound) (spelled os)) (drop_read all i o c.at.ensures) c.loop-index.invariant.bound in
    let part = turn-part c.args.self.now c.loop-index.self (take i all) o (drop (i + 1) all) c.loop-index.invariant.done next in
    let whole : take i all ++ o ∷ drop (i + 1) all ≡ all = ap (λ (os : List Op). take i all ++ os) (sym (drop_read all i o c.at.ensures)) ∙ take-append-drop i all in
    let done = subst (λ (os : List Op). IsDoneInPart c.args.self.now c.loop-index.self os) (ap (λ (os : List Op). spelled os) whole ∙ c.read-list.ensures) part in
    on_err _ _ (subst (λ (d : Doc). IsDoneInPart c.args.self.now d c.args.ops.now) (sym c.in_err-apply_spelled.ensures.err) done)

pub loop-index-preserved : goal.loop-index-preserved
loop-index-preserved c =
    let all = c.read-list.result in
    let i = c.loop-index.index in
    let o = seen_op c.at.result in
    let next = subst (λ (os : List Op). AreOpsBound (is_bound c.loop-index.self.bound) (spelled os)) (drop_read all i o c.at.ensures) c.loop-index.invariant.bound in
    let done = turn-done c.args.self.now c.loop-index.self (take i all) o (drop (i + 1) all) c.loop-index.invariant.done next c.apply_spelled.new.self c.in_ok-apply_spelled.ensures.ok in
    record {
      done = done ∙ ap (λ (os : List Op). acts c.args.self.now (spelled os)) (sym (take_read all i o c.at.ensures));
      bound = turn-bound_after c.args.self.now c.loop-index.self (take i all) o (drop (i + 1) all) c.loop-index.invariant.done next c.apply_spelled.new.self c.in_ok-apply_spelled.ensures.ok;
    }

pub returns-clause-ok : goal.returns-clause-ok
returns-clause-ok c =
    let all = c.read-list.result in
    let whole = take_all c.loop-index.index all (omega (arith, c.len-count.ensures)) in
    c.loop-index.invariant.done ∙ (ap (λ (os : List Op). acts c.args.self.now (spelled os)) whole ∙ ap (λ (os : List Op). acts c.args.self.now os) c.read-list.ensures)
