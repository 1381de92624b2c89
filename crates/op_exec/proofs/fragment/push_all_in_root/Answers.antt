use Rattle.std.proofs.Common.{◌≡◌, ◌++◌, List, take, sym, ap, ◌∙◌, append-nil, arith}
use Rattle.std.proofs.lemmas.List.{take_all}
use Rattle.html_types.specs.Operations.{spelled}
use Rattle.html_types.specs.declared.operation.Op.{Op}
use Rattle.standard.specs.Fragment.{all_in_root}
use Rattle.text_store.specs.Records.{seen_op}
use Rattle.op_exec.proofs.Lists.{rooted, take_read, turn-rooted}
use Rattle.op_exec.proofs.fragment.push_all_in_root.Goals as goal

pub loop-index-init : goal.loop-index-init
unfolding spelled
loop-index-init c = record { added = sym (append-nil c.args.all.now) }

pub loop-index-preserved : goal.loop-index-preserved
loop-index-preserved c =
    let all = c.read-list.result in
    let i = c.loop-index.index in
    let o = seen_op c.at.result in record {
      added = turn-rooted c.args.all.now c.loop-index.all c.push_in_root.new.all (take i all) o c.loop-index.invariant.added c.in_ok-push_in_root.ensures
          ∙ ap (λ (os : List Op). c.args.all.now ++ rooted os) (sym (take_read all i o c.at.ensures));
    }

pub returns : goal.returns
returns c =
    let all = c.read-list.result in
    let whole = take_all c.loop-index.index all (omega (arith, c.len-count.ensures)) in
    c.loop-index.invariant.added ∙ (ap (λ (os : List Op). c.args.all.now ++ rooted os) whole ∙ ap (λ (os : List Op). c.args.all.now ++ all_in_root os) c.read-list.ensures)
