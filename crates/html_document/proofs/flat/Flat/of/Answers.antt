use Rattle.std.proofs.Common.{◌<◌, ◌≤◌, length, subst, arith}
use Rattle.html_document.specs.declared.spans.TheConstants.{NONE}
use Rattle.html_document.proofs.Lists.{shows-begun, shows-next, shows-all}
use Rattle.html_document.proofs.flat.Flat.of.Goals as goal

pub loop-node-init : goal.loop-node-init
loop-node-init c =
    shows-begun c.args.tree.now c.in_ok-flat.flat.nodes.items c.in_ok-flat.flat.attributes.items c.in_ok-flat.flat.text.items c.in_ok-flat.ensures.nodes c.in_ok-flat.ensures.attributes
    c.in_ok-flat.ensures.text

pub loop-node-preserved : goal.loop-node-preserved
loop-node-preserved c =
    let here : c.loop-node.node < length c.args.tree.now = omega (arith, c.len-count.ensures.len) in
    shows-next c.args.tree.now c.loop-node.node c.loop-node.flat c.push_node.new.flat here c.loop-node.invariant c.in_ok-push_node.ensures

pub returns : goal.returns
returns c =
    let count = c.len-count.ensures.len in
    shows-all c.args.tree.now c.loop-node.node c.loop-node.flat.nodes.items c.loop-node.flat.attributes.items c.loop-node.flat.text.items (omega (arith, count))
    (subst (λ n. n ≤ NONE) count c.in_ok-flat.ensures.small) c.loop-node.invariant
