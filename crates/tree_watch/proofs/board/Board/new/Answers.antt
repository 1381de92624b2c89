use Rattle.std.proofs.Common.{rules, ◌≡◌, true, [], ◌∷◌, drop, sym, ap}
use Rattle.two_copies.specs.Sides.{view}
use Rattle.tree_watch.specs.declared.shown.Stand.{Stand}
use Rattle.tree_watch.specs.Rule.{latest}
use Rattle.tree_watch.specs.Boards.{begun}
use Rattle.tree_watch.proofs.Boards.{none-left}
use Rattle.tree_watch.proofs.board.Board.new.Goals as goal

pub invariant_of-result : goal.invariant_of-result
invariant_of-result g c =
    let head = c.open-head.result.0 in
    let leads : (view head.desk.place).leads ≡ true = search rules in
    let seen : (view head.desk.place).seen ≡ head.desk.shown.value ∷ [] = search rules in
    let shown : head.desk.shown.value ≡ begun = search rules in
    let pending : drop head.behind head.log.items ≡ [] = search rules in record {
      alone = leads;
      stands = sym (ap latest seen);
      opened = ap (λ (s : Stand). s.opened) shown;
      unmarked = λ _. ap (λ (s : Stand). s.last) shown;
      changes = λ _. none-left _ pending;
    }
