use Rattle.std.proofs.Common.{rules, arith, ◌≡◌, ◌+◌, ◌-◌, ◌*◌, [], ◌∷◌, slice_index, refl, sym, ap, ◌∙◌, inl, inr, Some, None}
use Rattle.atomic_table.specs.Table.{rest}
use Rattle.two_copies.specs.Sides.{Gone, plan_of}
use Rattle.two_copies.specs.declared.board.Plan.{Plan}
use Rattle.two_copies.specs.declared.board.Role.TheVariants.{Writer}
use Rattle.two_copies.proofs.SidesKept.{gathers, empties}
use Rattle.two_copies.proofs.rounds.take_back.Goals.{then-epoch-seen-via-then-epoch-seen, then-epoch-seen-via-else-epoch-seen+then-seen-eq0}
use Rattle.two_copies.proofs.rounds.take_back.Goals as goal

pub load-epoch-requires : goal.load-epoch-requires
load-epoch-requires g c = let p : Plan g.row.T.Denot = plan_of c.args.place.now c.args.like.now in let at_start : c.args.place.now.me.0.role ≡ Writer p = search rules in
    let is : c.loop.place.me.0.role ≡ Writer p = ap (λ m. m.0.role) c.loop.invariant.1 ∙ at_start in
    (search rules, search rules, gathers g.P.Protocol.holds _ _ _ p _ is (search rules) (search rules) (search rules, search rules, search rules))

pub exchange-requires : goal.exchange-requires
exchange-requires g c = let p : Plan g.row.T.Denot = plan_of c.args.place.now c.args.like.now in let at_start : c.args.place.now.me.0.role ≡ Writer p = search rules in
    let is : c.loop.place.me.0.role ≡ Writer p = ap (λ m. m.0.role) c.loop.invariant.1 ∙ at_start in
    let next : c.args.reader + 1 ≡ p.left = search rules in let back : p.left - 1 ≡ c.args.reader = omega arith in let off : c.args.off ≡ p.off = search rules in
    let seen : c.args.seen ≡ slice_index p.last c.args.reader = search rules in let seen' : c.args.seen ≡ slice_index p.last (p.left - 1) = seen ∙ ap (slice_index p.last) (sym back) in
    let gone : Gone p c.load-epoch.result = elim c.then-epoch-seen.branch [
      | then-epoch-seen-via-then-epoch-seen w ↦ inl (search rules)
      | then-epoch-seen-via-else-epoch-seen+then-seen-eq0 w ↦ inr (search rules)
    ] in let t = c.load-epoch.ensures.2.1 p is in let got = t.2.0 gone in
    let carried : c.load-epoch.new.seat.me.1 ≡ (8 * c.args.reader + c.args.off, Some p.spare) ∷ [] = got.1 ∙ (λ i. (8 * back i + sym off i, Some p.spare) ∷ []) in
    (search rules, (Some p.spare, carried ∙ ap (λ cs. (8 * c.args.reader + c.args.off, Some p.spare) ∷ rest cs) (sym carried)))

pub load-requires : goal.load-requires
load-requires g c = let p : Plan g.row.T.Denot = plan_of c.args.place.now c.args.like.now in let at_start : c.args.place.now.me.0.role ≡ Writer p = search rules in
    let is : c.loop.place.me.0.role ≡ Writer p = ap (λ m. m.0.role) c.loop.invariant.1 ∙ at_start in
    let next : c.args.reader + 1 ≡ p.left = search rules in let back : p.left - 1 ≡ c.args.reader = omega arith in let off : c.args.off ≡ p.off = search rules in
    let seen : c.args.seen ≡ slice_index p.last c.args.reader = search rules in let seen' : c.args.seen ≡ slice_index p.last (p.left - 1) = seen ∙ ap (slice_index p.last) (sym back) in
    let gone : Gone p c.load-epoch.result = elim c.then-epoch-seen.branch [
      | then-epoch-seen-via-then-epoch-seen w ↦ inl (search rules)
      | then-epoch-seen-via-else-epoch-seen+then-seen-eq0 w ↦ inr (search rules)
    ] in let t = c.load-epoch.ensures.2.1 p is in let got = t.2.0 gone in
    let carried : c.load-epoch.new.seat.me.1 ≡ (8 * c.args.reader + c.args.off, Some p.spare) ∷ [] = got.1 ∙ (λ i. (8 * back i + sym off i, Some p.spare) ∷ []) in
    let now = c.exchange.ensures.3 in let p' : Plan g.row.T.Denot = record p { hand = p.left } in (
      search rules,
      search rules,
      empties g.P.Protocol.holds _ _ _ p' c.args.reader (ap (λ m. m.0.role) now ∙ (t.1 ∙ ap (λ (z : Plan g.row.T.Denot). Writer z) got.0)) (search rules)
          (next, refl, search rules, ap (λ m. m.1) now ∙ (λ i. (8 * c.args.reader + off i, None) ∷ rest (carried i))),
    )
