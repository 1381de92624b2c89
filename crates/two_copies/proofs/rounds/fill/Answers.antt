use Rattle.std.proofs.Common.{rules, arith, ◌≡◌, ℕ, ◌+◌, ◌*◌, ◌^◌, [], ◌∷◌, refl, sym, ap, ◌∙◌, Some}
use Rattle.atomic_table.specs.Table.{rest}
use Rattle.two_copies.specs.Sides.{plan_of, unit}
use Rattle.two_copies.specs.declared.part.Part.{Part}
use Rattle.two_copies.specs.declared.board.Plan.{Plan}
use Rattle.two_copies.specs.declared.board.Role.TheVariants.{Writer}
use Rattle.two_copies.proofs.SidesKept.{reaches, fills}
use Rattle.two_copies.proofs.rounds.fill.Goals as goal

pub loop-reader-init : goal.loop-reader-init
loop-reader-init g c = let p : Plan g.row.T.Denot = plan_of c.args.place.now c.args.part.now in let is : c.args.place.now.me.0.role ≡ Writer p = search rules in let none_yet : p.filled ≡ 0 = search rules in (
  (refl, refl, refl),
  (let all : c.args.part.now.count ≡ 2 ^ 63 = search rules in ap (λ (k : ℕ). let z : Part g.row.T.Denot = record c.args.part.now { count = k } in z) all),
  (p.spare, (is ∙ ap (λ (k : ℕ). let z : Plan g.row.T.Denot = record p { filled = k } in Writer z) none_yet, search rules), λ l. absurd (omega arith)),
)

pub load-requires : goal.load-requires
load-requires g c = let p : Plan g.row.T.Denot = plan_of c.args.place.now c.args.part.now in let held = c.loop-reader.invariant.2 in let i : ℕ = c.loop-reader.reader in
    let q : Plan g.row.T.Denot = record p { filled = i; spare = held.0 } in let none_left : p.left ≡ 0 = search rules in
    (search rules, search rules, reaches g.P.Protocol.holds _ _ _ q held.1.0 held.1.1 (none_left, search rules, search rules))

pub load-requires-in-loop-reader : goal.load-requires-in-loop-reader
load-requires-in-loop-reader g c = let p : Plan g.row.T.Denot = plan_of c.args.place.now c.args.part.now in let held = c.loop-reader.invariant.2 in let i : ℕ = c.loop-reader.reader in
    let q : Plan g.row.T.Denot = record p { filled = i; spare = held.0 } in let none_left : p.left ≡ 0 = search rules in
    let off : c.args.off ≡ p.off = search rules in let t = c.load.ensures.2.1 q held.1.0 in let now = c.exchange.ensures.3 in let q' : Plan g.row.T.Denot = record q { hand = i + 1 } in
    let u = c.split_one.result in let one : u ≡ unit c.args.part.now = search rules in
    let is : c.exchange.new.seat.me.0.role ≡ Writer q' = ap (λ m. m.0.role) now ∙ (t.1 ∙ ap (λ (z : Plan g.row.T.Denot). Writer z) t.2.0) in
    let carried : c.exchange.new.seat.me.1 ≡ (8 * i + p.off, Some u) ∷ [] = ap (λ m. m.1) now ∙ (λ j. (8 * i + off j, Some u) ∷ rest (t.2.1 j)) in
    (search rules, search rules, fills g.P.Protocol.holds _ _ _ q' u is (none_left, refl, search rules, (λ l. one ∙ sym (held.2 l)), carried))

pub loop-reader-preserved : goal.loop-reader-preserved
loop-reader-preserved g c = let p : Plan g.row.T.Denot = plan_of c.args.place.now c.args.part.now in let held = c.loop-reader.invariant.2 in let i : ℕ = c.loop-reader.reader in
    let q : Plan g.row.T.Denot = record p { filled = i; spare = held.0 } in let none_left : p.left ≡ 0 = search rules in
    let off : c.args.off ≡ p.off = search rules in let t = c.load.ensures.2.1 q held.1.0 in let now = c.exchange.ensures.3 in let q' : Plan g.row.T.Denot = record q { hand = i + 1 } in
    let u = c.split_one.result in let one : u ≡ unit c.args.part.now = search rules in
    let is : c.exchange.new.seat.me.0.role ≡ Writer q' = ap (λ m. m.0.role) now ∙ (t.1 ∙ ap (λ (z : Plan g.row.T.Denot). Writer z) t.2.0) in
    let carried : c.exchange.new.seat.me.1 ≡ (8 * i + p.off, Some u) ∷ [] = ap (λ m. m.1) now ∙ (λ j. (8 * i + off j, Some u) ∷ rest (t.2.1 j)) in
    let did = c.load-in-loop-reader.ensures.2 in let e = did.2 q' is in let no_hand : 0 ≡ p.hand = search rules in (
      search rules,
      search rules,
      (u, (e.1 ∙ (ap (λ (z : Plan g.row.T.Denot). Writer z) (e.2 _ u carried) ∙ ap (λ (k : ℕ). let z : Plan g.row.T.Denot = record p { filled = i + 1; hand = k; spare = u } in Writer z) no_hand), did.1), λ _. one),
    )
