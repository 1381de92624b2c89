use Rattle.std.proofs.Common.{rules, ◌≡◌, ℕ, ◌+◌, ◌*◌, ◌∷◌, sym, ap, ◌∙◌, subst, Some, None}
use Rattle.atomic_table.specs.Table.{rest}
use Rattle.two_copies.specs.declared.board.Role.TheVariants.{Holds}
use Rattle.two_copies.proofs.SidesKept.{is_posed, enters, looks, backs_out}
use Rattle.crossbeam_utils.specs.Register.{Turns}
use Rattle.two_copies.proofs.reader.Reader.enter_as.Goals as goal

pub fetch_add-requires : goal.fetch_add-requires
fetch_add-requires g c = (search rules, search rules, enters g.P.Protocol.holds _ _ _ _ (ap (λ s. s.me.0.role) c.args.self.out))

pub load-side-requires : goal.load-side-requires
load-side-requires g c = let went = c.fetch_add.ensures in (
  search rules,
  search rules,
  looks g.P.Protocol.holds g.M.Outcome.then _ _ _ _ (went.2.2 _ (ap (λ s. s.me.0.role) c.args.self.out))
      (subst (λ (z : ℕ × g.row.V.Denot). Turns g.P.Protocol.holds z.0 z.1 (λ x. x) g.M.Outcome.then) (λ i. (sym went.1 i, sym went.2.0 i)) c.requires),
)

pub fetch_add-requires-then-side-ge2 : goal.fetch_add-requires-then-side-ge2
fetch_add-requires-then-side-ge2 g c = let inside = c.fetch_add.ensures.2.2 _ (ap (λ s. s.me.0.role) c.args.self.out) in let same = (c.load-side.ensures.2 _ inside).1 (search rules) in
    (search rules, search rules, backs_out g.P.Protocol.holds _ _ _ _ (ap (λ m. m.0.role) same ∙ inside))

pub invariant_of-result : goal.invariant_of-result
invariant_of-result g c = let went = c.fetch_add.ensures.2 in let inside = went.2 _ (ap (λ s. s.me.0.role) c.args.self.out) in let bare = went.1 ∙ ap (λ s. s.me.1) c.args.self.out in let saw = c.load-side.ensures.2 _ inside in
    let same = saw.1 (search rules) in let back = c.fetch_add-then-side-ge2.ensures.2 in record {
      seated = search rules;
      inside = search rules;
      out = is_posed _ _ _ (back.2 _ (ap (λ m. m.0.role) same ∙ inside)) (back.1 ∙ (ap (λ m. m.1) same ∙ bare));
    }

pub exchange-requires : goal.exchange-requires
exchange-requires g c = let went = c.fetch_add.ensures.2 in let inside = went.2 _ (ap (λ s. s.me.0.role) c.args.self.out) in let bare = went.1 ∙ ap (λ s. s.me.1) c.args.self.out in let saw = c.load-side.ensures.2 _ inside in
    let took = saw.0 (search rules) in (search rules, (_, took.2 ∙ ap (λ cs. (8 * c.args.self.index + c.load-side.result, Some took.0) ∷ rest cs) (sym took.2)))

pub invariant_of-result-2 : goal.invariant_of-result-2
invariant_of-result-2 g c = let went = c.fetch_add.ensures.2 in let inside = went.2 _ (ap (λ s. s.me.0.role) c.args.self.out) in let bare = went.1 ∙ ap (λ s. s.me.1) c.args.self.out in let saw = c.load-side.ensures.2 _ inside in
    let took = saw.0 (search rules) in let now = c.exchange.ensures.3 in let same : took.0 ≡ c.unwrap-part.result = search rules in record {
      seated = search rules;
      inside = search rules;
      holds = is_posed _ _ _ (ap (λ m. m.0.role) now ∙ (took.1 ∙ ap (Holds c.args.self.index c.load-side.result) same))
          (ap (λ m. m.1) now ∙ ap (λ cs. (8 * c.args.self.index + c.load-side.result, None) ∷ cs) (ap rest took.2 ∙ bare));
    }
