use Rattle.std.proofs.Common.{rules, ◌≡◌, ℕ, length, drop, fold, sym, ap, ◌∙◌, subst}
use lib.Seq.{drop-length}
use Rattle.two_copies.specs.Log.{InStep}
use Rattle.crossbeam_utils.specs.Register.{TurnsAt}
use Rattle.two_copies.proofs.LogKept.{opened, all_in, swapped}
use Rattle.two_copies.proofs.writer.Writer.publish_as.Goals as goal

pub bring_up-behind-requires : goal.bring_up-behind-requires
bring_up-behind-requires g c = let applied = g.T.Absorb.applied in let state = g.T.Absorb.state in let w = c.args.self in
    let h = opened applied (state w.desk.shown.value) (state w.desk.spare.value) g.row.T-State.coded w.log.items w.behind w.ahead w.in_step in
    let a : w.desk.shown.value ≡ c.get.result.now = search rules in let b : w.desk.spare.value ≡ c.deref_mut.result.now = search rules in
    subst (λ (z : g.row.T.Denot × g.row.T.Denot). InStep applied (state z.0) (state z.1) w.log.items w.behind w.ahead) (λ i. (a i, b i)) h

pub show_as-requires : goal.show_as-requires
show_as-requires g c = let applied = g.T.Absorb.applied in let state = g.T.Absorb.state in let w = c.args.self in let up = c.bring_up-behind in let log = up.new.log.items in
    let none : up.result.0 ≡ 0 = search rules in let all : up.result.1 ≡ length log = search rules in let shown : c.get.result.now ≡ w.desk.shown.value = search rules in
    let pending : log ≡ drop w.behind w.log.items = (λ i. drop (sym none i) log) ∙ up.ensures.pending in
    let full : state up.new.spare ≡ fold applied (state w.desk.shown.value) log = all_in applied _ _ log _ _ none all up.ensures.in_step ∙ ap (λ x. fold applied (state x) log) shown in
    let o = c.open-open.result.0 in let same = c.open-open.ensures in
    subst (λ (z : ℕ × g.row.V.Denot × g.row.T.Denot). TurnsAt g.P.Protocol.holds z.0 z.1 z.2 up.new.spare g.M.Outcome.then)
    (λ i. (sym same.seat.0 i, sym same.seat.1 i, sym (ap (λ p. p.value) same.values.0) i)) (c.requires up.new.spare (full ∙ ap (fold applied (state w.desk.shown.value)) pending))

pub invariant_of-writer : goal.invariant_of-writer
invariant_of-writer g c = let applied = g.T.Absorb.applied in let state = g.T.Absorb.state in let w = c.args.self in let up = c.bring_up-behind in let log = up.new.log.items in
    let none : up.result.0 ≡ 0 = search rules in let all : up.result.1 ≡ length log = search rules in let shown : c.get.result.now ≡ w.desk.shown.value = search rules in
    let pending : log ≡ drop w.behind w.log.items = (λ i. drop (sym none i) log) ∙ up.ensures.pending in
    let full : state up.new.spare ≡ fold applied (state w.desk.shown.value) log = all_in applied _ _ log _ _ none all up.ensures.in_step ∙ ap (λ x. fold applied (state x) log) shown in
    let d = c.show_as.result in let a : up.new.spare ≡ d.shown.value = search rules in let b : w.desk.shown.value ≡ d.spare.value = search rules in
    record { in_step = ∣ subst (λ (z : g.row.T.Denot × g.row.T.Denot). InStep applied (state z.0) (state z.1) log up.result.1 0) (λ i. (a i, b i)) (swapped applied _ _ log _ all full) ∣₁ }

pub returns-then-ahead-len-clause-values : goal.returns-then-ahead-len-clause-values
returns-then-ahead-len-clause-values g c = let applied = g.T.Absorb.applied in let state = g.T.Absorb.state in let w = c.args.self in let up = c.bring_up-behind in let log = up.new.log.items in
    let none : up.result.0 ≡ 0 = search rules in let all : up.result.1 ≡ length log = search rules in let shown : c.get.result.now ≡ w.desk.shown.value = search rules in
    let pending : log ≡ drop w.behind w.log.items = (λ i. drop (sym none i) log) ∙ up.ensures.pending in
    let full : state up.new.spare ≡ fold applied (state w.desk.shown.value) log = all_in applied _ _ log _ _ none all up.ensures.in_step ∙ ap (λ x. fold applied (state x) log) shown in
    let a : c.show_as.result.shown.value ≡ up.new.spare = search rules in (ap state a ∙ (full ∙ ap (fold applied (state w.desk.shown.value)) pending), ap (λ k. drop k log) all ∙ drop-length log)

pub invariant_of-writer-2 : goal.invariant_of-writer-2
invariant_of-writer-2 g c = let applied = g.T.Absorb.applied in let state = g.T.Absorb.state in let up = c.bring_up-behind in let d = c.shelve.result in
    let a : c.get.result.now ≡ d.shown.value = search rules in let b : up.new.spare ≡ d.spare.value = search rules in
    record { in_step = ∣ subst (λ (z : g.row.T.Denot × g.row.T.Denot). InStep applied (state z.0) (state z.1) up.new.log.items up.result.0 up.result.1) (λ i. (a i, b i)) up.ensures.in_step ∣₁ }
