use Rattle.std.proofs.Common.{inl, inr, subst, sym}
use Rattle.specparse_c.specs.Calls.{IsNoName, IsName}
use Rattle.specparse_c.proofs.results.context_of.Goals as goal

pub returns-then-unknown-clause-failure : goal.returns-then-unknown-clause-failure
returns-then-unknown-clause-failure c = inr c.if-unknown.true

pub returns-in-None-clause-failure : goal.returns-in-None-clause-failure
returns-in-None-clause-failure c = let none : IsNoName c.args.name.now c.args.space = rw c.in-None.is at c.in_ok-named.ensures in inl none

pub returns-in-Some-clause-context : goal.returns-in-Some-clause-context
returns-in-Some-clause-context c =
    let named : IsName c.args.name.now c.args.space c.in-Some.name = rw c.in-Some.is at c.in_ok-named.ensures in
    record {
      named = subst (λ n. IsName c.args.name.now c.args.space n) (sym c.context_with.ensures.name) named;
      few = c.if-unknown.false;
      html_point = c.context_with.ensures.html_point;
      form = c.context_with.ensures.form;
      quirks = c.context_with.ensures.quirks;
    }
