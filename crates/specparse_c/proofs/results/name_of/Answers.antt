use Rattle.std.proofs.Common.{◌≡◌, inl, Option, None}
use Rattle.std.proofs.lemmas.Result.{IfOk-weaker}
use Rattle.std.specs.Prelude.{MatchOption}
use Rattle.std.specs.Str.{chars}
use Rattle.html_types.specs.declared.name.Name.{Name}
use Rattle.specparse_c.specs.Calls.{space_at, IsNameAt, IsNoName, IsName}
use Rattle.specparse_c.proofs.Failures.{name-of}
use Rattle.specparse_c.proofs.results.name_of.Goals as goal

pub returns-in-None : goal.returns-in-None
returns-in-None c = inl c.in-None.ensures

pub returns-in-Some : goal.returns-in-Some
returns-in-Some c =
    let text = c.in-Some.text.now in
    IfOk-weaker c.name_at.result (λ (o : Option Name). MatchOption o (space_at c.args.space ≡ None) (λ n. IsNameAt (chars text) c.args.space n))
    (λ (o : Option Name). MatchOption o (IsNoName c.args.name.now c.args.space) (λ n. IsName c.args.name.now c.args.space n))
    (name-of c.args.name.now text c.args.space c.in-Some.ensures.0 c.in-Some.ensures.1) c.name_at.ensures
