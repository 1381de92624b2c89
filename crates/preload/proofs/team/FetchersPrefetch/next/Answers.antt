use Rattle.std.proofs.Common.{subst}
use Rattle.std.specs.Str.{chars}
use Rattle.preload.specs.Teams.{HasPlace}
use Rattle.preload.proofs.team.FetchersPrefetch.next.Goals as goal

pub take_next_in-requires-clause-place : goal.take_next_in-requires-clause-place
take_next_in-requires-clause-place g c =
    let name = chars c.args.name.now in
    (name, subst (HasPlace name c.in-Some.at.0 c.in-Some.at.1) c.deref.ensures.value c.in-Some.ensures.some)
