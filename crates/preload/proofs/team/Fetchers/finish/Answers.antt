use Rattle.std.proofs.Common.{◌++◌, length, map, sym, ap, subst}
use Rattle.page_turns.specs.Scripts.{IsGiven, MayHelp, AnyOf}
use Rattle.preload.specs.Teams.{Team, helper_of, helps_first}
use Rattle.preload.proofs.team.Fetchers.finish.Goals as goal

pub returns-clause-through : goal.returns-clause-through
returns-clause-through g c name f some =
    c.end_all.ensures.through name f (subst (IsGiven name f) (sym (ap (λ (t : Team _). t.given) c.self.view_is)) some)

pub returns-clause-given : goal.returns-clause-given
returns-clause-given g c name came some =
    let seen = g.F.Outside.seen in
    let now = c.end_all.new.back.items in
    let here = c.end_all.ensures.given name came (subst (IsGiven name came) (sym (ap (λ (t : Team _). t.given) c.self.view_is)) some) in
    subst (λ (t : Team _). AnyOf (MayHelp t.dir name came) (helps_first t.used (map seen t.was) (map seen now))) c.self.view_is
    (subst (λ d. AnyOf (MayHelp d name came) (helps_first (length c.self.inside.members.items) (map seen (map helper_of c.self.inside.members.items ++ c.self.inside.rest.items)) (map seen now))) c.as_str.ensures.value here)
