use Rattle.std.proofs.Common.{sym, subst, ◌∙◌}
use Rattle.page_turns.specs.Watched.{AreLast}
use Rattle.page_runner.specs.declared.publisher.ToPublisher.{ToPublisher}
use Rattle.std.specs.Prelude.{List}
use Rattle.page_runner.specs.Publishing.{shows_behind}
use Rattle.page_runner.proofs.PublishingLemmas.{all_told}
use Rattle.page_runner.proofs.publisher.call_back.Goals as goal

pub meet-met-requires : goal.meet-met-requires
meet-met-requires g c = c.end.ensures.0 ∙ (c.put.ensures.lane ∙ (sym c.requires.lane ∙ sym c.join-seen.ensures.same))

pub returns-clause-seen : goal.returns-clause-seen
returns-clause-seen g c =
    let p = c.join-seen.ensures in
    let m = c.meet-met.ensures in
    let all = all_told p.words c.args.put.put c.meet-met.result.taken c.meet-met.result.put c.requires.did m.prefix (m.taken ∙ p.ended) (m.put ∙ (c.end.ensures.1 ∙ c.put.ensures.put)) in
    subst (λ (ws : List ToPublisher). AreLast (shows_behind ws).doc c.join-seen.result.seen.items) all p.last

pub returns-clause-few : goal.returns-clause-few
returns-clause-few g c = c.join-seen.ensures.few
