use Rattle.std.proofs.Common.{◌∙◌, ◌≤◌, length, true≢false, sym, subst}
use Rattle.page_turns.proofs.WatchLemmas.{none_seen, few_none}
use Rattle.page_runner.proofs.PublishingLemmas.{last_behind, front_whole}
use Rattle.page_runner.proofs.publisher.publish.Goals as goal

pub returns : goal.returns
returns g c =
    let f = c.follow-told.ensures.followed in
    record {
      same = c.follow-told.ensures.lane;
      words = f.words;
      ended = f.ended;
      last = last_behind f.words _ c.finish-seen.result.0.items (front_whole f.words _ _ f.shown c.if-not-all.false) c.finish-seen.ensures.seen;
      count = λ all. c.finish-seen.ensures.count all ∙ (c.follow-told.ensures.count ∙ c.begin-watching.ensures.count);
      few = subst (λ n. length c.finish-seen.result.0.items ≤ n) (c.follow-told.ensures.count ∙ c.begin-watching.ensures.count) c.finish-seen.ensures.few;
    }

pub returns-then-not-all : goal.returns-then-not-all
returns-then-not-all g c =
    let f = c.follow-told.ensures.followed in
    record {
      same = c.follow-told.ensures.lane;
      words = f.words;
      ended = f.ended;
      last = none_seen _ _ c.none_seen.ensures;
      count = λ all. absurd (true≢false (sym all));
      few = few_none _ _ c.none_seen.ensures;
    }
