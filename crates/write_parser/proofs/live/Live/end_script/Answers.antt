use Rattle.std.proofs.Common.{◌≡◌, ◌-◌, ◌++◌, [], take, ap, ◌∙◌}
use Rattle.std.proofs.lemmas.List.{drop_all}
use Rattle.write_parser.specs.declared.live.Live.{Live}
use Rattle.write_parser.specs.declared.nesting.Nesting.{Nesting}
use Rattle.write_parser.proofs.NestingLemmas.{step-ends-outermost, step-ends-inner}
use Rattle.write_parser.proofs.MadeLemmas.{outermost-ends, inner-ends}
use Rattle.write_parser.proofs.live.Live.end_script.Goals as goal

pub returns-in_ok-put_front-in-None-clause-steps : goal.returns-in_ok-put_front-in-None-clause-steps
returns-in_ok-put_front-in-None-clause-steps c = λ es.
    let old : Live = c.args.self.now in
    let n : Nesting = c.args.nesting.now in
    let none : n.below.items ≡ [] = c.in-None.ensures.items ∙ ap (λ l. l ++ []) (c.in-None.ensures.rest ∙ ap (λ k. take (k - 1) n.below.items) c.in-None.ensures.cases.0) in
    step-ends-outermost es old (record old { rest = c.put_front.new.self }) n
    (record { top = record n.top { rest = c.replace-rest.new.dest }; below = c.pop.new.self }) c.requires.going c.requires.waits
    (drop_all n.top.done n.top.script c.requires.ended) none
    (ap (λ r. record old { rest = r }) (c.in_ok-put_front-in-None.ensures ∙ ap (λ r. r ++ old.rest) c.replace-rest.ensures.value))

pub returns-in_ok-put_front-in-Some-clause-steps : goal.returns-in_ok-put_front-in-Some-clause-steps
returns-in_ok-put_front-in-Some-clause-steps c = λ es.
    let old : Live = c.args.self.now in
    let n : Nesting = c.args.nesting.now in
    step-ends-inner es old n (record { top = record c.in-Some.around { rest = c.put_front-in-Some.new.self }; below = c.pop.new.self }) c.in-Some.around c.requires.going c.requires.waits
    (drop_all n.top.done n.top.script c.requires.ended) c.in-Some.ensures.items
    (ap (λ r. record c.in-Some.around { rest = r }) (c.in_ok-put_front-in-Some.ensures ∙ ap (λ r. r ++ c.in-Some.around.rest) c.replace-rest.ensures.value))

pub returns-in_ok-put_front-in-None-clause-ends : goal.returns-in_ok-put_front-in-None-clause-ends
returns-in_ok-put_front-in-None-clause-ends c =
    let old : Live = c.args.self.now in
    let n : Nesting = c.args.nesting.now in
    let none : n.below.items ≡ [] = c.in-None.ensures.items ∙ ap (λ l. l ++ []) (c.in-None.ensures.rest ∙ ap (λ k. take (k - 1) n.below.items) c.in-None.ensures.cases.0) in
    outermost-ends old (record old { rest = c.put_front.new.self }) n c.requires.waits (drop_all n.top.done n.top.script c.requires.ended) none
    (ap (λ r. record old { rest = r }) (c.in_ok-put_front-in-None.ensures ∙ ap (λ r. r ++ old.rest) c.replace-rest.ensures.value))

pub returns-in_ok-put_front-in-Some-clause-ends : goal.returns-in_ok-put_front-in-Some-clause-ends
returns-in_ok-put_front-in-Some-clause-ends c =
    let old : Live = c.args.self.now in
    let n : Nesting = c.args.nesting.now in
    inner-ends old n (record { top = record c.in-Some.around { rest = c.put_front-in-Some.new.self }; below = c.pop.new.self }) c.in-Some.around c.requires.waits
    (drop_all n.top.done n.top.script c.requires.ended) c.in-Some.ensures.items
    (ap (λ r. record c.in-Some.around { rest = r }) (c.in_ok-put_front-in-Some.ensures ∙ ap (λ r. r ++ c.in-Some.around.rest) c.replace-rest.ensures.value))
