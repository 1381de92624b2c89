use Rattle.std.proofs.Common.{sym, ap, ◌∙◌}
use Rattle.standard.specs.Tree.{find_id}
use Rattle.write_parser.proofs.MadeLemmas.{move-logged, lacks-first-logged, lacks-second-logged}
use Rattle.write_parser.proofs.StatementLemmas.{appended-done, appended-impossible, lacks-first, lacks-second}
use Rattle.write_parser.proofs.live.Live.append.Goals as goal

pub returns-in_default-clause-does : goal.returns-in_default-clause-does
returns-in_default-clause-does c =
    let tree = c.args.self.now.doc.tree in
    lacks-first c.args.self.now (find_id tree c.args.first.now) (find_id tree c.args.second.now) (sym (c.in_default.ensures.found ∙ ap (find_id tree) c.as_str.ensures))

pub returns-in_default-find_id-clause-does : goal.returns-in_default-find_id-clause-does
returns-in_default-find_id-clause-does c =
    let tree = c.args.self.now.doc.tree in
    lacks-second c.args.self.now (find_id tree c.args.first.now) (find_id tree c.args.second.now) c.in-Some.first (sym (c.in-Some.ensures.found ∙ ap (find_id tree) c.as_str.ensures))
    (sym (c.in_default-find_id.ensures.found ∙ ap (find_id tree) c.as_str-2.ensures))

pub returns-in-Done-clause-does : goal.returns-in-Done-clause-does
returns-in-Done-clause-does c =
    let tree = c.args.self.now.doc.tree in
    appended-done c.args.self.now c.move_last.new.doc (find_id tree c.args.first.now) (find_id tree c.args.second.now) c.in-Some.first c.in-Some-find_id.second
    (sym (c.in-Some.ensures.found ∙ ap (find_id tree) c.as_str.ensures)) (sym (c.in-Some-find_id.ensures.found ∙ ap (find_id tree) c.as_str-2.ensures))
    c.in_ok-move_last.ensures.ok (sym c.in-Done.is ∙ c.in_ok-move_last.ensures.answer)

pub returns-in-Impossible-clause-does : goal.returns-in-Impossible-clause-does
returns-in-Impossible-clause-does c =
    let tree = c.args.self.now.doc.tree in
    appended-impossible c.args.self.now c.move_last.new.doc (find_id tree c.args.first.now) (find_id tree c.args.second.now) c.in-Some.first c.in-Some-find_id.second
    (sym (c.in-Some.ensures.found ∙ ap (find_id tree) c.as_str.ensures)) (sym (c.in-Some-find_id.ensures.found ∙ ap (find_id tree) c.as_str-2.ensures))
    c.in_ok-move_last.ensures.ok (sym c.in-Impossible.is ∙ c.in_ok-move_last.ensures.answer)

pub returns-in_default-clause-logged : goal.returns-in_default-clause-logged
returns-in_default-clause-logged c =
    let tree = c.args.self.now.doc.tree in
    lacks-first-logged tree (find_id tree c.args.first.now) (find_id tree c.args.second.now) c.args.log.now (sym (c.in_default.ensures.found ∙ ap (find_id tree) c.as_str.ensures))

pub returns-in_default-find_id-clause-logged : goal.returns-in_default-find_id-clause-logged
returns-in_default-find_id-clause-logged c =
    let tree = c.args.self.now.doc.tree in
    lacks-second-logged tree (find_id tree c.args.first.now) (find_id tree c.args.second.now) c.in-Some.first c.args.log.now (sym (c.in-Some.ensures.found ∙ ap (find_id tree) c.as_str.ensures))
    (sym (c.in_default-find_id.ensures.found ∙ ap (find_id tree) c.as_str-2.ensures))

pub returns-in-Done-clause-logged : goal.returns-in-Done-clause-logged
returns-in-Done-clause-logged c =
    let tree = c.args.self.now.doc.tree in
    move-logged tree (find_id tree c.args.first.now) (find_id tree c.args.second.now) c.in-Some.first c.in-Some-find_id.second c.args.log.now c.move_last.new.self
    (sym (c.in-Some.ensures.found ∙ ap (find_id tree) c.as_str.ensures)) (sym (c.in-Some-find_id.ensures.found ∙ ap (find_id tree) c.as_str-2.ensures))
    c.in_ok-move_last.ensures.adds

pub returns-in-Impossible-clause-logged : goal.returns-in-Impossible-clause-logged
returns-in-Impossible-clause-logged c =
    let tree = c.args.self.now.doc.tree in
    move-logged tree (find_id tree c.args.first.now) (find_id tree c.args.second.now) c.in-Some.first c.in-Some-find_id.second c.args.log.now c.move_last.new.self
    (sym (c.in-Some.ensures.found ∙ ap (find_id tree) c.as_str.ensures)) (sym (c.in-Some-find_id.ensures.found ∙ ap (find_id tree) c.as_str-2.ensures))
    c.in_ok-move_last.ensures.adds
