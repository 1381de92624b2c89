use Rattle.std.proofs.Common.{[], ◌∷◌, length, ap, ◌∙◌, arith, length-append}
use Rattle.std.specs.Str.{chars}
use Rattle.html_types.specs.declared.attributes.Attribute.{Attribute}
use Rattle.text_store.proofs.ListLemmas.{all_then, gets_then, list_of_marks}
use Rattle.text_store.proofs.KindLemmas.{other_means}
use Rattle.text_store.proofs.lists.Store.push_seen_other.Goals as goal

pub run_from-requires : goal.run_from-requires
run_from-requires c =
    let s = c.args.self.now in
    let first = c.push_mark.ensures.kept in
    let then = c.push_seen_marks.ensures.kept in
    omega (arith, c.len-from.ensures, s.marks.ok.0, ap length first.marks, length-append s.marks.items first.more, ap length then.marks, length-append c.push_mark.new.self.marks.items then.more)

pub returns-clause-ok : goal.returns-clause-ok
returns-clause-ok c =
    let s = c.args.self.now in
    let s' = c.push_seen_marks.new.self in
    let name : Attribute = record { name = chars c.args.name.now; value = chars [] } in
    let all = gets_then s c.push_mark.new.self s' (name ∷ []) c.args.list.now c.in_ok-push_mark.ensures.ok c.push_seen_marks.ensures.kept c.in_ok-push_seen_marks.ensures.ok in
    other_means s' c.args.space c.in_ok-place.place name c.args.list.now
    (list_of_marks s s' (name ∷ c.args.list.now) c.in_ok-place.place all (c.in_ok-place.ensures.from ∙ (c.len-from.ensures ∙ s.marks.ok.0)) c.in_ok-place.ensures.all)

pub returns-in_err-push_seen_marks-clause-kept : goal.returns-in_err-push_seen_marks-clause-kept
returns-in_err-push_seen_marks-clause-kept c = all_then c.args.self.now c.push_mark.new.self c.push_seen_marks.new.self c.push_mark.ensures.kept c.push_seen_marks.ensures.kept

pub returns-in_err-place-clause-kept : goal.returns-in_err-place-clause-kept
returns-in_err-place-clause-kept c = all_then c.args.self.now c.push_mark.new.self c.push_seen_marks.new.self c.push_mark.ensures.kept c.push_seen_marks.ensures.kept

pub returns-clause-kept : goal.returns-clause-kept
returns-clause-kept c = all_then c.args.self.now c.push_mark.new.self c.push_seen_marks.new.self c.push_mark.ensures.kept c.push_seen_marks.ensures.kept
