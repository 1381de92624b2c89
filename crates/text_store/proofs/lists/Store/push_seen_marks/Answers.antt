use Rattle.std.proofs.Common.{◌≡◌, ◌+◌, ◌++◌, ◌∷◌, [], List, take, subst, ◌∙◌, arith}
use Rattle.std.proofs.lemmas.List.{take_all}
use Rattle.html_types.specs.declared.attributes.Attribute.{Attribute}
use Rattle.text_store.specs.Lists.{GetsMarks}
use Rattle.text_store.specs.Views.{seen_attribute}
use Rattle.text_store.proofs.ListLemmas.{all_then, gets_then, take_seen}
use Rattle.text_store.proofs.lists.Store.push_seen_marks.Goals as goal

pub loop-index-preserved : goal.loop-index-preserved
loop-index-preserved c =
    let i = c.loop-index.index in
    let all = c.args.list.now in
    let a = seen_attribute c.at-seen.result in
    let s = c.loop-index.self in
    let s' = c.push_mark.new.self in
    let front : take (i + 1) all ≡ take i all ++ a ∷ [] = take_seen all i a c.at-seen.ensures in record {
      kept = all_then c.args.self.now s s' c.loop-index.invariant.kept c.push_mark.ensures.kept;
      gets = rw front (gets_then c.args.self.now s s' (take i all) (a ∷ []) c.loop-index.invariant.gets c.push_mark.ensures.kept c.in_ok-push_mark.ensures.ok);
    }

pub returns-clause-ok : goal.returns-clause-ok
returns-clause-ok c =
    subst (λ (l : List Attribute). GetsMarks c.args.self.now c.loop-index.self l) (take_all c.loop-index.index c.args.list.now (omega (arith, c.len-count.ensures))) c.loop-index.invariant.gets
