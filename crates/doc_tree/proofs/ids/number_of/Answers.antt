use Rattle.std.proofs.Common.{sym, ap, ◌∙◌}
use Rattle.std.specs.Hash.FoldHasher.{initial, write, finish}
use Rattle.std.specs.declared.hash.FoldHasher.{FoldHasher}
use Rattle.std.proofs.lemmas.Str.{encodes-chars}
use Rattle.doc_tree.specs.Holders.{key_of}
use Rattle.doc_tree.proofs.ids.number_of.Goals as goal

pub returns : goal.returns
unfolding key_of
returns c =
    let read = ap (write initial) (c.as_bytes.ensures.value ∙ sym (encodes-chars c.args.id.now c.utf8.id)) in
    c.finish.ensures ∙ ap finish (c.write.ensures ∙ (ap (λ (h : FoldHasher). write h c.as_bytes.result.now) c.default-hasher.ensures ∙ read))
