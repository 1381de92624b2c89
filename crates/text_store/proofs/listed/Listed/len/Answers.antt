use Rattle.std.proofs.Common.{ℕ, ◌+◌, length, map, sym, ap, ◌∙◌, length-append}
use Rattle.std.proofs.lemmas.List.{length-map}
use Rattle.text_store.specs.Lists.{mark_at}
use Rattle.text_store.proofs.listed.Listed.len.Goals as goal

pub returns : goal.returns
returns c =
    let s = c.self.inside.texts.now in
    let ms = c.self.inside.marks.now in
    let more = c.self.inside.more.now in
    sym (ap length (sym c.self.view_is) ∙ (length-append (map (mark_at s) ms) more ∙ ap (λ (n : ℕ). n + length more) (length-map ms (mark_at s))))
