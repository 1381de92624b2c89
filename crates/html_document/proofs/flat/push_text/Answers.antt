use Rattle.std.proofs.Common.{◌≡◌, ◌∙◌, ◌++◌, length, sym, ap, arith}
use Rattle.std.specs.Str.{chars}
use Rattle.std.proofs.lemmas.Str.{encodes-chars}
use Rattle.html_document.proofs.Lists.{text-added}
use Rattle.html_document.proofs.flat.push_text.Goals as goal

pub returns-clause-added : goal.returns-clause-added
returns-clause-added c =
    c.in_ok-extend_from_slice.ensures.items
    ∙ ap (λ bs. c.args.text.now.items ++ bs) (c.as_bytes.ensures.value ∙ sym (encodes-chars c.args.added.now c.utf8.added))

pub returns-clause-place : goal.returns-clause-place
returns-clause-place c =
    let start : c.in_ok-start.start ≡ length c.args.text.now.items = omega (arith, c.in_ok-start.ensures.same, c.len.ensures, c.args.text.now.ok.0) in
    let long : c.in_ok-bytes.bytes ≡ length c.as_bytes.result.now = omega (arith, c.in_ok-bytes.ensures.same, c.as_bytes.ensures.len) in
    text-added c.args.text.now.items c.as_bytes.result.now c.extend_from_slice.new.self.items (chars c.args.added.now) (record { start = c.in_ok-start.start; length = c.in_ok-bytes.bytes })
    c.in_ok-extend_from_slice.ensures.items start long (c.as_bytes.ensures.value ∙ sym (encodes-chars c.args.added.now c.utf8.added))
