use Rattle.std.proofs.Common.{◌≡◌, ◌∙◌, sym, refl, ap, List, ℕ, ◌++◌, true, append_assoc, arith}
use Rattle.std.specs.Str.{chars}
use Rattle.entity_table.specs.View.{characters_in}
use Rattle.tokenizer.specs.Whole.{all_of, value_part, piece}
use Rattle.tokenizer.specs.declared.part.Part.{Part}
use Rattle.tokenizer.proofs.WholeLemmas.{piece-split, Reads-run, Reads-reference, Reads-append, Reads-same}
use Rattle.tokenizer.proofs.whole.push_reference.Goals as goal

pub returns-clause-reads : goal.returns-clause-reads
returns-clause-reads c =
    let es = c.args.table.now in
    let text = c.args.text.now in
    let from = c.args.from in
    let o = c.args.quoting in
    let r = c.in-Some.reference in
    let k = c.in-Some.ensures in
    let behind = c.rest_of-behind.result in
    let b = c.rest_of-behind.ensures in
    let us = characters_in r.characters in
    let run = piece text r.end behind in
    let all : all_of (value_part o) run ≡ true = ap (λ (p : Part). all_of p run) (sym c.value_part.ensures) ∙ b.all in (
      us ++ run,
      c.in_ok-push_str.ensures.ok ∙ ap (λ (l : List ℕ). c.push_characters.new.value ++ chars l) c.range.ensures.value ∙ ap (λ (l : List ℕ). l ++ run) c.in_ok-push_characters.ensures ∙ append_assoc c.args.value.now us run,
      Reads-same es o (piece-split text from r.end behind c.utf8.text c.requires k.boundary (omega (arith, k.onward)) b.onward) refl
          (Reads-append es o (piece text from r.end) us run run (Reads-reference es o (piece text from r.end) us k.means) (Reads-run es o run all)),
    )
