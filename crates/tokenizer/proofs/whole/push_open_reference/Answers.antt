use Rattle.std.proofs.Common.{◌≡◌, ◌∙◌, sym, refl, ap, List, ℕ, ◌++◌, true, true≢false, append_assoc, arith}
use Rattle.std.specs.Str.{chars}
use Rattle.tokenizer.specs.Reference.{open_characters}
use Rattle.tokenizer.specs.Whole.{all_of, begins_with, value_part, piece}
use Rattle.tokenizer.specs.declared.part.Part.{Part}
use Rattle.tokenizer.proofs.OpenLemmas.{first_behind}
use Rattle.tokenizer.proofs.ValueLemmas.{Reads-before}
use Rattle.tokenizer.proofs.WholeLemmas.{piece-split, Reads-same}
use Rattle.tokenizer.proofs.whole.push_open_reference.Goals as goal

pub returns-clause-reads : goal.returns-clause-reads
returns-clause-reads c =
    let es = c.args.table.now in
    let text = c.args.text.now in
    let from = c.args.from in
    let end = c.in-Some.reference.end in
    let k = c.in-Some.ensures in
    let behind = c.in-Some-part_end.behind in
    let b = c.in-Some-part_end.ensures in
    let us = open_characters c.in-Some.reference in
    let run = piece text end behind in
    let all : all_of (value_part c.args.quoting) run ≡ true = ap (λ (p : Part). all_of p run) (sym c.value_part.ensures) ∙ b.all in (
      us ++ run,
      c.in_ok-push_str.ensures.ok ∙ ap (λ (l : List ℕ). c.push_open.new.value ++ chars l) c.range.ensures.value ∙ ap (λ (l : List ℕ). l ++ run) c.in_ok-push_open.ensures ∙ append_assoc c.args.value.now us run,
      Reads-same es c.args.quoting (piece-split text from end behind c.utf8.text c.requires k.boundary (omega (arith, k.onward)) (omega (arith, b.onward))) refl
          (Reads-before es c.args.quoting (piece text from end) us run
          (λ d first. k.means d (first_behind text end behind d c.utf8.text k.boundary b.boundary (omega (arith, b.onward)) first))
          (λ none. true≢false (sym b.begins ∙ ap (begins_with c.value_part.result) none)) all),
    )
