use Rattle.std.proofs.Common.{◌≡◌, ◌++◌, [], List, ℕ, length, sym, ap, ◌∙◌, append-nil, append_assoc}
use Rattle.std.proofs.lemmas.Bool.{eqb-true}
use Rattle.std.proofs.lemmas.List.{nil_from_length}
use Rattle.std.specs.Str.{chars}
use Rattle.serial.specs.Page.{text_of, ending_of}
use Rattle.core_definitions.specs.Core.{joined}
use Rattle.utf8_pieces.proofs.PageLaws.{text_of-nil}
use Rattle.page_turns.specs.declared.page.TheConstants.{PAGE_LIMIT}
use Rattle.page_batch.proofs.PieceLemmas.{text-more}
use Rattle.page_batch.proofs.pieces.pieces_of.Goals as goal

pub pieces-init : goal.pieces-init
pieces-init c = record { read = []; whole = c.as_slice-rest.ensures.value; fed = c.new-decoder.ensures; text = ap joined c.new-pieces.ensures.items ∙ sym (text_of-nil PAGE_LIMIT) }

pub pieces-preserved : goal.pieces-preserved
pieces-preserved c =
    let i = c.pieces.invariant in
    let piece = c.split_at.result.0.now in
    record {
      read = i.read ++ piece;
      whole = append_assoc i.read piece c.split_at.result.1.now ∙ (ap (λ l. i.read ++ l) (sym c.split_at.ensures.by_index.0) ∙ i.whole);
      fed = c.in_ok-fed.ensures.read PAGE_LIMIT i.read i.fed;
      text = text-more PAGE_LIMIT c.pieces.pieces.items c.push.new.self.items c.in_ok-text.text i.read piece c.in_ok-push.ensures.items i.text
          (c.in_ok-fed.ensures.text PAGE_LIMIT i.read i.fed ∙ ap (λ t. text_of PAGE_LIMIT i.read ++ t) (sym (c.in_ok-text.ensures ∙ ap chars c.as_str.ensures.value)));
    }

pub returns-clause-text : goal.returns-clause-text
returns-clause-text c =
    let i = c.pieces.invariant in
    let none : c.pieces.rest.now ≡ [] = nil_from_length c.pieces.rest.now (eqb-true (length c.pieces.rest.now) 0 (sym c.is_empty.ensures ∙ c.pieces-test.false)) in
    let all : i.read ≡ c.args.page.now.bytes.items = sym (append-nil i.read) ∙ (ap (λ l. i.read ++ l) (sym none) ∙ i.whole) in
    i.text ∙ ap (text_of PAGE_LIMIT) all

pub returns-clause-ending : goal.returns-clause-ending
returns-clause-ending c =
    let i = c.pieces.invariant in
    let none : c.pieces.rest.now ≡ [] = nil_from_length c.pieces.rest.now (eqb-true (length c.pieces.rest.now) 0 (sym c.is_empty.ensures ∙ c.pieces-test.false)) in
    let all : i.read ≡ c.args.page.now.bytes.items = sym (append-nil i.read) ∙ (ap (λ l. i.read ++ l) (sym none) ∙ i.whole) in
    c.close.ensures PAGE_LIMIT i.read i.fed ∙ ap (λ (x : List ℕ). ending_of PAGE_LIMIT x c.args.page.now.fault) all
