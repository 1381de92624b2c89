use Rattle.std.proofs.Common.{◌≡◌, ℕ, List, get_or, Some, sym, ap, ◌∙◌}
use Rattle.std.specs.Str.{chars}
use Rattle.html_types.specs.Text.{same_text}
use Rattle.html_types.proofs.TextLemmas.{same_text-chars}
use Rattle.text_store.specs.declared.store.Spot.TheVariants.{Inside}
use Rattle.text_store.specs.Stores.{text_at}
use Rattle.text_store.proofs.Lookups.{no_mark, value_here, value_past, held_past}
use Rattle.text_store.proofs.listed.value_among.Goals as goal

pub returns-then-eq : goal.returns-then-eq
returns-then-eq c =
    let s = c.args.texts.now in
    let ms = c.args.marks.now in
    let i = c.loop-mark.mark-index in
    let test : c.eq.result ≡ same_text (text_at s (Inside (get_or ms i no_mark).name)) (chars c.args.name.now) =
    c.eq.ensures ∙ (same_text-chars c.text.result.now c.args.name.now c.text.utf8 c.utf8.name ∙ ap (λ (t : List ℕ). same_text t (chars c.args.name.now)) c.text.ensures) in
    sym (c.loop-mark.invariant.left ∙ (value_here s (chars c.args.name.now) ms i c.loop-mark-test.true (sym test ∙ c.if-eq.true) ∙ ap Some (sym c.text-then-eq.ensures)))

pub loop-mark-preserved : goal.loop-mark-preserved
loop-mark-preserved c =
    let s = c.args.texts.now in
    let ms = c.args.marks.now in
    let i = c.loop-mark.mark-index in
    let test : c.eq.result ≡ same_text (text_at s (Inside (get_or ms i no_mark).name)) (chars c.args.name.now) =
    c.eq.ensures ∙ (same_text-chars c.text.result.now c.args.name.now c.text.utf8 c.utf8.name ∙ ap (λ (t : List ℕ). same_text t (chars c.args.name.now)) c.text.ensures) in record {
      held = held_past s (chars c.args.name.now) ms i c.loop-mark-test.true c.loop-mark.invariant.held;
      left = c.loop-mark.invariant.left ∙ value_past s (chars c.args.name.now) ms i c.loop-mark-test.true (sym test ∙ c.if-eq.false);
    }
