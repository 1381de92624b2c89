use Rattle.std.proofs.Common.{true≢false, ap, sym, ◌∙◌}
use Rattle.std.specs.Prelude.{slice_get}
use Rattle.std.specs.Cmp.Lexicographic.{bytes_decides, same_text}
use Rattle.html_types.specs.Words.{word_text}
use Rattle.html_types.proofs.WordLemmas.{word_found, no_word, empty_no_word, word_behind, none_left}
use Rattle.html_types.proofs.word.Word.find.Goals as goal

pub returns-in_default : goal.returns-in_default
returns-in_default c = sym (empty_no_word c.args.text.now c.utf8.text (c.in_default.ensures.value ∙ ap (λ t. slice_get t 0) c.as_bytes.ensures.value))

pub loop-word-init : goal.loop-word-init
loop-word-init c w e = c.beginning_with-word-items.ensures w (ap (λ t. slice_get t 0) (sym e ∙ sym c.as_bytes.ensures.value) ∙ sym c.in-Some.ensures.value)

pub returns-then-eq : goal.returns-then-eq
returns-then-eq c = sym (word_found c.args.text.now _ (same_text _ _ c.if-eq.ensures ∙ c.written.ensures))

pub loop-word-preserved : goal.loop-word-preserved
loop-word-preserved c w e =
    word_behind w _ _ c.loop-word.word-index c.loop-word-test.true (c.loop-word.invariant w e)
    (λ same. true≢false (sym ((bytes_decides _ _).1 (e ∙ ap word_text same ∙ sym c.written.ensures)) ∙ sym c.if-eq.ensures))

pub returns : goal.returns
returns c = sym (no_word c.args.text.now c.utf8.text (λ w e. none_left w _ _ c.loop-word-test.false (c.loop-word.invariant w e)))
