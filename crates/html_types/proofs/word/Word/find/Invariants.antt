use Rattle.std.proofs.Common.{◌≡◌, drop}
use Rattle.std.specs.Prelude.{IsTrue}
use Rattle.std.specs.List.{list_any}
use Rattle.html_types.specs.Words.{word_text, same_word}
use Rattle.html_types.specs.declared.word.Word.{Word}
use Rattle.html_types.proofs.word.Word.find.Given as goal

-- where the text is a word's, that word is among those left
abbrev pub invariant-loop-word : goal.invariant-loop-word
invariant-loop-word l = (w : Word) → l.text ≡ word_text w → IsTrue (list_any (same_word w) (drop l.word-index l.word-items))
