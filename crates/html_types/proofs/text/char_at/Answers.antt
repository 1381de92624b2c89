use Rattle.std.proofs.Common.{◌≡◌, ◌++◌, drop, sym, ◌∙◌, encode_utf8}
use Rattle.html_types.proofs.CharLemmas.{chars-past_char, boundary-past_char}
use Rattle.html_types.proofs.text.char_at.Goals as goal

-- the text behind the place begins with the character
begins : (c : goal.After-len_utf8) → drop c.args.place c.args.text.now ≡ encode_utf8 c.in-Some.c ++ c.next.new.self.rest.now
begins c = sym c.range_from-rest.ensures.value ∙ sym c.chars.ensures.rest ∙ c.in-Some.ensures.steps.0

pub returns-in-Some-clause-boundary : goal.returns-in-Some-clause-boundary
returns-in-Some-clause-boundary c =
    rw c.len_utf8.ensures.value (boundary-past_char c.args.text.now _ _ _ c.utf8.text c.requires (begins c))

pub returns-in-Some-clause-read : goal.returns-in-Some-clause-read
returns-in-Some-clause-read c =
    rw c.len_utf8.ensures.value (chars-past_char c.args.text.now _ _ _ c.utf8.text c.requires (begins c))
