-- The end tags that end a text which is read up to them, character by character.
use Rattle.std.proofs.Common.{◌≡◌, ◌≢◌, ℕ, ◌<◌, ◌≤◌, ◌==◌, ◌||◌, false, List, [], ◌∷◌, ◌++◌, length, length-append, refl, sym, ap, ◌∙◌, subst, arith, Some}
use Rattle.std.specs.Prelude.{codes}
use Rattle.std.specs.Str.{chars}
use Rattle.html_types.specs.declared.state.TokState.{TokState}
use Rattle.html_types.specs.declared.state.TokState.TheVariants.{Text}
use Rattle.html_types.specs.declared.state.TextState.TheVariants.{Raw}
use Rattle.html_types.specs.declared.state.RawText.TheVariants.{Rcdata, Rawtext, ScriptData}
use Rattle.html_types.specs.declared.word.Word.{Word}
use Rattle.html_types.specs.declared.word.Word.TheVariants.{Script, Style, Title, Textarea}
use Rattle.standard.specs.Class.{is_mark}
use Rattle.standard.specs.Tokenizer.{feed, settle}
use Rattle.tokenizer.specs.Raw.{BeginsNothing, Ends}
use Rattle.tokenizer.specs.Whole.{piece}
use Rattle.tokenizer.proofs.FirstLemmas.{or-first, or-second}
use Rattle.tokenizer.proofs.WholeLemmas.{piece-none}

-- ---- the end tags

pub script_ends : Ends (Text (Raw ScriptData (Some Script))) Script (chars (codes "</script>"))
unfolding feed settle chars
script_ends = record {
  makes = λ es. record { front = codes "</script"; last = 62; split = refl; silent = λ foreign. refl; whole = λ foreign. refl };
  no_cr = refl;
}

pub style_ends : Ends (Text (Raw Rawtext (Some Style))) Style (chars (codes "</style>"))
unfolding feed settle chars
style_ends = record {
  makes = λ es. record { front = codes "</style"; last = 62; split = refl; silent = λ foreign. refl; whole = λ foreign. refl };
  no_cr = refl;
}

pub title_ends : Ends (Text (Raw Rcdata (Some Title))) Title (chars (codes "</title>"))
unfolding feed settle chars
title_ends = record {
  makes = λ es. record { front = codes "</title"; last = 62; split = refl; silent = λ foreign. refl; whole = λ foreign. refl };
  no_cr = refl;
}

pub textarea_ends : Ends (Text (Raw Rcdata (Some Textarea))) Textarea (chars (codes "</textarea>"))
unfolding feed settle chars
textarea_ends = record {
  makes = λ es. record { front = codes "</textarea"; last = 62; split = refl; silent = λ foreign. refl; whole = λ foreign. refl };
  no_cr = refl;
}

pub ends_in : (s t : TokState) (word : Word) (cs : List ℕ) → Ends t word cs → s ≡ t → Ends s word cs
ends_in s t word cs h is = subst (λ (u : TokState). Ends u word cs) (sym is) h

-- an end tag has characters
pub ends_onward : (text : List ℕ) (from end : ℕ) (s : TokState) (word : Word) → Ends s word (piece text from end) → from ≤ end → from < end
ends_onward text from end s word h le =
    let made = h.makes [] in
    let none : from ≡ end → [] ≡ made.front ++ made.last ∷ [] = λ e. sym (piece-none text from) ∙ ap (piece text from) e ∙ made.split in
    let apart : from ≢ end = λ e. absurd (omega (arith, length-append made.front (made.last ∷ []), ap length (none e))) in
    omega (arith, apart)

-- ---- a `<` that begins nothing

pub nothing_begins : (cs : List ℕ) (c : ℕ) → cs ≡ 60 ∷ c ∷ [] → (is_mark c || c == 47 || c == 33) ≡ false → BeginsNothing cs
nothing_begins cs c two h =
    let first : (is_mark c || c == 47) ≡ false = or-first (is_mark c || c == 47) (c == 33) h in
    record {
      next = c;
      two = two;
      plain = or-first (is_mark c) (c == 47) first;
      no_slash = or-second (is_mark c) (c == 47) first;
      no_bang = or-second (is_mark c || c == 47) (c == 33) h;
    }
