use Rattle.std.proofs.Common.{◌≡◌, ◌∙◌, sym}
use Rattle.std.specs.Cmp.Lexicographic.{bytes_decides}
use Rattle.html_types.specs.Text.{same_text}
use Rattle.html_types.proofs.TextLemmas.{same_text-chars}
use Rattle.page_pieces.proofs.shared_text.SharedText.same.Goals as goal

pub returns : goal.returns
returns c =
    let value : c.eq.result ≡ same_text c.args.self.now c.args.other.now =
    rw (← c.as_str.ensures, ← c.as_str-2.ensures)
    (c.eq.ensures ∙ same_text-chars _ _ c.as_str.utf8 c.as_str-2.utf8) in
    let decides = bytes_decides c.args.self.now c.args.other.now in
    (λ e. decides.0 (sym value ∙ e), λ e. value ∙ decides.1 e)
