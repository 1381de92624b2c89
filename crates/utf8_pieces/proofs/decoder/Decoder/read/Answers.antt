use Rattle.std.proofs.Common.{◌≡◌, ℕ, List, sym, ap, refl, ◌∙◌, length, take, drop, arith, rules, if◌then◌else◌, Some, None, length-take}
use Rattle.std.specs.Prelude.{nat_lt, ◌&&◌, ◌==◌}
use Rattle.std.specs.Str.{chars}
use Rattle.std.specs.Str.Lossy.{utf8_valid_len}
use Rattle.serial.specs.Page.{without_mark, is_text_so_far}
use Rattle.html_types.specs.declared.ending.Ending.TheVariants.{Bad, Long}
use Rattle.utf8_pieces.proofs.DecoderLemmas.{front_len, take-rest}
use Rattle.utf8_pieces.proofs.decoder.Decoder.read.Goals as goal
use Rattle.utf8_pieces.proofs.decoder.Decoder.read.Goals.{then-self, else-self}

pub returns-clause-ok : goal.returns-clause-ok
returns-clause-ok c =
    let bytes : List ℕ = take c.args.counted c.args.seen.now in
    let text = c.text_and_ending-ending.result.0.now in
    let len : length text ≡ utf8_valid_len bytes = ap length c.text_and_ending-ending.ensures.text ∙ front_len bytes in
    let counted : length bytes ≡ c.args.counted = omega (arith, length-take c.args.counted c.args.seen.now) in
    let start : c.if-self.self ≡ (c.args.self.now.at_start && (length text == 0)) =
    elim c.if-self.branch [ then-self w ↦ rw w.if-self.true (w.self-is ∙ w.is_empty-self.ensures) | else-self w ↦ rw w.if-self.false (w.self-is ∙ w.if-self.false) ] in
    record {
      room = refl;
      held = c.in_ok-held.ensures.items_if_clones_equal (search rules) ∙ take-rest bytes (length text) ∙ ap (λ n. drop n bytes) len;
      start = start ∙ ap (λ n. c.args.self.now.at_start && (n == 0)) len;
      shown = c.text_and_ending-ending.ensures.ending ∙ ap (λ n. if is_text_so_far c.args.seen.now then (if nat_lt n (length c.args.seen.now) then Some Long else None) else Some Bad) (sym counted);
      text_is = ap chars c.in_ok-fed.ensures.ok ∙ c.shown_text.ensures ∙ ap (λ t. if c.args.self.now.at_start then without_mark (chars t) else chars t) c.text_and_ending-ending.ensures.text;
      ending_is = refl;
    }
