use Rattle.std.proofs.Common.{◌≡◌, ℕ, ◌+◌, ◌-◌, ◌++◌, List, ap, append-nil, refl, sym, ◌∙◌, length, take, subst, arith}
use Rattle.std.proofs.lemmas.List.{take-take}
use Rattle.std.specs.Prelude.{min, string_bytes}
use Rattle.std.specs.Str.{chars}
use Rattle.std.proofs.lemmas.Str.{chars-nil}
use Rattle.utf8_pieces.specs.declared.decoder.Decoder.{Decoder}
use Rattle.utf8_pieces.specs.Decoder.{HasRead, Looked}
use Rattle.serial.specs.Page.{text_of}
use Rattle.utf8_pieces.proofs.DecoderLemmas.{ended, grows, Grown, none_is}
use Rattle.utf8_pieces.proofs.decoder.Decoder.feed.Goals as goal

pub returns-then-is_some-clause-read : goal.returns-then-is_some-clause-read
returns-then-is_some-clause-read c limit read has = (ended c.args.self.now limit read c.args.piece.now has (sym c.is_some.ensures ∙ c.if-is_some.true)).0

pub returns-then-is_some-clause-text : goal.returns-then-is_some-clause-text
returns-then-is_some-clause-text c limit read has =
    (ended c.args.self.now limit read c.args.piece.now has (sym c.is_some.ensures ∙ c.if-is_some.true)).1 ∙ sym (ap (λ t. text_of limit read ++ t) (ap chars c.new.ensures.bytes ∙ chars-nil) ∙ append-nil _)

pub returns-then-is_some-clause-ending : goal.returns-then-is_some-clause-ending
returns-then-is_some-clause-ending c limit read has = (ended c.args.self.now limit read c.args.piece.now has (sym c.is_some.ensures ∙ c.if-is_some.true)).0.shown

-- the decoder behind the piece
abbrev after : goal.After-self-1 → Decoder
after c = record { room = c.look.new.self.room - c.min-counted.result; held = c.look.new.self.held; at_start = c.look.new.self.at_start; shown = c.look.new.self.shown }

grown : (c : goal.After-self-1) (limit : ℕ) (read : List ℕ) → HasRead limit c.args.self.now read → Grown limit (after c) read c.args.piece.now (chars (string_bytes c.in_ok-fed.fed.text))
grown c limit read has =
    let to : c.min-looked.result ≡ min (length c.args.piece.now) (c.args.self.now.room + 1) = omega (arith, c.min-looked.ensures, c.saturating_add.ensures) in
    let first = take-take c.min-counted.result c.min-looked.result c.args.piece.now (omega (arith, c.min-counted.ensures)) in
    let looks = subst (λ l. Looked c.args.self.now c.look.new.self (c.args.self.now.held.items ++ l) (c.args.self.now.held.items ++ take c.min-looked.result c.args.piece.now) (chars (string_bytes c.in_ok-fed.fed.text)) c.in_ok-fed.fed.ending) first c.in_ok-fed.ensures.ok in
    grows c.args.self.now c.look.new.self (after c) limit read c.args.piece.now _ _ c.min-counted.result c.min-looked.result has (none_is c.args.self.now.shown (sym c.is_some.ensures ∙ c.if-is_some.false))
    c.min-counted.ensures to looks refl (ap (λ r. r - c.min-counted.result) looks.room) refl refl

pub returns-clause-read : goal.returns-clause-read
returns-clause-read c limit read has = (grown c limit read has).has

pub returns-clause-text : goal.returns-clause-text
returns-clause-text c limit read has = (grown c limit read has).text_is

pub returns-clause-ending : goal.returns-clause-ending
returns-clause-ending c limit read has = c.in_ok-fed.ensures.ok.ending_is ∙ (grown c limit read has).has.shown
