use Rattle.std.proofs.Common.{◌≡◌, ◌∙◌, refl, sym, ap, subst, encode_utf8_all}
use Rattle.std.proofs.lemmas.Str.{encodes-chars}
use Rattle.specparse_c.specs.Rooms.{GivesBytes}
use Rattle.specparse_c.proofs.rooms.give_text.Goals as goal

pub returns-in-Ok : goal.returns-in-Ok
returns-in-Ok c =
    let same : c.as_bytes.result.now ≡ encode_utf8_all c.in-Ok.written = c.as_bytes.ensures.value ∙ sym (encodes-chars c.as_str.result.now c.as_str.utf8) ∙ ap encode_utf8_all c.as_str.ensures in
    rw c.in-Ok.is (subst (λ b. GivesBytes b c.give_bytes.result c.give_bytes.new.needed c.args.room.now c.give_bytes.new.room) same c.give_bytes.ensures)

pub returns-in-Err : goal.returns-in-Err
returns-in-Err c = rw c.in-Err.is (c.status.ensures, refl, refl)
