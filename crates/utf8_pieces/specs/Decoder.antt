-- What a decoder has read.
use Rattle.std.specs.Prelude.{◌≡◌, ℕ, ◌+◌, List, ◌==◌, ◌&&◌, Option, Some, None, length, drop, nat_lt, if◌then◌else◌}
use Rattle.std.specs.Str.{chars}
use Rattle.std.specs.Str.Lossy.{utf8_valid_len}
use Rattle.serial.specs.Page.{front, without_mark, is_text_so_far, shown}
use Rattle.html_types.specs.declared.ending.Ending.{Ending}
use Rattle.html_types.specs.declared.ending.Ending.TheVariants.{Bad, Long}
use Rattle.utf8_pieces.specs.declared.decoder.Decoder.{Decoder}

-- what it keeps of the bytes, as long as they show no ending
pub record IsOpen (limit : ℕ) (d : Decoder) (bytes : List ℕ) : Type 0 where
  pub room : d.room + length bytes ≡ limit
  pub held : d.held.items ≡ drop (utf8_valid_len bytes) bytes
  pub start : d.at_start ≡ (utf8_valid_len bytes == 0)

-- the decoder of this limit has been fed these bytes, in whatever pieces
pub record HasRead (limit : ℕ) (d : Decoder) (bytes : List ℕ) : Type 0 where
  pub shown : d.shown ≡ shown limit bytes
  pub open_yet : d.shown ≡ None → IsOpen limit d bytes

-- What a decoder makes of the bytes that it held and of more: these count, those were looked at.
pub record Looked (d d' : Decoder) (counted seen text : List ℕ) (ending : Option Ending) : Type 0 where
  pub room : d'.room ≡ d.room
  pub held : d'.held.items ≡ drop (utf8_valid_len counted) counted
  pub start : d'.at_start ≡ (d.at_start && (utf8_valid_len counted == 0))
  pub shown : d'.shown ≡ (if is_text_so_far seen then (if nat_lt (length counted) (length seen) then Some Long else None) else Some Bad)
  pub text_is : text ≡ (if d.at_start then without_mark (chars (front counted)) else chars (front counted))
  pub ending_is : ending ≡ d'.shown
