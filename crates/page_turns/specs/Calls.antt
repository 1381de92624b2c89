-- The calls that were made at a port, where an outside tells them.
use Rattle.std.specs.Prelude.{◌≡◌, ◌≤◌, ℕ, ◌+◌, Bool, true, false, List, [], ◌∷◌, ◌++◌, Result, Ok, Err}
use Rattle.outside.specs.Outside.{Call, begins, reads, Called, Seen}
use Rattle.outside.specs.declared.traits.Port.{Port}
use Rattle.outside.specs.declared.traits.Failed.{Failed}

-- from before to after these calls were made at the port
abbrev pub CallsAt : Port → Seen → Seen → List Call → Type 0
CallsAt port before after calls = Called (before.calls port) (after.calls port) calls

-- each of the calls is a read that succeeded
abbrev pub AreReads : List Call → Type 0
AreReads [] = Unit {0}
AreReads (reads most (Ok n) ∷ calls) = AreReads calls
AreReads _ = ⊥

-- how many bytes were given before a read failed
abbrev pub given_first : List Call → ℕ
given_first [] = 0
given_first (begins path answer ∷ calls) = given_first calls
given_first (reads most (Ok n) ∷ calls) = n + given_first calls
given_first (reads most (Err e) ∷ calls) = 0

-- ---- how far files were read

-- Of each file one byte past the limit was read at most. Of the one that was open before so many bytes had been read.
abbrev pub AreWithin : ℕ → ℕ → List Call → Type 0
AreWithin limit so_far [] = Unit {0}
AreWithin limit so_far (begins path answer ∷ calls) = AreWithin limit 0 calls
AreWithin limit so_far (reads most (Ok n) ∷ calls) = (so_far + n ≤ limit + 1) × AreWithin limit (so_far + n) calls
AreWithin limit so_far (reads most (Err e) ∷ calls) = AreWithin limit so_far calls

-- The file that was open, of which so many bytes had been read, was read on, one byte past the limit at most.
pub record ReadWithin (limit so_far : ℕ) (port : Port) (before after : Seen) : Type 0 where
  pub calls : List Call
  pub made : CallsAt port before after calls
  pub within : AreWithin limit so_far calls

-- Each file that was begun was read to one byte past the limit at most, however far one was read before that.
pub record EachWithin (limit : ℕ) (port : Port) (before after : Seen) : Type 0 where
  pub calls : List Call
  pub made : CallsAt port before after calls
  pub within : (so_far : ℕ) → AreWithin limit so_far calls

-- ---- a call that failed

-- reads, of which the last alone failed
abbrev pub EndInFault : List Call → Type 0
EndInFault (reads most (Ok n) ∷ calls) = EndInFault calls
EndInFault (reads most (Err e) ∷ []) = Unit {0}
EndInFault _ = ⊥

-- The file at the path was to be begun, and that failed, or a read of it.
abbrev pub AreOfFailed : List ℕ → List Call → Type 0
AreOfFailed path (begins p (Ok there) ∷ calls) = (p ≡ path) × EndInFault calls
AreOfFailed path (begins p (Err e) ∷ []) = p ≡ path
AreOfFailed path _ = ⊥

-- among the calls at the port
pub record HasFailed (port : Port) (path : List ℕ) (before after : Seen) : Type 0 where
  pub earlier : List Call
  pub own : List Call
  pub later : List Call
  pub made : CallsAt port before after (earlier ++ own ++ later)
  pub failed : AreOfFailed path own

-- ---- a read that gave nothing

abbrev pub has_failed : Result ℕ Failed → Bool
has_failed (Ok n) = false
has_failed (Err e) = true

abbrev pub GaveNone : Result ℕ Failed → Type 0
GaveNone (Ok n) = n ≡ 0
GaveNone (Err e) = Unit {0}
