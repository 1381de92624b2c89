use Rattle.std.proofs.Common.{◌≡◌, ℕ, ◌<◌, get_or}
use Rattle.outside.proofs.mem_files.is_listed.Given as goal

-- none of the calls so far is it
abbrev pub invariant-loop-call : goal.invariant-loop-call
invariant-loop-call l = (k : ℕ) → k < l.call-index → get_or l.calls k (l.port, l.number) ≡ (l.port, l.number) → ⊥
