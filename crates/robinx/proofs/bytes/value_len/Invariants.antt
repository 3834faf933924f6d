use Rattle.std.proofs.Common.{◌≡◌, ℕ, ◌-◌, ◌<◌, ◌≤◌, ◌||◌, false, length, get_or, eqb}
use Rattle.robinx.proofs.bytes.value_len.Given as goal

abbrev pub invariant-loop-len : goal.invariant-loop-len
invariant-loop-len l = record { within : l.len ≤ length l.bytes; before : (k : ℕ) → k < l.len → (eqb (get_or l.bytes k 0) l.quote || eqb (get_or l.bytes k 0) 60) ≡ false }

abbrev pub decreases-loop-len : goal.decreases-loop-len
decreases-loop-len l = length l.bytes - l.len
