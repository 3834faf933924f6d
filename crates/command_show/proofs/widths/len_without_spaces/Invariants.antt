use Rattle.std.proofs.Common.{◌≡◌, ℕ, ◌<◌, ◌≤◌, ◌==◌, true, length, get_or}
use Rattle.std.specs.Str.{byte}
use Rattle.command_show.proofs.widths.len_without_spaces.Given as goal

abbrev pub invariant-loop-len : goal.invariant-loop-len
invariant-loop-len l = record {
  within : l.len ≤ length l.line;
  after : (k : ℕ) → l.len ≤ k → k < length l.line → (get_or l.line k 0 == byte " ") ≡ true;
}

abbrev pub decreases-loop-len : goal.decreases-loop-len
decreases-loop-len l = l.len
