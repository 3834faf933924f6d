use Rattle.std.proofs.Common.{◌≡◌, ℕ, ◌<◌, ◌≤◌, false, get_or}
use Rattle.explain.proofs.names.has_flag.Given as goal

abbrev pub invariant-loop-place : goal.invariant-loop-place
invariant-loop-place l = (row : ℕ) → l.fn.places.start ≤ row → row < l.place → get_or l.flags row false ≡ false
