use Rattle.std.proofs.Common.{◌≡◌, ◌==◌, not}
use Rattle.explain.specs.Standings.{kept}
use Rattle.explain.proofs.member.shrunk.Given as goal

-- the members so far that stay
abbrev pub invariant-loop-member : goal.invariant-loop-member
invariant-loop-member l = l.smaller.items ≡ kept (λ k. not (k == l.number)) l.yielded
