use Rattle.std.proofs.Common.{◌≡◌}
use Rattle.league.specs.Sets.{is_in}
use Rattle.explain.specs.Standings.{kept}
use Rattle.explain.proofs.member.listed_members.Given as goal

-- the members so far
abbrev pub invariant-loop-member : goal.invariant-loop-member
invariant-loop-member l = l.smaller.items ≡ kept (λ k. is_in k l.named) l.yielded
