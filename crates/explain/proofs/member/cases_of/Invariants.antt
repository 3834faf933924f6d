use Rattle.std.proofs.Common.{◌≡◌}
use Rattle.explain.specs.Standings.{cases_of}
use Rattle.explain.proofs.member.cases_of.Given as goal

-- the cases of the members so far
abbrev pub invariant-loop-member : goal.invariant-loop-member
invariant-loop-member l = l.cases.items ≡ cases_of l.yielded
