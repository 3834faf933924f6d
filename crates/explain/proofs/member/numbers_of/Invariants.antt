use Rattle.std.proofs.Common.{◌≡◌, take}
use Rattle.explain.specs.Standings.{numbers_of}
use Rattle.explain.proofs.member.numbers_of.Given as goal

-- the numbers of the members so far
abbrev pub invariant-loop-member : goal.invariant-loop-member
invariant-loop-member l = l.numbers.items ≡ numbers_of (take l.member-index l.members)
