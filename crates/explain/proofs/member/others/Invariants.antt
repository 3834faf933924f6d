use Rattle.std.proofs.Common.{◌≡◌, take}
use Rattle.explain.specs.Parts.{without}
use Rattle.explain.specs.Standings.{numbers_of}
use Rattle.explain.proofs.member.others.Given as goal

-- the others among the members so far
abbrev pub invariant-loop-other : goal.invariant-loop-other
invariant-loop-other l = l.others.items ≡ without l.number (numbers_of (take l.other-index l.members))
