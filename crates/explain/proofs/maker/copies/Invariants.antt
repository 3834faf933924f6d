use Rattle.std.proofs.Common.{◌≡◌, take}
use Rattle.explain.specs.Parts.{numbered}
use Rattle.explain.proofs.maker.copies.Given as goal

-- the constraints with the numbers so far
abbrev pub invariant-loop-member : goal.invariant-loop-member
invariant-loop-member l = l.taken.items ≡ numbered l.constraints (take l.member-index l.members)
