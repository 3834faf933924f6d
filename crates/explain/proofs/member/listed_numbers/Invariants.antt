use Rattle.std.proofs.Common.{◌≡◌, take}
use Rattle.std.specs.List.{filter}
use Rattle.league.specs.Sets.{is_in}
use Rattle.explain.specs.Standings.{numbers_of}
use Rattle.explain.proofs.member.listed_numbers.Given as goal

-- the numbers of the members so far
abbrev pub invariant-loop-member : goal.invariant-loop-member
invariant-loop-member l =
    l.listed.items ≡ filter (λ k. is_in k l.named) (numbers_of (take l.member-index l.members))
