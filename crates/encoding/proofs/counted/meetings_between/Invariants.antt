use Rattle.std.proofs.Common.{◌≡◌, take}
use Rattle.std.specs.List.{filter}
use Rattle.league.specs.Capacity.{is_between}
use Rattle.encoding.proofs.counted.meetings_between.Given as goal

abbrev pub invariant-loop-home : goal.invariant-loop-home
invariant-loop-home l = l.made.items ≡ filter (is_between l.side l.teams1 l.teams2) (take l.home-index l.all)
