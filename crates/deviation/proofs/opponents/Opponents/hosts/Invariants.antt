use Rattle.std.proofs.Common.{◌≡◌}
use Rattle.std.specs.List.{filter, range_with_len}
use Rattle.deviation.specs.Between.{can_host}
use Rattle.deviation.proofs.opponents.Opponents.hosts.Given as goal

abbrev pub invariant-loop-team : goal.invariant-loop-team
invariant-loop-team l = l.hosts.items ≡ filter (can_host l.self.side l.self.teams1 l.self.teams2)
    (range_with_len 0 l.team)
