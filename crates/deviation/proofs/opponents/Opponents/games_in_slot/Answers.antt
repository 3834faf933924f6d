use Rattle.std.proofs.Common.{◌≡◌, ◌≤◌, length, arith, ap, ◌∙◌}
use Rattle.std.proofs.lemmas.List.{take_all}
use Rattle.std.specs.List.{sum_by}
use Rattle.rule_core.specs.Table.{table_counts}
use Rattle.deviation.specs.Between.{can_host}
use Rattle.deviation.proofs.CapacityHosts.{games_of_all_hosts, hosted, hosts_below, hosts_few}
use Rattle.deviation.proofs.opponents.Opponents.games_in_slot.Goals as goal

pub games_at_home-requires-clause-host : goal.games_at_home-requires-clause-host
games_at_home-requires-clause-host c =
    hosts_below c.args.cells.now.n (can_host c.args.self.now.side c.args.self.now.teams1 c.args.self.now.teams2)
    c.args.hosts.now c.requires.hosts c.loop-host.host-index 0 c.loop-host-test.true

pub overflow_add-games : goal.overflow_add-games
overflow_add-games c =
    omega (
      arith,
      c.loop-host.invariant.bounded,
      c.games_at_home.ensures.at_most,
      c.from-games.ensures,
      c.requires.few,
      hosts_few c.args.cells.now.n
          (can_host c.args.self.now.side c.args.self.now.teams1 c.args.self.now.teams2) c.args.hosts.now
          c.requires.hosts,
    )

pub returns-clause-games : goal.returns-clause-games
returns-clause-games c =
    let self = c.args.self.now in
    let n = c.args.cells.now.n in
    let m = table_counts c.args.cells.now in
    let all : length c.args.hosts.now ≤ c.loop-host.host-index = omega arith in
    let whole : c.loop-host.games ≡ sum_by (hosted m self.side self.teams1 self.teams2 c.args.slot.0 n)
    c.args.hosts.now =
    c.loop-host.invariant.counted ∙ ap (sum_by (hosted m self.side self.teams1 self.teams2 c.args.slot.0 n))
    (take_all c.loop-host.host-index c.args.hosts.now all) in
    games_of_all_hosts m self.side self.teams1 self.teams2 c.args.slot.0 n c.args.hosts.now c.loop-host.games
    c.requires.hosts whole

pub returns-clause-at_most : goal.returns-clause-at_most
returns-clause-at_most c =
    omega (
      arith,
      c.loop-host.invariant.bounded,
      c.requires.few,
      hosts_few c.args.cells.now.n (can_host c.args.self.now.side c.args.self.now.teams1 c.args.self.now.teams2)
          c.args.hosts.now c.requires.hosts,
    )
