use Rattle.std.proofs.Common.{◌++◌, map}
use Rattle.encoding.specs.Encoding.{rows_of}
use Rattle.venue_counts.specs.CountLogs.{AreNamed, slot_row, team_row}
use Rattle.venue_counts.specs.Needs.{counts_home, need_of}
use Rattle.venue_counts.proofs.LogLemmas.{needing}
use Rattle.venue_counts.proofs.log.add_teams.Given as goal

abbrev pub invariant-loop-team : goal.invariant-loop-team
invariant-loop-team l =
    let home = counts_home l.fn.limit l.group.side in
    let need = need_of l.fn.limit l.encoding.constraints l.group.side l.group.slots.now in
    AreNamed (rows_of l.encoding) l.parts.items
    (map (slot_row l.encoding.n home) l.group.slots.now
    ++ needing (team_row l.encoding.n home l.group.slots.now need) need l.team)
