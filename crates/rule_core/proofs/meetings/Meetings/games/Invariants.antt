use Rattle.std.proofs.Common.{◌≡◌, ◌≤◌, ◌*◌, take}
use Rattle.league.specs.Meetings.{games_of}
use Rattle.rule_core.specs.Table.{table_counts}
use Rattle.rule_core.proofs.meetings.Meetings.games.Given as goal

abbrev pub invariant-loop-home : goal.invariant-loop-home
invariant-loop-home l = record {
  counted : l.games ≡ games_of (table_counts l.cells) (take l.home-index l.home-items) l.slots;
  bounded : l.games ≤ 780000 * l.home-index;
}
