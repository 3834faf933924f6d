use Rattle.std.proofs.Common.{get_or}
use Rattle.league.specs.Capacity.{meetings_with}
use Rattle.rule_core.specs.Table.{table_counts}
use Rattle.deviation.proofs.BeforeLemmas.{AreBefore}
use Rattle.deviation.proofs.opponents.Opponents.games_before.Given as goal

abbrev pub invariant-loop-slot : goal.invariant-loop-slot
invariant-loop-slot l = AreBefore (table_counts l.cells) (meetings_with l.self.side (get_or l.self.teams1 l.key 0) l.self.teams2) l.slot l.before
