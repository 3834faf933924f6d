use Rattle.std.specs.List.{All}
use Rattle.league.specs.Counts.{counts_of}
use Rattle.league.specs.Instance.{IsGame}
use Rattle.rule_core.specs.Table.{table_counts}
use Rattle.descent.proofs.SeasonLemmas.{IsWithSlots}
use Rattle.descent.proofs.season.add_meeting.Given as goal

-- the games of the slots so far
abbrev pub invariant-loop-slot : goal.invariant-loop-slot
invariant-loop-slot l = record {
  counts : IsWithSlots (counts_of l.initial.games) (table_counts l.cells) l.home.0 l.away.0 l.slot l.games;
  fit : All (IsGame l.cells.n) l.games;
}
