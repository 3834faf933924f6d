use Rattle.std.specs.List.{All}
use Rattle.league.specs.Instance.{IsGame}
use Rattle.rule_core.specs.Table.{table_counts}
use Rattle.descent.proofs.SeasonLemmas.{IsBelow}
use Rattle.descent.proofs.season.season_of.Given as goal

-- the home games of the teams so far
abbrev pub invariant-loop-home : goal.invariant-loop-home
invariant-loop-home l = record {
  counts : IsBelow (table_counts l.cells) l.home l.games;
  fit : All (IsGame l.cells.n) l.games;
}
