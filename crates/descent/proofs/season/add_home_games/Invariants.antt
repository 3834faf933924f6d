use Rattle.std.specs.List.{All}
use Rattle.league.specs.Counts.{counts_of}
use Rattle.league.specs.Instance.{IsGame}
use Rattle.rule_core.specs.Table.{table_counts}
use Rattle.descent.proofs.SeasonLemmas.{IsWithAways}
use Rattle.descent.proofs.season.add_home_games.Given as goal

-- the games against the teams so far
abbrev pub invariant-loop-away : goal.invariant-loop-away
invariant-loop-away l = record {
  counts : IsWithAways (counts_of l.initial.games) (table_counts l.cells) l.home.0 l.away l.games;
  fit : All (IsGame l.cells.n) l.games;
}
