use Rattle.std.proofs.Common.{ℕ, nat_lt}
use Rattle.league.specs.Counts.{slot_count}
use Rattle.league.specs.Venues.{home_games}
use Rattle.rule_core.specs.Table.{table_counts}
use Rattle.command_show.specs.Tallies.{home_run}
use Rattle.command_show.proofs.RunLemmas.{IsCounted}
use Rattle.command_show.proofs.tallies.home_run.Given as goal

abbrev pub invariant-loop-number : goal.invariant-loop-number
invariant-loop-number l =
    IsCounted (λ (s : ℕ). nat_lt 0 (home_games l.cells.n (table_counts l.cells) l.team.0 s)) (slot_count l.cells.n) l.run l.longest l.number
    (home_run l.cells.n (table_counts l.cells) l.team.0)
