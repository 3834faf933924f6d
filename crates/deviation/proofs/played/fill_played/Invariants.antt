use Rattle.std.proofs.Common.{ℕ, ◌<◌, get_or}
use Rattle.rule_core.specs.Table.{table_counts}
use Rattle.deviation.specs.Played.{IsPlayed}
use Rattle.deviation.proofs.played.fill_played.Given as goal

abbrev pub invariant-loop-team : goal.invariant-loop-team
invariant-loop-team l = (k d : ℕ) → k < l.team-index
    → IsPlayed l.cells.n (table_counts l.cells) l.slots l.played (get_or l.teams k d)
