use Rattle.std.proofs.Common.{◌≡◌, ℕ, ◌+◌, ◌&&◌, nat_lt}
use Rattle.std.specs.List.{list_any}
use Rattle.league.specs.Structure.{isnt_one}
use Rattle.rule_core.specs.Table.{table_counts}
use Rattle.command_show.specs.Cell.{early_meetings, is_misphased}
use Rattle.command_show.proofs.RangeLemmas.{from_on}
use Rattle.command_show.proofs.cell.is_misphased.Given as goal

abbrev pub invariant-loop-number : goal.invariant-loop-number
invariant-loop-number l =
    list_any (λ (j : ℕ). nat_lt 0 (table_counts l.cells l.team.0 j l.slot.0 + table_counts l.cells j l.team.0 l.slot.0) && isnt_one (early_meetings l.cells.n (table_counts l.cells) l.team.0 j)) (from_on l.number l.cells.n)
    ≡ is_misphased l.cells.n (table_counts l.cells) l.team.0 l.slot.0
