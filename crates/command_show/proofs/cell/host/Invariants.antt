use Rattle.std.proofs.Common.{◌≡◌, ℕ, ◌+◌, not, nat_lt}
use Rattle.std.specs.List.{prefix_len}
use Rattle.rule_core.specs.Table.{table_counts}
use Rattle.command_show.specs.Cell.{opponent}
use Rattle.command_show.proofs.RangeLemmas.{from_on}
use Rattle.command_show.proofs.cell.host.Given as goal

abbrev pub invariant-loop-number : goal.invariant-loop-number
invariant-loop-number l =
    l.number + prefix_len (λ (j : ℕ). not (nat_lt 0 (table_counts l.cells j l.team.0 l.slot.0))) (from_on l.number l.cells.n)
    ≡ opponent l.cells.n (λ (j : ℕ). table_counts l.cells j l.team.0 l.slot.0)
