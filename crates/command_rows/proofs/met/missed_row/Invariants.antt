use Rattle.std.proofs.Common.{◌≡◌, ◌+◌, drop}
use Rattle.rows.specs.Values.{assigned}
use Rattle.command_rows.specs.Valued.{missed_from}
use Rattle.command_rows.proofs.met.missed_row.Given as goal

-- the first that is missed from here on is the first of all
abbrev pub invariant-loop-k : goal.invariant-loop-k
invariant-loop-k l =
    missed_from (l.k + 1) (drop l.k l.rows) (assigned l.values) ≡ missed_from 1 l.rows (assigned l.values)
