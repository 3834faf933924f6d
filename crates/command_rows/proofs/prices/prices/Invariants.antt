use Rattle.std.proofs.Common.{◌≡◌, map, take}
use Rattle.command_rows.specs.Rowed.{turned}
use Rattle.command_rows.proofs.prices.prices.Given as goal

-- the prices of the terms so far
abbrev pub invariant-loop-term : goal.invariant-loop-term
invariant-loop-term l = l.prices.items ≡ map turned (take l.term-index l.terms)
