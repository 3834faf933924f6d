use Rattle.std.proofs.Common.{◌≡◌}
use Rattle.std.specs.List.{filter, range_with_len}
use Rattle.explain.specs.Parts.{is_hard_number}
use Rattle.explain.proofs.hard.hard_numbers.Given as goal

-- the numbers of hard constraints among those so far
abbrev pub invariant-loop-before : goal.invariant-loop-before
invariant-loop-before l = l.numbers.items ≡ filter (is_hard_number l.constraints) (range_with_len 1 l.before)
