use Rattle.std.proofs.Common.{◌≡◌, ℕ, ◌<◌, ◌≤◌, Some}
use Rattle.std.specs.List.{slice_get}
use Rattle.rows.specs.Cardinality.{at_least}
use Rattle.venue_counts.proofs.numbers.number_of.Given as goal

-- it stands at none of the places so far
abbrev pub invariant-loop-k : goal.invariant-loop-k
invariant-loop-k l = (j : ℕ) → l.fn.places.start ≤ j → j < l.k → slice_get l.rows j ≡ Some (at_least l.degree l.literals)
    → ⊥
