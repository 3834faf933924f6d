-- The number that stands for a side and a set of slots.
use Rattle.std.specs.Prelude.{ℕ, ◌+◌, ◌*◌, ◌^◌, List, if◌then◌else◌}
use Rattle.std.specs.List.{sum_by}
use Rattle.league.specs.declared.class.Side.{Side}
use Rattle.league.specs.declared.class.Side.TheVariants.{H}
use Rattle.venue_counts.specs.VenueCounts.{is_side}

-- a bit for each slot
abbrev pub mask_of : List ℕ → ℕ
mask_of slots = sum_by (λ s. 2 ^ s) slots

abbrev pub key_of : Side → List ℕ → ℕ
key_of side slots = 2 * mask_of slots + (if is_side side H then 1 else 0)
