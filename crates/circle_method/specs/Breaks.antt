-- The breaks of a season in two halves of n - 1 slots each.
use Rattle.std.specs.Prelude.{◌≡◌, ℕ, ◌-◌}
use Rattle.std.specs.List.{range_with_len}
use Rattle.league.specs.Breaks.{all_breaks}
use Rattle.league.specs.Counts.{Counts, teams_of}
use Rattle.league.specs.Structure.{first_half}

-- each half has n - 2 breaks within itself: those at its first slot, slot 0 or n - 1, need the slot before
pub record HasFewBreaks (n : ℕ) (m : Counts) : Type 0 where
  pub first : all_breaks n m (teams_of n) (first_half n) ≡ n - 2
  pub second : all_breaks n m (teams_of n) (range_with_len n (n - 2)) ≡ n - 2
