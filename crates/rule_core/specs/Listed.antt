-- Where a number stands in an ascending list.
use Rattle.std.specs.Prelude.{◌≡◌, ◌≢◌, ℕ, ◌<◌, List, length, slice_index, Option}
use Rattle.std.specs.List.{All}
use Rattle.std.specs.Option.{MatchOption}

-- the place of number t, counted from 0, or none where it isn't one of these
abbrev pub IsKeyOf : List ℕ → ℕ → Option ℕ → Type 0
IsKeyOf xs t key = MatchOption key (All (λ x. x ≢ t) xs) (λ k. (k < length xs) × (slice_index xs k ≡ t))
