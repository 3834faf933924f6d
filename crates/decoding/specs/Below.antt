-- Numbers below a bound: teams of a league, or slots of a season.
use Rattle.std.specs.Prelude.{ℕ, Bool, nat_lt, List}
use Rattle.std.specs.List.{list_all}

-- whether all are below it
abbrev pub all_below : ℕ → List ℕ → Bool
all_below bound numbers = list_all (λ x. nat_lt x bound) numbers
