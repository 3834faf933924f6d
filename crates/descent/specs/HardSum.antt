-- What a league's hard constraints cost.
use Rattle.std.specs.Prelude.{ℕ, ◌*◌, max}
use Rattle.std.specs.List.{sum_by}
use Rattle.league.specs.Accepted.{hard_of}
use Rattle.league.specs.Counts.{Counts}
use Rattle.league.specs.Deviation.{deviation_of}
use Rattle.league.specs.Instance.{Instance}

-- what the hard constraints cost, where a unit costs at least so much: from 0 on it is the infeasibility, and from 1 on
-- no hard constraint is free
abbrev pub hard_sum : ℕ → Instance → Counts → ℕ
hard_sum least league m =
    sum_by (λ c. max c.penalty least * deviation_of league.n m c.class) (hard_of league.constraints)
