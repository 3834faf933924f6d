-- How many terms the rows of a key have, by the number of its literals: a row that demands nothing isn't listed.
use Rattle.std.specs.Prelude.{ℕ, ◌+◌, ◌*◌, nat_lt, if◌then◌else◌}
use Rattle.league.specs.declared.class.Side.{Side}
use Rattle.league.specs.declared.class.Side.TheVariants.{H, A, Both}

-- how many terms "at least low" has, which demands nothing where low is 0
abbrev pub least_terms : ℕ → ℕ → ℕ
least_terms low count = if nat_lt 0 low then count else 0

-- how many terms "at most high" has, which demands nothing of high literals or fewer
abbrev pub most_terms : ℕ → ℕ → ℕ
most_terms high count = if nat_lt high count then count else 0

-- how many terms "at least low" and "at most high" have together
abbrev pub between_terms : ℕ → ℕ → ℕ → ℕ
between_terms low high count = least_terms low count + most_terms high count

-- how many terms the two rows of an FA2 at slot s have: each has two literals for each slot so far
abbrev pub fa2_terms : ℕ → ℕ → ℕ
fa2_terms intp s = if nat_lt intp (s + 1) then 4 * (s + 1) else 0

-- on how many sides games are counted
abbrev pub side_count : Side → ℕ
side_count H = 1
side_count A = 1
side_count Both = 2
