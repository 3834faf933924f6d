-- What variables count in a row: a number below 0 is what the negation counts.
use Rattle.std.specs.Prelude.{ℕ, ◌≤◌, ℤ, pos, int_lt, List, slice_index_or, slice_set, if◌then◌else◌}
use Rattle.std.specs.List.{All}
use Rattle.rows.specs.Literals.{Literal}
use Rattle.planes.specs.Numbers.{divided_up, minus, size_of}

-- what a literal counts
abbrev pub coef_of : List ℤ → Literal → ℤ
coef_of counts l =
    let count = slice_index_or counts l.var (pos 0) in
    if l.positive then count else minus count

-- of none of these literals the variable or its negation counts more
abbrev pub AreAtMost : ℕ → List ℤ → List Literal → Type 0
AreAtMost limit counts touched = All (λ l. size_of (slice_index_or counts l.var (pos 0)) ≤ limit) touched

-- what a variable or its negation counts, divided, rounding up
abbrev pub count_divided : ℤ → ℤ → ℤ
count_divided divisor count =
    if int_lt count (pos 0) then minus (pos (divided_up (minus count) divisor)) else pos (divided_up count divisor)

-- what variables count, with that of one literal divided so
abbrev pub counts_divided : ℤ → List ℤ → Literal → List ℤ
counts_divided divisor counts l = slice_set counts l.var (count_divided divisor (slice_index_or counts l.var (pos 0)))
