-- Numbers in words, and by how much they are beyond a bound.
use Rattle.std.specs.Prelude.{ℕ, ◌+◌, ◌-◌, ◌==◌, nat_le, nat_lt, if◌then◌else◌, List, [], ◌++◌, codes, decimal}
use Rattle.league.specs.Bounds.{excess}
use Rattle.league.specs.Counts.{slot_count}
use Rattle.season_misses.specs.Phrases.{many}

-- `none`, or the number
abbrev pub count_text : ℕ → List ℕ
count_text count = if count == 0 then codes "none" else decimal count

-- `there is none`, `there is 1`, `there are 2`
abbrev pub there_text : ℕ → List ℕ
there_text count = if nat_lt count 2 then codes "there is " ++ count_text count else codes "there are " ++ decimal count

-- by how much a number is outside of low to high, and on which side
abbrev pub beyond_text : ℕ → ℕ → ℕ → List ℕ
beyond_text low high count =
    if nat_le (excess count high) (excess low count)
    then decimal (excess low count) ++ codes " too few"
    else decimal (excess count high) ++ codes " too many"

-- so many slots in a row, from one on
abbrev pub stretch_text : ℕ → ℕ → ℕ → List ℕ
stretch_text n first count =
    if count == slot_count n then codes "the whole season"
    else if count == 1 then codes "slot " ++ decimal first
    else if count == 2 then codes "slots " ++ (decimal first ++ (codes " and " ++ decimal (first + 1)))
    else codes "slots " ++ (decimal first ++ (codes " to " ++ decimal (first + count - 1)))

-- how many windows of so many slots, where it is one and some more
abbrev pub windows_text : ℕ → ℕ → List ℕ
windows_text more intp =
    if more == 0 then []
    else codes " in each of " ++ (decimal (more + 1) ++ (codes " runs of " ++ many intp (codes "slot")))
