-- Logs with sums of rows, worked out by hand: four teams, each at home at most once in the slots 0 to 2.
use Rattle.std.proofs.Common.{◌≡◌, ℕ, ◌+◌, ◌*◌, List, [], ◌∷◌, ◌++◌, map, replicate, refl}
use Rattle.std.specs.Prelude.{Ok, Err}
use Rattle.rows.specs.Literals.{Literal, yes, no}
use Rattle.rows.specs.Rows.{Row}
use Rattle.rows.specs.Cardinality.{at_least}
use Rattle.rows.specs.declared.lit.Term.{Term}
use Rattle.rows.specs.Sums.{widest}
use Rattle.refutation.specs.Steps.{Step}
use Rattle.refutation.specs.Steps.Step.{Clause, Linear}
use Rattle.refutation.specs.Following.{judged, no_demand}
use Rattle.refutation.specs.Verdict.{verdict_of}
use Rattle.refutation.specs.declared.step.Part.{Part}
use Rattle.refutation.specs.declared.verdict.Cause.TheVariants.{NoConflict, NoEmptyClause, TooWide, UnknownRow}
use Rattle.refutation.specs.declared.verdict.Verdict.TheVariants.{Accepted, Rejected}

abbrev times : ℕ → ℕ → Part
times factor row = record { factor = factor; row = row }

abbrev once : ℕ → Part
once row = times 1 row

abbrev counted : ℕ → Literal → Term
counted coef lit = record { coef = coef; lit = lit }

-- two of the four are at home, and two away, in slot 0, 1, 2: the rows 133 and 134, 135 and 136, 137 and 138
abbrev half_at_home : ℕ → List Row
half_at_home s =
    at_least 2 (map yes ((73 + s) ∷ (79 + s) ∷ (85 + s) ∷ (91 + s) ∷ []))
    ∷ at_least 2 (map no ((73 + s) ∷ (79 + s) ∷ (85 + s) ∷ (91 + s) ∷ [])) ∷ []

abbrev league_rows : List Row
league_rows =
    replicate 132 no_demand ++ half_at_home 0 ++ half_at_home 1 ++ half_at_home 2 ++ replicate 14 no_demand

-- the rows 153 to 156: at most one home game of a team in those slots
abbrev rows : List Row
rows = league_rows
    ++ at_least 2 (no 73 ∷ no 74 ∷ no 75 ∷ []) ∷ at_least 2 (no 79 ∷ no 80 ∷ no 81 ∷ [])
    ∷ at_least 2 (no 85 ∷ no 86 ∷ no 87 ∷ []) ∷ at_least 2 (no 91 ∷ no 92 ∷ no 93 ∷ []) ∷ []

abbrev all_counted : Step
all_counted = Linear (map once (133 ∷ 135 ∷ 137 ∷ 153 ∷ 154 ∷ 155 ∷ 156 ∷ [])) 1

-- six home games are needed and four are allowed: no term is left, and 2 are missing
pub judged-counted : judged rows 96 all_counted ≡ Ok (record { terms = []; degree = 2 })
judged-counted = refl

pub accepted : verdict_of rows 96 (all_counted ∷ Clause [] (157 ∷ []) ∷ []) ≡ Accepted
accepted = refl

-- without slot 2 nothing is missing
pub slot_left_out :
    verdict_of rows 96 (Linear (map once (133 ∷ 135 ∷ 153 ∷ 154 ∷ 155 ∷ 156 ∷ [])) 1 ∷ Clause [] (157 ∷ []) ∷ [])
    ≡ Rejected 2 NoConflict
slot_left_out = refl

-- a sum is no empty clause, also where its row is that of the empty clause
pub last_is_linear : verdict_of rows 96 (all_counted ∷ []) ≡ Rejected 1 NoEmptyClause
last_is_linear = refl

pub linear_falsum :
    verdict_of (record { terms = []; degree = 1 } ∷ []) 1 (Linear (once 1 ∷ []) 1 ∷ []) ≡ Rejected 1 NoEmptyClause
linear_falsum = refl

-- a step's own number names no row, nor does 0
pub own_number : verdict_of league_rows 96 (Linear (once 153 ∷ []) 1 ∷ []) ≡ Rejected 1 UnknownRow
own_number = refl

pub row_zero : judged league_rows 96 (Linear (once 0 ∷ []) 1) ≡ Err UnknownRow
row_zero = refl

-- ---- too wide

abbrev most : ℕ
most = 18446744073709551615

pub squared :
    verdict_of league_rows 96 (Linear (times most 133 ∷ []) 1 ∷ Linear (times most 153 ∷ []) 1 ∷ [])
    ≡ Rejected 2 TooWide
squared = refl

-- the first part at fault gives the cause
pub wide_first :
    verdict_of league_rows 96 (Linear (times most 133 ∷ []) 1 ∷ Linear (times most 153 ∷ once 0 ∷ []) 1 ∷ [])
    ≡ Rejected 2 TooWide
wide_first = refl

pub unknown_first :
    verdict_of league_rows 96 (Linear (times most 133 ∷ []) 1 ∷ Linear (once 0 ∷ times most 153 ∷ []) 1 ∷ [])
    ≡ Rejected 2 UnknownRow
unknown_first = refl

-- the greatest total, and one more: the second row counts `most`
abbrev one : List Row
one = at_least 1 (yes 1 ∷ []) ∷ record { terms = counted most (yes 1) ∷ []; degree = most } ∷ []

pub just_wide :
    judged one 1 (Linear (times 9223372036854775808 2 ∷ times 9223372036854775807 1 ∷ []) 1)
    ≡ Ok (record { terms = counted widest (yes 1) ∷ []; degree = widest })
just_wide = refl

pub too_wide : judged one 1 (Linear (times 9223372036854775808 2 ∷ times 9223372036854775808 1 ∷ []) 1) ≡ Err TooWide
too_wide = refl

-- totals are those before cancelling, of all literals together
abbrev opposed : List Row
opposed = at_least 1 (yes 1 ∷ yes 2 ∷ [])
    ∷ record { terms = counted (9223372036854775808 * most) (no 1) ∷ []; degree = 0 } ∷ []

pub cancels_too_late : judged opposed 2 (Linear (once 2 ∷ times 9223372036854775807 1 ∷ []) 1) ≡ Err TooWide
cancels_too_late = refl

-- ---- the row of a sum

-- no part: nothing is added
pub no_part : judged rows 96 (Linear [] 7) ≡ Ok no_demand
no_part = refl

-- ascending, and rounded up: half of 3 of not 5, and 2 of 2, at least 3
pub rounded :
    judged (record { terms = counted 3 (no 5) ∷ counted 2 (yes 2) ∷ []; degree = 3 } ∷ []) 9 (Linear (once 1 ∷ []) 2)
    ≡ Ok (record { terms = counted 1 (yes 2) ∷ counted 2 (no 5) ∷ []; degree = 2 })
rounded = refl

-- a row that is named twice, and a degree that stops at 0
pub stops :
    judged (at_least 1 (yes 1 ∷ yes 2 ∷ []) ∷ at_least 0 (no 1 ∷ no 2 ∷ no 3 ∷ []) ∷ []) 9
    (Linear (once 1 ∷ times 2 2 ∷ once 2 ∷ []) 1)
    ≡ Ok (record { terms = counted 2 (no 1) ∷ counted 2 (no 2) ∷ counted 3 (no 3) ∷ []; degree = 0 })
stops = refl

-- three teams bounded, of which one is never at home: the fourth keeps its terms, too few for the degree
abbrev three_bounded : List Row
three_bounded = league_rows
    ++ at_least 3 (no 79 ∷ no 80 ∷ no 81 ∷ []) ∷ at_least 2 (no 85 ∷ no 86 ∷ no 87 ∷ [])
    ∷ at_least 2 (no 91 ∷ no 92 ∷ no 93 ∷ []) ∷ []

abbrev three_counted : Step
three_counted = Linear (map once (133 ∷ 135 ∷ 137 ∷ 153 ∷ 154 ∷ 155 ∷ [])) 1

pub terms_left : judged three_bounded 96 three_counted ≡ Ok (at_least 4 (yes 73 ∷ yes 74 ∷ yes 75 ∷ []))
terms_left = refl

pub three_accepted : verdict_of three_bounded 96 (three_counted ∷ Clause [] (156 ∷ []) ∷ []) ≡ Accepted
three_accepted = refl
