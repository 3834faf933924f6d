-- Sums of rows by hand: home games of four teams, the greatest totals, and rounding.
use Rattle.std.proofs.Common.{◌≡◌, ℕ, ◌+◌, ◌*◌, true, false, List, [], ◌∷◌, map, refl}
use Rattle.std.specs.List.{fold}
use Rattle.rows.specs.Cardinality.{at_least}
use Rattle.rows.specs.Literals.{Literal, yes, no}
use Rattle.rows.specs.Rows.{Row}
use Rattle.rows.specs.declared.lit.Term.{Term}
use Rattle.rows.specs.Sums.{Totals, cancelled, divided, is_too_wide, no_totals, plus, widest}

abbrev term : ℕ → Literal → Term
term coef lit = record { coef = coef; lit = lit }

abbrev row : List Term → ℕ → Row
row terms degree = record { terms = terms; degree = degree }

-- rows with their factors, added up
abbrev added : List (ℕ × Row) → Totals
added parts = fold (λ sum part. plus sum part.0 part.1) no_totals parts

-- two of four teams are at home in a slot, where team i is at home in slot s by the variable 73 + 6i + s
abbrev half_at_home : ℕ → ℕ × Row
half_at_home s = (1, at_least 2 (map yes ((73 + s) ∷ (79 + s) ∷ (85 + s) ∷ (91 + s) ∷ [])))

-- a team is at home at most once in the slots 0 to 2
abbrev once_at_home : ℕ → ℕ × Row
once_at_home i = (1, at_least 2 (map no ((73 + 6 * i) ∷ (74 + 6 * i) ∷ (75 + 6 * i) ∷ [])))

-- six home games are needed and four are allowed: nothing is left, and 2 are missing
pub home_games-too_few : cancelled (added (half_at_home 0 ∷ half_at_home 1 ∷ half_at_home 2 ∷ once_at_home 0 ∷ once_at_home 1 ∷ once_at_home 2 ∷ once_at_home 3 ∷ [])) ≡ row [] 2
home_games-too_few = refl

-- without slot 2 nothing is missing
pub home_games-enough : cancelled (added (half_at_home 0 ∷ half_at_home 1 ∷ once_at_home 0 ∷ once_at_home 1 ∷ once_at_home 2 ∷ once_at_home 3 ∷ [])) ≡ at_least 4 (map no (75 ∷ 81 ∷ 87 ∷ 93 ∷ []))
home_games-enough = refl

-- a team without a bound keeps its terms
pub home_games-unbounded : cancelled (added (half_at_home 0 ∷ half_at_home 1 ∷ half_at_home 2 ∷ once_at_home 1 ∷ once_at_home 2 ∷ once_at_home 3 ∷ [])) ≡ at_least 3 (map yes (73 ∷ 74 ∷ 75 ∷ []))
home_games-unbounded = refl

-- factors count each coefficient and the degree; a degree that is used up stays 0
pub cancelled-stops : cancelled (added ((1, at_least 1 (yes 1 ∷ yes 2 ∷ [])) ∷ (2, at_least 0 (no 1 ∷ no 2 ∷ no 3 ∷ [])) ∷ (1, at_least 0 (no 1 ∷ no 2 ∷ no 3 ∷ [])) ∷ []))
    ≡ row (term 2 (no 1) ∷ term 2 (no 2) ∷ term 3 (no 3) ∷ []) 0
cancelled-stops = refl

-- 3 of not 5 and 2 of 2, at least 3: halved, each number is rounded up, and what is left is in the order of the
-- variables
pub divided-rounds_up : divided 2 (cancelled (added ((1, row (term 3 (no 5) ∷ term 2 (yes 2) ∷ []) 3) ∷ []))) ≡ row (term 1 (yes 2) ∷ term 2 (no 5) ∷ []) 2
divided-rounds_up = refl

-- coefficients that are gone are dropped before the division
pub divided-no_zero : divided 7 (cancelled (added ((3, row (term 1 (yes 4) ∷ term 2 (yes 6) ∷ []) 1) ∷ (1, row (term 3 (no 4) ∷ []) 1) ∷ []))) ≡ row (term 1 (yes 6) ∷ []) 1
divided-no_zero = refl

-- no row: no terms and degree 0
pub cancelled-nothing : divided 7 (cancelled no_totals) ≡ row [] 0
cancelled-nothing = refl

-- the greatest total is allowed, and one more isn't; in the coefficients and in the degree
pub is_too_wide-total : (is_too_wide (added ((1, row (term widest (yes 1) ∷ []) widest) ∷ [])) ≡ false)
    × (is_too_wide (added ((1, row (term widest (yes 1) ∷ []) 0) ∷ (1, row (term 1 (yes 1) ∷ []) 0) ∷ [])) ≡ true)
is_too_wide-total = (refl, refl)

pub is_too_wide-degree : is_too_wide (added ((1, row [] widest) ∷ (1, row [] 1) ∷ [])) ≡ true
is_too_wide-degree = refl

-- the factor counts
pub is_too_wide-factor : (is_too_wide (added ((9223372036854775808, row (term 18446744073709551615 (yes 1) ∷ []) 0) ∷ [])) ≡ false)
    × (is_too_wide (added ((9223372036854775809, row (term 18446744073709551615 (yes 1) ∷ []) 0) ∷ [])) ≡ true)
is_too_wide-factor = (refl, refl)

-- a literal and its negation both count, although they cancel
pub is_too_wide-before_cancelling : is_too_wide (added ((1, row (term widest (yes 1) ∷ []) 0) ∷ (1, row (term 1 (no 1) ∷ []) 0) ∷ [])) ≡ true
is_too_wide-before_cancelling = refl
