-- Logs of clauses, worked out by hand: four teams, of which none may be at home in slot 0.
use Rattle.std.proofs.Common.{◌≡◌, Some, List, [], ◌∷◌, ◌++◌, replicate, refl}
use Rattle.rows.specs.Literals.{yes, no}
use Rattle.rows.specs.Rows.{Row}
use Rattle.rows.specs.Cardinality.{at_least}
use Rattle.refutation.specs.Steps.{Step}
use Rattle.refutation.specs.Steps.Step.{Clause}
use Rattle.refutation.specs.Following.{clause_row, no_demand, row_numbered}
use Rattle.refutation.specs.Verdict.{verdict_of}
use Rattle.refutation.specs.declared.verdict.Cause.TheVariants.{NoConflict, NoEmptyClause, UnknownRow, UnknownVariable}
use Rattle.refutation.specs.declared.verdict.Verdict.{Verdict}
use Rattle.refutation.specs.declared.verdict.Verdict.TheVariants.{Accepted, Rejected}

-- the variables of home games in slot 0 are 73, 79, 85 and 91; at least two of the four teams are at home
abbrev two_at_home : Row
two_at_home = at_least 2 (yes 73 ∷ yes 79 ∷ yes 85 ∷ yes 91 ∷ [])

-- the numbers are those of the league's rows, whose others play no part here
abbrev league_rows : List Row
league_rows = replicate 132 no_demand ++ two_at_home ∷ replicate 19 no_demand

-- the rows 153 to 156: no team is at home
abbrev rows : List Row
rows = league_rows
    ++ at_least 1 (no 73 ∷ []) ∷ at_least 1 (no 79 ∷ []) ∷ at_least 1 (no 85 ∷ []) ∷ at_least 1 (no 91 ∷ []) ∷ []

abbrev judged : List Step → Verdict
judged steps = verdict_of rows 96 steps

pub row_numbered-rows : row_numbered rows 133 ≡ Some two_at_home
row_numbered-rows = refl

pub accepted : judged (Clause [] (153 ∷ 154 ∷ 155 ∷ 133 ∷ []) ∷ []) ≡ Accepted
accepted = refl

-- hints behind the conflict aren't looked at, one before it is
pub later_hint : judged (Clause [] (153 ∷ 154 ∷ 155 ∷ 133 ∷ 157 ∷ []) ∷ []) ≡ Accepted
later_hint = refl

pub earlier_hint : judged (Clause [] (153 ∷ 157 ∷ 154 ∷ 155 ∷ 133 ∷ []) ∷ []) ≡ Rejected 1 UnknownRow
earlier_hint = refl

-- a step's own number names no row, nor do 0 and the greatest number
pub own_number : judged (Clause [] (157 ∷ []) ∷ []) ≡ Rejected 1 UnknownRow
own_number = refl

pub hint_zero : judged (Clause [] (0 ∷ []) ∷ []) ≡ Rejected 1 UnknownRow
hint_zero = refl

pub greatest_hint : judged (Clause [] (18446744073709551615 ∷ []) ∷ []) ≡ Rejected 1 UnknownRow
greatest_hint = refl

pub unknown_variable : judged (Clause (yes 97 ∷ []) (153 ∷ []) ∷ []) ≡ Rejected 1 UnknownVariable
unknown_variable = refl

pub greatest_variable : judged (Clause (yes 2147483647 ∷ []) [] ∷ []) ≡ Rejected 1 UnknownVariable
greatest_variable = refl

-- also in a clause with a literal and its negation
pub unknown_opposites : judged (Clause (yes 97 ∷ no 97 ∷ []) [] ∷ []) ≡ Rejected 1 UnknownVariable
unknown_opposites = refl

pub no_conflict : judged (Clause [] (133 ∷ []) ∷ []) ≡ Rejected 1 NoConflict
no_conflict = refl

pub no_step : judged [] ≡ Rejected 0 NoEmptyClause
no_step = refl

-- the clause of 1 and not 1 follows, and isn't empty
pub opposites : judged (Clause (yes 1 ∷ no 1 ∷ []) [] ∷ []) ≡ Rejected 1 NoEmptyClause
opposites = refl

-- the clause of 1 and not 1 stands as a row that forces nothing
pub opposites_hint : judged (Clause (yes 1 ∷ no 1 ∷ []) [] ∷ Clause [] (157 ∷ []) ∷ []) ≡ Rejected 2 NoConflict
opposites_hint = refl

-- the league without the four rows
pub fewer_rows : verdict_of league_rows 96 (Clause [] (153 ∷ 154 ∷ 155 ∷ 133 ∷ []) ∷ []) ≡ Rejected 1 UnknownRow
fewer_rows = refl

-- a literal that stands twice counts once
pub clause_row-repeated : clause_row (yes 73 ∷ yes 73 ∷ []) ≡ at_least 1 (yes 73 ∷ [])
clause_row-repeated = refl

-- six clauses, of which the first step learns that 4 is false: the second names it as row 7
abbrev six : List Row
six = clause_row (no 3 ∷ yes 4 ∷ []) ∷ clause_row (no 4 ∷ yes 5 ∷ []) ∷ clause_row (no 4 ∷ yes 6 ∷ [])
    ∷ clause_row (no 5 ∷ no 6 ∷ []) ∷ clause_row (yes 4 ∷ yes 7 ∷ []) ∷ clause_row (yes 4 ∷ no 7 ∷ []) ∷ []

pub learnt : verdict_of six 7 (Clause (no 4 ∷ []) (2 ∷ 3 ∷ 4 ∷ []) ∷ Clause [] (7 ∷ 5 ∷ 6 ∷ []) ∷ []) ≡ Accepted
learnt = refl

pub learnt_twice :
    verdict_of six 7 (Clause (no 4 ∷ no 4 ∷ []) (2 ∷ 3 ∷ 4 ∷ []) ∷ Clause [] (7 ∷ 5 ∷ 6 ∷ []) ∷ []) ≡ Accepted
learnt_twice = refl

pub last_not_empty : verdict_of six 7 (Clause (no 4 ∷ []) (2 ∷ 3 ∷ 4 ∷ []) ∷ []) ≡ Rejected 1 NoEmptyClause
last_not_empty = refl
