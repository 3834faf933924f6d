-- Two teams, worked out by hand: which rows are pattern rows, which patterns they allow, and which hints name them.
use Rattle.std.proofs.Common.{◌≡◌, ◌+◌, ◌≤◌, Bool, true, false, not, cond, List, [], ◌∷◌, ◌++◌}
use Rattle.std.proofs.Common.{length, Some, None, refl, arith, lit<}
use Rattle.std.specs.Prelude.{IsSomeAnd}
use Rattle.std.proofs.lemmas.List.Elements.{All-from_recursion}
use Rattle.league.specs.Instance.{Instance}
use Rattle.league.specs.declared.class.Class.TheVariants.{Br2}
use Rattle.league.specs.declared.class.Constraint.{Constraint}
use Rattle.league.specs.declared.class.Side.{Side}
use Rattle.league.specs.declared.class.Side.TheVariants.{H, A, Both}
use Rattle.rows.specs.Cardinality.{at_least}
use Rattle.rows.specs.Literals.{yes, no}
use Rattle.encoding.specs.Encoding.{rows_of}
use Rattle.encoding.specs.Season.{break_rows, slot_rows, team_rows}
use Rattle.refutation.specs.Following.{row_numbered}
use Rattle.refutation.specs.Steps.Step.{Clause}
use Rattle.league_search.specs.PatternLogs.{NamesPatternRows}
use Rattle.league_search.specs.PatternRows.{is_pattern_row, pattern_rows, pattern_var_count}
use Rattle.league_search.specs.PatternSets.{IsPatternSet, letter_at}
use Rattle.league_search.specs.Raised.{number_of, raised_step}

-- ---- rows

abbrev two : Instance
two = record { n = 2; phased = true; constraints = [] }

abbrev few_breaks : Constraint
few_breaks = record { hard = true; penalty = 1; class = Br2 (0 ∷ 1 ∷ []) 0 (0 ∷ 1 ∷ []) }

abbrev two_with_breaks : Instance
two_with_breaks = record { n = 2; phased = true; constraints = few_breaks ∷ [] }

-- the games are the variables 1 to 4: a row with one of them is no pattern row, and a row without terms is one
pub is_pattern_row-some : (is_pattern_row 4 (at_least 1 (yes 5 ∷ no 8 ∷ [])) ≡ true)
    × (is_pattern_row 4 (at_least 1 (no 4 ∷ yes 5 ∷ [])) ≡ false)
    × (is_pattern_row 4 (at_least 1 (yes 5 ∷ no 1 ∷ [])) ≡ false) × (is_pattern_row 4 (at_least 1 []) ≡ true)
is_pattern_row-some = (refl, refl, refl, refl)

-- of 30 rows the last 8, which say how many play at home in each slot, and how often each team does
pub pattern_rows-two : (length (rows_of two) ≡ 30) × (pattern_rows two ≡ slot_rows 2 ++ team_rows 2)
    × (length (pattern_rows two) ≡ 8)
pattern_rows-two = (refl, refl, refl)

-- where breaks have variables, the break rows are pattern rows, and so is the one row of the constraint
pub pattern_rows-breaks : (length (break_rows 2 true) ≡ 12) × (length (pattern_rows two_with_breaks) ≡ 21)
pattern_rows-breaks = (refl, refl)

pub pattern_var_count-two : (pattern_var_count two ≡ 4) × (pattern_var_count two_with_breaks ≡ 8)
pattern_var_count-two = (refl, refl)

-- ---- patterns

abbrev taking_turns : List (List Side)
taking_turns = (H ∷ A ∷ []) ∷ (A ∷ H ∷ []) ∷ []

pub letter_at-some : (letter_at taking_turns 0 1 ≡ A) × (letter_at taking_turns 1 1 ≡ H)
    × (letter_at taking_turns 2 0 ≡ Both) × (letter_at taking_turns 0 2 ≡ Both)
letter_at-some = (refl, refl, refl, refl)

-- a team that is at home throughout breaks the row that it isn't more than once
too_often : (a b : Bool) → a ≡ true → b ≡ true → 1 ≤ 0 + cond (not a) 1 0 + cond (not b) 1 0 → ⊥
too_often true true first second met = omega (arith, met)
too_often true false first second met = absurd (cc)
too_often false b first second met = absurd (cc)

pub not_throughout : IsPatternSet two ((H ∷ H ∷ []) ∷ (A ∷ A ∷ []) ∷ []) → ⊥
not_throughout is =
    too_often (is.values 5) (is.values 6) (is.say.venues 0 0 (lit< tt) (lit< tt))
    (is.say.venues 0 1 (lit< tt) (lit< tt))
    (is.met 5 (at_least 0 []) (lit< tt))

-- no pattern is too many
pub not_more : (third : List Side) → IsPatternSet two (taking_turns ++ third ∷ []) → ⊥
not_more third is = omega (arith, is.teams)

-- ---- hints

-- rows 23 and 30 are pattern rows, 22 speaks of a game, and there is no row 31
pub names-some : NamesPatternRows 4 (rows_of two) (Clause [] (23 ∷ 30 ∷ []))
names-some =
    All-from_recursion (λ hint. IsSomeAnd (row_numbered (rows_of two) hint) (λ row. is_pattern_row 4 row ≡ true))
    (23 ∷ 30 ∷ []) (refl, (refl, tt))

false_true : false ≡ true → ⊥
false_true is = cc

pub names-game : NamesPatternRows 4 (rows_of two) (Clause [] (22 ∷ [])) → ⊥
names-game named = false_true (named 0 0 (lit< tt))

pub names-none : NamesPatternRows 4 (rows_of two) (Clause [] (31 ∷ [])) → ⊥
names-none named = named 0 0 (lit< tt)

-- of two picked rows, 3 and 7 among ten, and a step behind them: their numbers among all, and those that name nothing
pub number_of-some : (number_of (3 ∷ 7 ∷ []) 10 1 1 ≡ Some 3) × (number_of (3 ∷ 7 ∷ []) 10 1 2 ≡ Some 7)
    × (number_of (3 ∷ 7 ∷ []) 10 1 3 ≡ Some 11) × (number_of (3 ∷ 7 ∷ []) 10 1 4 ≡ None)
    × (number_of (3 ∷ 7 ∷ []) 10 1 0 ≡ None)
number_of-some = (refl, refl, refl, refl, refl)

pub raised_step-one : raised_step 4 (3 ∷ 7 ∷ []) 10 1 (Clause (no 2 ∷ yes 1 ∷ []) (2 ∷ 3 ∷ 4 ∷ []))
    ≡ Clause (no 6 ∷ yes 5 ∷ []) (7 ∷ 11 ∷ [])
raised_step-one = refl
