-- Two teams, in no phases, and a bound on what breaks cost; and two teams whose season is partly played. x(0,1,s) is
-- 1 + s, x(1,0,s) 3 + s, h(0,s) 5 + s, h(1,s) 7 + s, and at slot 1 hb is 9 and 10, ab 11 and 12.
use Rattle.std.proofs.Common.{◌≡◌, ℕ, ◌+◌, true, false, List, [], ◌∷◌, drop, map, length, refl, arith, lit<}
use Rattle.league.specs.Counts.{Counts, counts_of}
use Rattle.league.specs.Instance.{Instance}
use Rattle.league.specs.declared.class.Class.{Class}
use Rattle.league.specs.declared.class.Class.TheVariants.{Br2, Ga1, Se1}
use Rattle.league.specs.declared.class.Constraint.{Constraint}
use Rattle.league.proofs.DoubleFour.{game}
use Rattle.rows.specs.Cardinality.{at_least}
use Rattle.rows.specs.Literals.{Literal, no, yes}
use Rattle.rows.specs.Rows.{Row, size_of}
use Rattle.rows.specs.declared.lit.Term.{Term}
use Rattle.encoding.specs.Variables.{var_count}
use Rattle.refutation.specs.Steps.Step.{Clause}
use Rattle.refutation.specs.Verdict.{verdict_of}
use Rattle.refutation.specs.declared.verdict.Verdict.TheVariants.{Accepted}
use Rattle.bound_rows.specs.BoundRows.{base_rows, base_vars, bound_rows, bound_size, bound_vars, league_groups, paid_of}
use Rattle.bound_rows.specs.Parts.{parts_of}
use Rattle.bound_rows.specs.Softening.{total_cost}
use Rattle.resume.specs.Kept.{Keeps, kept_rows, resume_rows, resume_size}

abbrev soft : ℕ → Class → Constraint
soft penalty class = record { hard = false; penalty = penalty; class = class }

abbrev league_with : List Constraint → Instance
league_with constraints = record { n = 2; phased = false; constraints = constraints }

-- ---- no break in slot 1, at 3 each: there are four that could be

abbrev few_breaks : Instance
few_breaks = league_with (soft 3 (Br2 (0 ∷ 1 ∷ []) 0 (1 ∷ [])) ∷ [])

abbrev cost : ℕ → Term
cost v = record { coef = 3; lit = no v }

-- 28 rows of the season, 12 that tie the breaks, and what is softened
pub breaks-counts : (base_vars few_breaks ≡ 12) × (bound_vars few_breaks ≡ 16) × (length (base_rows few_breaks) ≡ 40)
    × (total_cost (league_groups few_breaks) ≡ 12)
breaks-counts = (refl, refl, refl, refl)

pub breaks-tail : drop 40 (bound_rows few_breaks 5)
    ≡ at_least 4 (no 9 ∷ no 10 ∷ no 11 ∷ no 12 ∷ yes 13 ∷ yes 14 ∷ yes 15 ∷ yes 16 ∷ [])
    ∷ record { terms = cost 13 ∷ cost 14 ∷ cost 15 ∷ cost 16 ∷ []; degree = 7 }
    ∷ at_least 1 (yes 13 ∷ no 14 ∷ [])
    ∷ at_least 1 (yes 14 ∷ no 15 ∷ [])
    ∷ at_least 1 (yes 15 ∷ no 16 ∷ [])
    ∷ []
breaks-tail = refl

-- a bound of 0: all units are to be false; their cost and more: nothing is asked for
pub breaks-degrees : map (λ bound. map (λ row. row.degree) (drop 41 (bound_rows few_breaks bound))) (0 ∷ 12 ∷ 13 ∷ [])
    ≡ (12 ∷ 1 ∷ 1 ∷ 1 ∷ []) ∷ (0 ∷ 1 ∷ 1 ∷ 1 ∷ []) ∷ (0 ∷ 1 ∷ 1 ∷ 1 ∷ []) ∷ []
breaks-degrees = refl

-- 56 of the season and 28 of the breaks; 8, 4, and 2 for each order row
pub breaks-size : bound_size few_breaks ≡ 56 + 28 + 8 + 4 + 6
breaks-size = refl

-- what costs nothing has no units, no rows and no variables
pub free : (paid_of (soft 0 (Br2 (0 ∷ 1 ∷ []) 0 (1 ∷ [])) ∷ []) ≡ [])
    × (bound_vars (league_with (soft 0 (Br2 (0 ∷ 1 ∷ []) 0 (1 ∷ [])) ∷ [])) ≡ 8)
    × (drop 28 (bound_rows (league_with []) 0) ≡ record { terms = []; degree = 0 } ∷ [])
free = (refl, refl, refl)

-- ---- one slot between their games, which there never is: one part, whose window is the season

pub apart-one : (parts_of 2 (Se1 (0 ∷ 1 ∷ []) 1) ≡ Se1 (0 ∷ 1 ∷ []) 1 ∷ []) × (parts_of 2 (Se1 (0 ∷ 1 ∷ []) 0) ≡ [])
    × (drop 28 (bound_rows (league_with (soft 6 (Se1 (0 ∷ 1 ∷ []) 1) ∷ [])) 5)
    ≡ at_least 3 (no 1 ∷ no 2 ∷ no 3 ∷ no 4 ∷ yes 9 ∷ [])
    ∷ record { terms = record { coef = 6; lit = no 9 } ∷ []; degree = 1 }
    ∷ [])
apart-one = (refl, refl, refl)

-- the least number of games above the greatest: an entry is the larger of what is lacking and what is too much
pub crossed : drop 28 (bound_rows (league_with (soft 2 (Ga1 ((1, 0) ∷ []) 1 0 (1 ∷ [])) ∷ [])) 1)
    ≡ at_least 1 (yes 4 ∷ yes 9 ∷ [])
    ∷ at_least 1 (no 4 ∷ yes 9 ∷ [])
    ∷ record { terms = record { coef = 2; lit = no 9 } ∷ []; degree = 1 }
    ∷ []
crossed = refl

-- ---- both slots were played, and only (1,0,0) took place in them, though it is listed twice

abbrev plain : Instance
plain = league_with []

abbrev played : Counts
played = counts_of (game 1 0 0 ∷ game 1 0 0 ∷ [])

abbrev clause : Literal → Row
clause l = at_least 1 (l ∷ [])

pub kept-both : map (kept_rows 2 played) (0 ∷ 1 ∷ 2 ∷ [])
    ≡ [] ∷ (clause (no 1) ∷ clause (yes 3) ∷ []) ∷ (clause (no 1) ∷ clause (yes 3) ∷ clause (no 2) ∷ clause (no 4) ∷ []) ∷ []
kept-both = refl

-- two terms more for each slot
pub kept-sizes : (map (resume_size plain) (0 ∷ 1 ∷ 2 ∷ []) ≡ 56 ∷ 58 ∷ 60 ∷ [])
    × (size_of (resume_rows plain played 2) ≡ 60)
kept-sizes = (refl, refl)

-- row 1 wants a game of 0 at home to 1, which rows 29 and 31 rule out in both slots
pub kept-none : verdict_of (resume_rows plain played 2) (var_count plain) (Clause [] (29 ∷ 31 ∷ 1 ∷ []) ∷ []) ≡ Accepted
kept-none = refl

true_false : true ≡ false → ⊥
true_false is = cc

-- a game more isn't kept, and where no slot is played anything is
pub kept-more : Keeps played 1 (counts_of (game 0 1 0 ∷ game 1 0 0 ∷ [])) → ⊥
kept-more keeps = true_false (keeps 0 1 0 (lit< tt))

pub kept-anything : (m : Counts) → Keeps played 0 m
kept-anything m i j s within = absurd (omega (arith, within))
