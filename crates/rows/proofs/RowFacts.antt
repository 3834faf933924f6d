-- Rows over three variables: what meets them, what they force, and when they are in conflict.
use Rattle.std.proofs.Common.{◌≡◌, ℕ, true, false, List, [], ◌∷◌, refl}
use Rattle.rows.specs.Literals.{Literal, yes, no, negate}
use Rattle.rows.specs.Rows.{size_of, weight}
use Rattle.rows.specs.Cardinality.{at_least, at_most, exactly}
use Rattle.rows.specs.Partials.{is_forced, reach, value_of}
use Rattle.rows.specs.Values.{assigned, valued}
use Rattle.rows.specs.declared.lit.Term.{Term}
use Rattle.rows.specs.declared.partial.Value.TheVariants.{True, False, Free}

pub negate-twice : negate (negate (no 3)) ≡ no 3
negate-twice = refl

abbrev term : ℕ → Literal → Term
term coef lit = record { coef = coef; lit = lit }

-- 2 of variable 1, 3 of not variable 2, 1 of variable 3
abbrev terms : List Term
terms = term 2 (yes 1) ∷ term 3 (no 2) ∷ term 1 (yes 3) ∷ []

-- variable 1 true and variable 2 false give 5; all true give 3
pub weight-true_false : weight (assigned (true ∷ false ∷ false ∷ [])) terms ≡ 5
weight-true_false = refl

pub weight-all_true : weight (assigned (true ∷ true ∷ true ∷ [])) terms ≡ 3
weight-all_true = refl

-- a variable past the list is false
pub weight-past_the_list : weight (assigned (true ∷ [])) terms ≡ 5
weight-past_the_list = refl

-- with variable 2 true, 3 are within reach of what is left
pub reach-one_true : reach (valued (Free ∷ True ∷ Free ∷ [])) terms ≡ 3
reach-one_true = refl

-- for degree 2 the slack is then 1: variable 1 is forced, variable 3 isn't; variable 2 isn't free
pub is_forced-by_slack : (is_forced (valued (Free ∷ True ∷ Free ∷ [])) terms 2 (term 2 (yes 1)) ≡ true)
    × (is_forced (valued (Free ∷ True ∷ Free ∷ [])) terms 2 (term 1 (yes 3)) ≡ false)
    × (is_forced (valued (Free ∷ True ∷ Free ∷ [])) terms 2 (term 3 (no 2)) ≡ false)
is_forced-by_slack = (refl, refl, refl)

-- a coefficient that equals the slack isn't above it
pub is_forced-at_the_slack : is_forced (valued (Free ∷ Free ∷ Free ∷ [])) terms 4 (term 2 (yes 1)) ≡ false
is_forced-at_the_slack = refl

pub value_of-negation : (value_of (valued (True ∷ False ∷ [])) (no 1) ≡ False) × (value_of (valued (True ∷ False ∷ [])) (no 2) ≡ True)
    × (value_of (valued (True ∷ False ∷ [])) (no 3) ≡ Free)
value_of-negation = (refl, refl, refl)

-- at most 1 of three is at least 2 of their negations; at most 4 of them has degree 0
pub at_most-one : at_most 1 (yes 1 ∷ no 2 ∷ yes 3 ∷ []) ≡ at_least 2 (no 1 ∷ yes 2 ∷ no 3 ∷ [])
at_most-one = refl

pub at_most-all : at_most 4 (yes 1 ∷ no 2 ∷ yes 3 ∷ []) ≡ at_least 0 (no 1 ∷ yes 2 ∷ no 3 ∷ [])
at_most-all = refl

pub exactly-two : exactly 2 (yes 1 ∷ yes 2 ∷ yes 3 ∷ []) ≡ at_least 2 (yes 1 ∷ yes 2 ∷ yes 3 ∷ []) ∷ at_least 1 (no 1 ∷ no 2 ∷ no 3 ∷ []) ∷ []
exactly-two = refl

pub size_of-exactly : size_of (exactly 2 (yes 1 ∷ yes 2 ∷ yes 3 ∷ [])) ≡ 6
size_of-exactly = refl
