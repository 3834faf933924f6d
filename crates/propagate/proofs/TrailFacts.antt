-- Seven variables and six clauses, worked out by hand: the values and levels that entries give, and what is forced.
use Rattle.std.proofs.Common.{◌≡◌, ℕ, List, [], ◌∷◌, map, take, Option, Some, None, refl, arith, lit<}
use Rattle.rows.specs.Cardinality.{at_least}
use Rattle.rows.specs.Literals.{Literal, yes, no}
use Rattle.rows.specs.Rows.{Row}
use Rattle.rows.specs.Partials.{IsInConflict, reach, value_of}
use Rattle.rows.specs.declared.partial.Value.TheVariants.{True, False, Free}
use Rattle.propagate.specs.Trails.{IsBackTo, IsForcedBy, NamesConflict, level_of, values_of}
use Rattle.propagate.specs.declared.entry.Entry.{Entry}

abbrev six : List Row
six = map (at_least 1) ((no 3 ∷ yes 4 ∷ []) ∷ (no 4 ∷ yes 5 ∷ []) ∷ (no 4 ∷ yes 6 ∷ []) ∷ (no 5 ∷ no 6 ∷ []) ∷ (yes 4 ∷ yes 7 ∷ []) ∷ (yes 4 ∷ no 7 ∷ []) ∷ [])

abbrev entry : Literal → ℕ → Option ℕ → Entry
entry lit level reason = record { lit = lit; level = level; reason = reason }

-- 1, 2 and 3 are decided
abbrev decided : List Entry
decided = entry (yes 1) 1 None ∷ entry (yes 2) 2 None ∷ entry (yes 3) 3 None ∷ []

-- behind these decisions rows 1, 2 and 3 force 4, 5 and 6
abbrev settled : List Entry
settled = entry (yes 1) 1 None ∷ entry (yes 2) 2 None ∷ entry (yes 3) 3 None ∷ entry (yes 4) 3 (Some 1) ∷ entry (yes 5) 3 (Some 2) ∷ entry (yes 6) 3 (Some 3) ∷ []

pub values_of-settled : (value_of (values_of settled) (yes 6) ≡ True) × (value_of (values_of settled) (no 6) ≡ False)
    × (value_of (values_of settled) (yes 7) ≡ Free)
values_of-settled = (refl, refl, refl)

pub level_of-settled : level_of settled ≡ 3
level_of-settled = refl

-- row 1 has one literal left, which it forces; row 5 has two
pub reach-decided : (reach (values_of decided) (at_least 1 (no 3 ∷ yes 4 ∷ [])).terms ≡ 1)
    × (reach (values_of decided) (at_least 1 (yes 4 ∷ yes 7 ∷ [])).terms ≡ 2)
reach-decided = (refl, refl)

-- row 1 forces 4 where 3 is true
pub forced-by_first : IsForcedBy six decided (yes 4) 1
forced-by_first = record {
  row = at_least 1 (no 3 ∷ yes 4 ∷ []);
  numbered = record { from_one = omega arith; there = refl };
  term = record { coef = 1; lit = yes 4 };
  literal = refl;
  forces = record { no_conflict = omega arith; there = (1, lit< tt, refl); free = refl; needed = omega arith };
}

-- behind the six entries row 4 is in conflict, and the numbers begin at 1
pub conflict-settled : NamesConflict six (values_of settled) (record { row = 4 })
conflict-settled = record {
  row = at_least 1 (no 5 ∷ no 6 ∷ []);
  numbered = record { from_one = omega arith; there = refl };
  conflict_is = omega arith;
}

-- the clause of no literal is in conflict at once
pub conflict-empty : IsInConflict (values_of []) (at_least 1 [])
conflict-empty = omega arith

-- back to level 2 two entries stay, and behind them stood the decision of level 3
pub back-two : IsBackTo 2 settled (take 2 settled)
back-two = record { shorter = omega arith; front = refl; level_is = refl; next = λ d shorter. refl }

-- back to level 3 all stay
pub back-three : IsBackTo 3 settled settled
back-three = record { shorter = omega arith; front = refl; level_is = refl; next = λ d shorter. absurd (omega arith) }
