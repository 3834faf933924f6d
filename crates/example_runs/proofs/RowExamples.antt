-- One row of four variables, 4 of 1, 3 of not 2, 2 of 3 and 1 of 4, at least 6; and two rows added up.
use Rattle.std.proofs.Common.{◌≡◌, ◌≢◌, ℕ, zero, suc, ◌+◌, ◌<◌, ◌≤◌, true, false, List, [], ◌∷◌, get_or, map, refl}
use Rattle.std.proofs.Common.{ap, arith, lit<, lit≤, sym}
use Rattle.std.specs.Prelude.{Contains}
use Rattle.std.proofs.lemmas.List.Elements.{All-from_recursion}
use Rattle.rows.specs.Cardinality.{at_least, between, exactly}
use Rattle.rows.specs.Forcing.{forced_by, set_true, with_forced}
use Rattle.rows.specs.Literals.{Literal, yes, no}
use Rattle.rows.specs.Partials.{Forces, IsEmpowering, IsQuietRow, reach, value_of}
use Rattle.rows.specs.Rows.{IsRow, Row, weight}
use Rattle.rows.specs.Tests.{all_satisfied, satisfied, true_count}
use Rattle.rows.specs.Trails.{IsListed}
use Rattle.rows.specs.Values.{assigned, valued}
use Rattle.rows.specs.declared.lit.Term.{Term}
use Rattle.rows.specs.declared.partial.Value.{Value}
use Rattle.rows.specs.declared.partial.Value.TheVariants.{True, False, Free}
use Rattle.rows.specs.Sums.{IsWide, Totals, cancelled, divided, no_totals, plus, widest}

abbrev term : ℕ → Literal → Term
term coef lit = record { coef = coef; lit = lit }

abbrev row : Row
row = record { terms = term 4 (yes 1) ∷ term 3 (no 2) ∷ term 2 (yes 3) ∷ term 1 (yes 4) ∷ []; degree = 6 }

-- 1, 2 and 4 true: 4 + 1, one too few. 1 and 3 true, 2 and 4 false: 4 + 3 + 2
pub weights : (weight (assigned (true ∷ true ∷ false ∷ true ∷ [])) row.terms ≡ 5)
    × (satisfied (assigned (true ∷ true ∷ false ∷ true ∷ [])) row ≡ false)
    × (weight (assigned (true ∷ false ∷ true ∷ false ∷ [])) row.terms ≡ 9)
    × (all_satisfied (assigned (true ∷ false ∷ true ∷ false ∷ [])) (row ∷ row ∷ []) ≡ true)
weights = (refl, refl, refl, refl)

-- where 2 is true, 7 are within reach and the slack is 1: 1 and 3 are forced, 4 isn't
pub forced : (reach (valued (Free ∷ True ∷ [])) row.terms ≡ 7)
    × (forced_by (valued (Free ∷ True ∷ [])) row ≡ yes 1 ∷ yes 3 ∷ [])
    × (map (with_forced (valued (Free ∷ True ∷ [])) row) (1 ∷ 2 ∷ 3 ∷ 4 ∷ []) ≡ True ∷ True ∷ True ∷ Free ∷ [])
forced = (refl, refl, refl)

-- where 4 is false too the slack is 0, and all that is free is forced; where 1 is false and 2 true, 3 are within reach
pub slack_none : (forced_by (valued (Free ∷ True ∷ Free ∷ False ∷ [])) row ≡ yes 1 ∷ yes 3 ∷ [])
    × (reach (valued (False ∷ True ∷ [])) row.terms ≡ 3)
slack_none = (refl, refl)

-- a literal whose variable has a value stays as it is, whichever that is
pub set_before : (set_true (valued (True ∷ [])) (no 1) 1 ≡ True) × (set_true (valued (False ∷ [])) (yes 1) 1 ≡ False)
    × (set_true (valued (True ∷ [])) (no 2) 2 ≡ False)
set_before = (refl, refl, refl)

-- the least number above the greatest: both rows are there, and nothing satisfies both
pub between_crossed : between 2 0 (yes 1 ∷ no 2 ∷ [])
    ≡ at_least 2 (yes 1 ∷ no 2 ∷ []) ∷ at_least 2 (no 1 ∷ yes 2 ∷ []) ∷ []
between_crossed = refl

-- exactly none of no literal demands nothing
pub exactly_none : exactly 0 [] ≡ at_least 0 [] ∷ at_least 0 [] ∷ []
exactly_none = refl

pub true_two : true_count (assigned (true ∷ false ∷ [])) (yes 1 ∷ no 2 ∷ yes 2 ∷ yes 3 ∷ []) ≡ 2
true_two = refl

-- ---- sums: 3 times the first row and 2 times the second

abbrev first : Row
first = record { terms = term 2 (yes 1) ∷ term 1 (yes 2) ∷ term 1 (yes 4) ∷ []; degree = 2 }

abbrev second : Row
second = record { terms = term 1 (no 1) ∷ term 2 (no 2) ∷ term 1 (yes 3) ∷ []; degree = 2 }

abbrev sum : Totals
sum = plus (plus no_totals 3 first) 2 second

-- 3 * 4 + 2 * 4, and 3 * 2 + 2 * 2; 1 counts 6 where it is true and 2 where it is false, 2 counts 3 and 4
pub totals : (sum.top ≡ 4) × (sum.weight ≡ 20) × (sum.degree ≡ 10)
    × (map sum.count (yes 1 ∷ no 1 ∷ yes 2 ∷ no 2 ∷ yes 5 ∷ []) ≡ 6 ∷ 2 ∷ 3 ∷ 4 ∷ 0 ∷ [])
totals = (refl, refl, refl, refl)

-- 2 and 3 cancel, so 5 of the degree are left
pub cancelled_sum : cancelled sum
    ≡ record { terms = term 4 (yes 1) ∷ term 1 (no 2) ∷ term 2 (yes 3) ∷ term 3 (yes 4) ∷ []; degree = 5 }
cancelled_sum = refl

-- thirds, rounded up
pub divided_sum : divided 3 (cancelled sum)
    ≡ record { terms = term 2 (yes 1) ∷ term 1 (no 2) ∷ term 1 (yes 3) ∷ term 1 (yes 4) ∷ []; degree = 2 }
divided_sum = refl

-- ---- rows: coefficients from 1, and each variable once

-- the terms are those of the variables 1 to 4
apart : (i j : ℕ) (d : Term) → i < j → j < 4 → (get_or row.terms i d).lit.var ≡ (get_or row.terms j d).lit.var → ⊥
apart i zero d before within is = omega (arith, before)
apart zero (suc zero) d before within is = omega (arith, is)
apart zero (suc (suc zero)) d before within is = omega (arith, is)
apart (suc zero) (suc (suc zero)) d before within is = omega (arith, is)
apart zero (suc (suc (suc zero))) d before within is = omega (arith, is)
apart (suc zero) (suc (suc (suc zero))) d before within is = omega (arith, is)
apart (suc (suc zero)) (suc (suc (suc zero))) d before within is = omega (arith, is)
apart (suc i) (suc zero) d before within is = omega (arith, before)
apart (suc (suc i)) (suc (suc zero)) d before within is = omega (arith, before)
apart (suc (suc (suc i))) (suc (suc (suc zero))) d before within is = omega (arith, before)
apart i (suc (suc (suc (suc j)))) d before within is = omega (arith, within)

pub is_row : IsRow row
is_row = record {
  coefs = All-from_recursion (λ (t : Term). 1 ≤ t.coef) row.terms
      (omega arith, (omega arith, (omega arith, (omega arith, tt))));
  variables = apart;
}

-- a row may ask for nothing, or for more than it has
pub is_row-none : (degree : ℕ) → IsRow (record { terms = []; degree = degree })
is_row-none degree = record {
  coefs = λ k d within. absurd (omega (arith, within));
  variables = λ i j d before within. absurd (omega (arith, within));
}

-- a coefficient of 0, and a variable that stands twice, though once negated
pub no_rows : (IsRow (record { terms = term 0 (yes 1) ∷ []; degree = 0 }) → ⊥)
    × (IsRow (at_least 1 (yes 2 ∷ no 2 ∷ [])) → ⊥)
no_rows = (
  λ is. omega (arith, is.coefs 0 (term 1 (yes 1)) (lit< tt)),
  λ is. is.variables 0 1 (term 1 (yes 1)) (lit< tt) (lit< tt) refl,
)

-- ---- forced, with a slack of 1: 2 is true, so that 7 are within reach, and 6 are asked for

abbrev two_true : ℕ → Value
two_true = valued (Free ∷ True ∷ [])

pub forces-some : Forces two_true row (term 4 (yes 1)) × Forces two_true row (term 2 (yes 3))
forces-some = (
  record { no_conflict = omega arith; there = (0, lit< tt, refl); free = refl; needed = omega arith },
  record { no_conflict = omega arith; there = (2, lit< tt, refl); free = refl; needed = omega arith },
)

true_free : True ≡ Free → ⊥
true_free is = cc

-- 4 has a coefficient of 1; not 2 has a value; and where 1 is false too the row is in conflict, and forces nothing
pub forces-none : (Forces two_true row (term 1 (yes 4)) → ⊥) × (Forces two_true row (term 3 (no 2)) → ⊥)
    × ((t : Term) → Forces (valued (False ∷ True ∷ [])) row t → ⊥)
forces-none = (
  λ forces. omega (arith, forces.needed),
  λ forces. false_free forces.free,
  λ t forces. omega (arith, forces.no_conflict),
) where
  false_free : False ≡ Free → ⊥
  false_free is = cc

not_there : (l : Literal) → l.var ≡ 5 → Contains row.terms (term 4 l) → ⊥
not_there l five (zero, within, is) = omega (arith, five, ap (λ (t : Term). t.lit.var) is)
not_there l five (suc zero, within, is) = omega (arith, five, ap (λ (t : Term). t.lit.var) is)
not_there l five (suc (suc zero), within, is) = omega (arith, five, ap (λ (t : Term). t.lit.var) is)
not_there l five (suc (suc (suc zero)), within, is) = omega (arith, five, ap (λ (t : Term). t.lit.var) is)
not_there l five (suc (suc (suc (suc k))), within, is) = omega (arith, within)

-- a row doesn't force what isn't in it
pub forces-other : Forces two_true row (term 4 (yes 5)) → ⊥
forces-other forces = not_there (yes 5) refl forces.there

-- ---- a clause that says more than propagation over a row of three finds: 2 is false, 1 and 3 are free

abbrev three : Row
three = at_least 1 (yes 1 ∷ yes 2 ∷ yes 3 ∷ [])

abbrev two_false : ℕ → Value
two_false = valued (Free ∷ False ∷ [])

slack : (k : ℕ) (d : Term) → k < 3 → value_of two_false (get_or three.terms k d).lit ≡ Free
    → 1 + (get_or three.terms k d).coef ≤ 2
slack zero d within free = lit≤ tt
slack (suc zero) d within free = lit≤ tt
slack (suc (suc zero)) d within free = lit≤ tt
slack (suc (suc (suc k))) d within free = absurd (omega (arith, within))

others : (other : Literal) → Contains (yes 1 ∷ yes 2 ∷ []) other → other ≢ yes 1 → value_of two_false other ≡ False
others other (zero, within, is) differs = absurd (differs (sym is))
others other (suc zero, within, is) differs = rw (← is) refl
others other (suc (suc k), within, is) differs = absurd (omega (arith, within))

pub empowering : IsEmpowering (three ∷ []) (yes 1 ∷ yes 2 ∷ [])
empowering = (
  two_false,
  yes 1,
  All-from_recursion (IsQuietRow two_false) (three ∷ []) (record { no_conflict = lit≤ tt; none_forced = slack }, tt),
  (0, lit< tt, refl),
  refl,
  others,
)

-- where a row is in conflict at once no clause says more
pub empowering-none : (clause : List Literal) → IsEmpowering (at_least 1 [] ∷ []) clause → ⊥
empowering-none clause is = omega (arith, (is.2 0 three (lit< tt)).no_conflict)

-- ---- listed: each variable with a value, in any order, maybe twice, and maybe others

abbrev some_values : List Value
some_values = True ∷ Free ∷ False ∷ []

listed-set : (v : ℕ) → valued some_values v ≢ Free → Contains (3 ∷ 2 ∷ 1 ∷ 3 ∷ []) v
listed-set zero differs = absurd (differs refl)
listed-set (suc zero) differs = (2, lit< tt, refl)
listed-set (suc (suc zero)) differs = absurd (differs refl)
listed-set (suc (suc (suc zero))) differs = (0, lit< tt, refl)
listed-set (suc (suc (suc (suc v)))) differs = absurd (differs refl)

pub listed : IsListed some_values (3 ∷ 2 ∷ 1 ∷ 3 ∷ [])
listed = record {
  set = listed-set;
  within = All-from_recursion (λ (v : ℕ). (1 ≤ v) × (v ≤ 3)) (3 ∷ 2 ∷ 1 ∷ 3 ∷ [])
      ((lit≤ tt, lit≤ tt), ((lit≤ tt, lit≤ tt), ((lit≤ tt, lit≤ tt), ((lit≤ tt, lit≤ tt), tt))));
}

only_three : Contains {X = ℕ} (3 ∷ []) 1 → ⊥
only_three (zero, within, is) = omega (arith, is)
only_three (suc k, within, is) = omega (arith, within)

-- 1 has a value and isn't listed; 4 is no variable, nor is 0
pub not_listed : (IsListed some_values (3 ∷ []) → ⊥) × (IsListed some_values (1 ∷ 3 ∷ 4 ∷ []) → ⊥)
    × (IsListed some_values (0 ∷ 1 ∷ 3 ∷ []) → ⊥)
not_listed = (
  λ is. only_three (is.set 1 true_free),
  λ is. omega (arith, (is.within 2 1 (lit< tt)).1),
  λ is. omega (arith, (is.within 0 1 (lit< tt)).0),
)

-- ---- wide rows: ascending, and with totals up to the greatest

abbrev wide : Row
wide = record { terms = term 1 (no 2) ∷ term 170141183460469231731687303715884105726 (yes 7) ∷ []; degree = widest }

ascends : (i j : ℕ) (d : Term) → i < j → j < 2 → (get_or wide.terms i d).lit.var < (get_or wide.terms j d).lit.var
ascends zero (suc zero) d before within = lit< tt
ascends i zero d before within = absurd (omega (arith, before))
ascends (suc i) (suc zero) d before within = absurd (omega (arith, before))
ascends i (suc (suc j)) d before within = absurd (omega (arith, within))

pub is_wide : IsWide wide
is_wide = record {
  coefs = All-from_recursion (λ (t : Term). 1 ≤ t.coef) wide.terms (lit≤ tt, (lit≤ tt, tt));
  ascending = ascends;
  weight = lit≤ tt;
  degree = lit≤ tt;
}

-- the greatest total is 2^127 - 1, of the degree or of all coefficients; 2 doesn't stand behind 7, nor 7 twice; and a
-- coefficient is at least 1
pub not_wide : (IsWide (record { terms = []; degree = widest + 1 }) → ⊥)
    × (IsWide (record { terms = term 1 (yes 1) ∷ term widest (yes 2) ∷ []; degree = 0 }) → ⊥)
    × (IsWide (at_least 1 (yes 7 ∷ no 2 ∷ [])) → ⊥) × (IsWide (at_least 1 (yes 7 ∷ no 7 ∷ [])) → ⊥)
    × (IsWide (record { terms = term 0 (yes 1) ∷ []; degree = 0 }) → ⊥)
not_wide = (
  λ is. omega (arith, is.degree),
  λ is. omega (arith, is.weight),
  λ is. omega (arith, is.ascending 0 1 (term 1 (yes 1)) (lit< tt) (lit< tt)),
  λ is. omega (arith, is.ascending 0 1 (term 1 (yes 1)) (lit< tt) (lit< tt)),
  λ is. omega (arith, is.coefs 0 (term 1 (yes 1)) (lit< tt)),
)
