-- Values of units: of each group the first ones are true, so many as its rows need. These are enough, cost no more than
-- what is needed, and are in order.
use Rattle.std.proofs.Common.{◌≡◌, ℕ, zero, suc, ◌+◌, ◌-◌, ◌*◌, ◌<◌, ◌≤◌, Bool, true, false, not, min as smaller}
use Rattle.std.proofs.Common.{nat_lt, List, [], ◌∷◌, map, refl, arith, ap, sym, ◌∙◌}
use Rattle.std.specs.Prelude.{nat_le}
use Rattle.std.proofs.lemmas.Bool.{and_from, cond_above, cond_below, le-leb}
use Rattle.std.proofs.lemmas.Bool.Decides.{nat_tests}
use Rattle.std.proofs.lemmas.List.Folds.{list_all-append, list_all-map}
use Rattle.std.proofs.lemmas.List.Sums.{sum_by-cons}
use Rattle.std.specs.List.{All, range_with_len, sum_by}
use Rattle.league.proofs.RangeLemmas.{one_if}
use Rattle.league.proofs.SumLemmas.{sum_by-map}
use Rattle.rows.specs.Literals.{Literal, no, yes}
use Rattle.rows.specs.Rows.{is_true}
use Rattle.rows.specs.Tests.{all_satisfied, satisfied, true_count}
use Rattle.rows.proofs.ListLemmas.{list_all-range}
use Rattle.rows.proofs.TestLemmas.{satisfied-at_least}
use Rattle.decoding.specs.Shortfalls.{units_needed}
use Rattle.bound_rows.specs.Softening.{Group, one_before, order_rows, units_from}
use Rattle.bound_rows.specs.Units.{cost_needed, paid, with_units}
use Rattle.bound_rows.proofs.SoftLaws.{are_enough}

-- ---- where the values come from

pub with_units-below : (values : ℕ → Bool) (first : ℕ) (groups : List Group) (v : ℕ) → v < first
    → with_units values first groups v ≡ values v
with_units-below values first [] v below = refl
with_units-below values first (g ∷ groups) v below = sym (cond_below v first _ _ below)

-- values that are these from the first unit on
abbrev pub Agrees : (ℕ → Bool) → (ℕ → Bool) → ℕ → List Group → Type 0
Agrees found values first groups = (v : ℕ) → first ≤ v → found v ≡ with_units values first groups v

in_group : (found values : ℕ → Bool) (first : ℕ) (g : Group) (groups : List Group)
    → Agrees found values first (g ∷ groups) → (v : ℕ) → first ≤ v → v < first + g.units
    → found v ≡ nat_lt v (first + units_needed values g.rows)
in_group found values first g groups agrees v from within =
    let later : Bool = with_units values (first + g.units) groups v in
    agrees v from
    ∙ sym (cond_above v first (values v) _ _ from
    (cond_below v (first + g.units) (nat_lt v (first + units_needed values g.rows)) later within))

past_group : (found values : ℕ → Bool) (first : ℕ) (g : Group) (groups : List Group)
    → Agrees found values first (g ∷ groups) → Agrees found values (first + g.units) groups
past_group found values first g groups agrees v from =
    let here : Bool = nat_lt v (first + units_needed values g.rows) in
    let later : Bool = with_units values (first + g.units) groups v in
    agrees v (omega arith)
    ∙ sym (cond_above v first (values v) _ _ (omega arith)
    (cond_above v (first + g.units) here later later from refl))

-- ---- how many are true

one_more : (a k end : ℕ) → one_if (nat_lt a end) + smaller (end - (a + 1)) k ≡ smaller (end - a) (suc k)
one_more a k end = grind (arith, nat_tests)

first_ones : (end a k : ℕ) → sum_by (λ v. one_if (nat_lt v end)) (range_with_len a k) ≡ smaller (end - a) k
first_ones end a zero = omega arith
first_ones end a (suc k) =
    omega (
      arith,
      sum_by-cons (λ v. one_if (nat_lt v end)) a (range_with_len (a + 1) k),
      one_more a k end,
      first_ones end (a + 1) k,
    )

sum_by-range : (f g : ℕ → ℕ) (a k : ℕ) → ((v : ℕ) → a ≤ v → v < a + k → f v ≡ g v)
    → sum_by f (range_with_len a k) ≡ sum_by g (range_with_len a k)
sum_by-range f g a zero same = refl
sum_by-range f g a (suc k) same =
    omega (
      arith,
      sum_by-cons f a (range_with_len (a + 1) k),
      sum_by-cons g a (range_with_len (a + 1) k),
      same a (omega arith) (omega arith),
      sum_by-range f g (a + 1) k (λ v from within. same v (omega arith) (omega arith)),
    )

units_true : (found values : ℕ → Bool) (first : ℕ) (g : Group) (groups : List Group)
    → Agrees found values first (g ∷ groups) → units_needed values g.rows ≤ g.units
    → true_count found (units_from first g.units) ≡ units_needed values g.rows
units_true found values first g groups agrees enough =
    let need : ℕ = units_needed values g.rows in
    let one : Literal → ℕ = λ l. one_if (is_true found l) in
    omega (
      arith,
      sum_by-map one yes (range_with_len first g.units),
      sum_by-range (λ v. one_if (found v)) (λ v. one_if (nat_lt v (first + need))) first g.units
          (λ v from within. ap one_if (in_group found values first g groups agrees v from within)),
      first_ones (first + need) first g.units,
    )

-- ---- their order

ordered_by : (a b : Bool) (v end : ℕ) → a ≡ nat_lt v end → b ≡ nat_lt (v + 1) end
    → nat_le 1 (0 + one_if a + one_if (not b)) ≡ true
ordered_by true true v end is next = refl
ordered_by true false v end is next = refl
ordered_by false false v end is next = refl
ordered_by false true v end is next = absurd (before v end is next) where
  before : (v end : ℕ) → false ≡ nat_lt v end → true ≡ nat_lt (v + 1) end → ⊥
  before v end is next = grind (arith, nat_tests)

group_ordered : (found values : ℕ → Bool) (first : ℕ) (g : Group) (groups : List Group)
    → Agrees found values first (g ∷ groups)
    → all_satisfied found (map one_before (range_with_len first (g.units - 1))) ≡ true
group_ordered found values first g groups agrees =
    let end : ℕ = first + units_needed values g.rows in
    list_all-map (satisfied found) one_before (range_with_len first (g.units - 1))
    ∙ list_all-range (λ v. satisfied found (one_before v)) first (g.units - 1)
    (λ v from within.
    satisfied-at_least found 1 (yes v ∷ no (v + 1) ∷ [])
    ∙ ordered_by (found v) (found (v + 1)) v end
    (in_group found values first g groups agrees v from (omega arith))
    (in_group found values first g groups agrees (v + 1) (omega arith) (omega arith)))

-- ---- all groups

-- the rows of a group need as much under other values, and no more than there are units
pub record IsServed (found values : ℕ → Bool) (g : Group) : Type 0 where
  pub same : units_needed found g.rows ≡ units_needed values g.rows
  pub fits : units_needed values g.rows ≤ g.units

first_of : (found values : ℕ → Bool) (g : Group) (groups : List Group) → All (IsServed found values) (g ∷ groups)
    → IsServed found values g
first_of found values g groups served = served 0 g (omega arith)

rest_of : (found values : ℕ → Bool) (g : Group) (groups : List Group) → All (IsServed found values) (g ∷ groups)
    → All (IsServed found values) groups
rest_of found values g groups served = λ k d within. served (suc k) d (omega arith)

pub units_enough : (found values : ℕ → Bool) (first : ℕ) (groups : List Group) → Agrees found values first groups
    → All (IsServed found values) groups → are_enough found first groups ≡ true
units_enough found values first [] agrees served = refl
units_enough found values first (g ∷ groups) agrees served =
    let here = first_of found values g groups served in
    and_from _ _
    (le-leb (units_needed found g.rows) (true_count found (units_from first g.units))
    (omega (arith, here.same, units_true found values first g groups agrees here.fits)))
    (units_enough found values (first + g.units) groups (past_group found values first g groups agrees)
    (rest_of found values g groups served))

pub units_paid : (found values : ℕ → Bool) (first : ℕ) (groups : List Group) → Agrees found values first groups
    → All (IsServed found values) groups → paid found first groups ≡ cost_needed values groups
units_paid found values first [] agrees served = refl
units_paid found values first (g ∷ groups) agrees served =
    let here = first_of found values g groups served in
    omega (
      arith,
      ap (λ (k : ℕ). g.penalty * k) (units_true found values first g groups agrees here.fits),
      sum_by-cons (λ (g : Group). g.penalty * units_needed values g.rows) g groups,
      units_paid found values (first + g.units) groups (past_group found values first g groups agrees)
          (rest_of found values g groups served),
    )

pub units_ordered : (found values : ℕ → Bool) (first : ℕ) (groups : List Group) → Agrees found values first groups
    → all_satisfied found (order_rows first groups) ≡ true
units_ordered found values first [] agrees = refl
units_ordered found values first (g ∷ groups) agrees =
    list_all-append (satisfied found) (map one_before (range_with_len first (g.units - 1)))
    (order_rows (first + g.units) groups)
    ∙ and_from _ _ (group_ordered found values first g groups agrees)
    (units_ordered found values (first + g.units) groups (past_group found values first g groups agrees))
