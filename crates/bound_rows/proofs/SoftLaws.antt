-- Softened rows are satisfied exactly where as many units are true as the rows lack, and the objective row exactly
-- where the true units cost at most the bound.
use Rattle.std.proofs.Common.{◌≡◌, ℕ, zero, suc, ◌+◌, ◌-◌, ◌*◌, ◌≤◌, Bool, true, false, not, ◌&&◌, cond, max, nat_lt}
use Rattle.std.proofs.Common.{List, [], ◌∷◌, ◌++◌, map, refl, arith, ap, sym, ◌∙◌}
use Rattle.std.proofs.Math.Nat.{mul-add, mul-le-mul_left, mul-suc}
use Rattle.std.specs.Prelude.{nat_le}
use Rattle.std.proofs.lemmas.Bool.{and_parts, le-leb, leb-true}
use Rattle.std.proofs.lemmas.Bool.Decides.{nat_tests}
use Rattle.std.proofs.lemmas.List.{append-nil}
use Rattle.std.proofs.lemmas.List.Folds.{list_all-append}
use Rattle.std.proofs.lemmas.List.Sums.{sum_by-append, sum_by-cons}
use Rattle.std.specs.List.{filter}
use Rattle.rows.specs.Cardinality.{unit}
use Rattle.rows.specs.Literals.{Literal, no, yes}
use Rattle.rows.specs.Rows.{Row, is_true, weight}
use Rattle.rows.specs.Tests.{all_satisfied, satisfied, true_count}
use Rattle.rows.specs.declared.lit.Term.{Term}
use Rattle.rows.proofs.TestLemmas.{weight-units}
use Rattle.encoding.specs.Encoding.{demands}
use Rattle.decoding.specs.Shortfalls.{shortfall, units_needed}
use Rattle.decoding.proofs.ShortfallLemmas.{largest-cons}
use Rattle.bound_rows.specs.Softening.{Group, costs, costs_from, objective_row, soften, softened_rows, total_cost}
use Rattle.bound_rows.specs.Softening.{units_from}
use Rattle.bound_rows.specs.Units.{cost_needed, paid}

-- ---- rows that demand nothing lack nothing

nothing_lacks : (degree reached : ℕ) → nat_lt 0 degree ≡ false → degree - reached ≡ 0
nothing_lacks degree reached none = grind (arith, nat_tests)

pub needs_listed : (values : ℕ → Bool) (rows : List Row)
    → units_needed values (filter demands rows) ≡ units_needed values rows
needs_listed values [] = refl
needs_listed values (row ∷ rows) = by (needs_listed values rows) (demands row) refl where
  by : units_needed values (filter demands rows) ≡ units_needed values rows → (b : Bool) → demands row ≡ b
      → units_needed values (cond b (row ∷ filter demands rows) (filter demands rows))
      ≡ units_needed values (row ∷ rows)
  by rest true some =
      omega (
        arith,
        largest-cons (shortfall values) row (filter demands rows),
        largest-cons (shortfall values) row rows,
        rest,
      )
  by rest false none =
      omega (
        arith,
        largest-cons (shortfall values) row rows,
        nothing_lacks row.degree (weight values row.terms) none,
        rest,
      )

-- the rows of a class with one key
pub needs_of_key : (values : ℕ → Bool) (rows : List Row)
    → units_needed values (filter demands (rows ++ [])) ≡ units_needed values rows
needs_of_key values rows = needs_listed values (rows ++ []) ∙ ap (units_needed values) (append-nil rows)

-- ---- softened rows

weight-softened : (values : ℕ → Bool) (units : List Literal) (row : Row)
    → weight values (soften units row).terms ≡ weight values row.terms + true_count values units
weight-softened values units row =
    omega (
      arith,
      sum_by-append (λ (t : Term). cond (is_true values t.lit) t.coef 0) row.terms (map unit units),
      weight-units values units,
    )

both_enough : (degree reached count need worst sum : ℕ) → sum ≡ reached + count → worst ≡ max (degree - reached) need
    → (nat_le degree sum && nat_le need count) ≡ nat_le worst count
both_enough degree reached count need worst sum is_sum is_worst = grind (arith, nat_tests)

pub group_law : (values : ℕ → Bool) (units : List Literal) (rows : List Row)
    → all_satisfied values (map (soften units) rows) ≡ nat_le (units_needed values rows) (true_count values units)
group_law values units [] = sym (le-leb 0 (true_count values units) (omega arith))
group_law values units (row ∷ rows) =
    ap (λ (b : Bool). satisfied values (soften units row) && b) (group_law values units rows)
    ∙ both_enough row.degree (weight values row.terms) (true_count values units) (units_needed values rows)
    (units_needed values (row ∷ rows)) (weight values (soften units row).terms) (weight-softened values units row)
    (largest-cons (shortfall values) row rows)

-- whether in each group as many units are true as its rows need
abbrev pub are_enough : (ℕ → Bool) → ℕ → List Group → Bool
are_enough values first [] = true
are_enough values first (g ∷ groups) =
    nat_le (units_needed values g.rows) (true_count values (units_from first g.units))
    && are_enough values (first + g.units) groups

pub softened_law : (values : ℕ → Bool) (first : ℕ) (groups : List Group)
    → all_satisfied values (softened_rows first groups) ≡ are_enough values first groups
softened_law values first [] = refl
softened_law values first (g ∷ groups) =
    list_all-append (satisfied values) (map (soften (units_from first g.units)) g.rows)
    (softened_rows (first + g.units) groups)
    ∙ ap (λ (b : Bool). b && all_satisfied values (softened_rows (first + g.units) groups))
    (group_law values (units_from first g.units) g.rows)
    ∙ ap (λ (b : Bool). nat_le (units_needed values g.rows) (true_count values (units_from first g.units)) && b)
    (softened_law values (first + g.units) groups)

-- where they are enough, they cost at least what is needed
pub needed-le-paid : (values : ℕ → Bool) (first : ℕ) (groups : List Group) → are_enough values first groups ≡ true
    → cost_needed values groups ≤ paid values first groups
needed-le-paid values first [] enough = omega arith
needed-le-paid values first (g ∷ groups) enough =
    let count : ℕ = true_count values (units_from first g.units) in
    let both = and_parts (nat_le (units_needed values g.rows) count) (are_enough values (first + g.units) groups)
    enough in
    omega (
      arith,
      sum_by-cons (λ (g : Group). g.penalty * units_needed values g.rows) g groups,
      mul-le-mul_left g.penalty (leb-true (units_needed values g.rows) count both.0),
      needed-le-paid values (first + g.units) groups both.1,
    )

-- ---- the objective row

-- a unit costs its penalty where it is true, and adds it to the row where it isn't
one_unit : (b : Bool) (penalty : ℕ) → cond (not b) penalty 0 + penalty * cond b 1 0 ≡ penalty
one_unit true penalty = omega arith
one_unit false penalty = omega arith

costs_from-paid : (values : ℕ → Bool) (penalty first count : ℕ)
    → weight values (costs_from penalty first count) + penalty * true_count values (units_from first count)
    ≡ penalty * count
costs_from-paid values penalty first zero = omega arith
costs_from-paid values penalty first (suc count) =
    let cost : Term → ℕ = λ t. cond (is_true values t.lit) t.coef 0 in
    let one : Literal → ℕ = λ l. cond (is_true values l) 1 0 in
    let later : ℕ = true_count values (units_from (first + 1) count) in
    omega (
      arith,
      sum_by-cons cost (record { coef = penalty; lit = no first }) (costs_from penalty (first + 1) count),
      sum_by-cons one (yes first) (units_from (first + 1) count),
      ap (λ (x : ℕ). penalty * x) (sum_by-cons one (yes first) (units_from (first + 1) count)),
      mul-add penalty (cond (values first) 1 0) later,
      mul-suc penalty count,
      one_unit (values first) penalty,
      costs_from-paid values penalty (first + 1) count,
    )

-- what is paid and what isn't are all
pub costs-paid : (values : ℕ → Bool) (first : ℕ) (groups : List Group)
    → weight values (costs first groups) + paid values first groups ≡ total_cost groups
costs-paid values first [] = refl
costs-paid values first (g ∷ groups) =
    let cost : Term → ℕ = λ t. cond (is_true values t.lit) t.coef 0 in
    omega (
      arith,
      sum_by-append cost (costs_from g.penalty first g.units) (costs (first + g.units) groups),
      sum_by-cons (λ (g : Group). g.penalty * g.units) g groups,
      costs_from-paid values g.penalty first g.units,
      costs-paid values (first + g.units) groups,
    )

at_most_paid : (total bound left paid : ℕ) → left + paid ≡ total → nat_le (total - bound) left ≡ nat_le paid bound
at_most_paid total bound left paid all = grind (arith, nat_tests)

pub objective_law : (values : ℕ → Bool) (first : ℕ) (groups : List Group) (bound : ℕ)
    → satisfied values (objective_row first groups bound) ≡ nat_le (paid values first groups) bound
objective_law values first groups bound =
    at_most_paid (total_cost groups) bound (weight values (costs first groups)) (paid values first groups)
    (costs-paid values first groups)
