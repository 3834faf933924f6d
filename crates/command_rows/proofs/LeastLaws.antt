-- The least sum over the rows is the least objective of an accepted schedule.
use Rattle.std.proofs.Common.{◌≡◌, ℕ, ◌+◌, ◌-◌, ◌*◌, ◌≤◌, zero, suc, Bool, true, false, cond, List, [], ◌∷◌, ◌++◌, map}
use Rattle.std.proofs.Common.{refl, arith, ap}
use Rattle.std.proofs.Math.Nat.{mul-add}
use Rattle.std.proofs.lemmas.List.Elements.{All-append, All-cons, All-head, All-nil}
use Rattle.std.proofs.lemmas.List.Sums.{sum_by-append, sum_by-cons}
use Rattle.league.specs.Accepted.{objective}
use Rattle.league.specs.Instance.{Instance}
use Rattle.rows.specs.Literals.{Literal, yes}
use Rattle.rows.specs.Rows.{Row, Satisfies, SatisfiesAll, is_true, weight}
use Rattle.rows.specs.Tests.{true_count}
use Rattle.rows.specs.declared.lit.Term.{Term}
use Rattle.bound_rows.specs.BoundRows.{base_rows, bound_rows, first_unit, league_groups}
use Rattle.bound_rows.specs.Softening.{Group, costs, costs_from, objective_row, order_rows, softened_rows, total_cost}
use Rattle.bound_rows.specs.Softening.{units_from}
use Rattle.bound_rows.specs.Units.{paid}
use Rattle.bound_rows.proofs.Faithful.{bounded-from_rows, values-from_bounded}
use Rattle.bound_rows.proofs.SoftLaws.{costs-paid}
use Rattle.bound_rows.proofs.DraftLemmas.{All-back, All-front}
use Rattle.command_rows.specs.Least.{ObjectivesAreSums, SumsAreEnough}
use Rattle.command_rows.specs.Rowed.{greatest_bound, prices, turned}

-- ---- the sum

map-append : {X Y : Type 0} (f : X → Y) (xs ys : List X) → map f (xs ++ ys) ≡ map f xs ++ map f ys
map-append {X} {Y} f [] ys = refl
map-append {X} {Y} f (x ∷ xs) ys = ap (λ (zs : List Y). f x ∷ zs) (map-append f xs ys)

one_unit : (b : Bool) (penalty : ℕ) → cond b penalty 0 ≡ penalty * cond b 1 0
one_unit true penalty = omega arith
one_unit false penalty = omega arith

prices_from-paid : (values : ℕ → Bool) (penalty first count : ℕ)
    → weight values (map turned (costs_from penalty first count))
    ≡ penalty * true_count values (units_from first count)
prices_from-paid values penalty first zero = omega arith
prices_from-paid values penalty first (suc count) =
    let cost : Term → ℕ = λ t. cond (is_true values t.lit) t.coef 0 in
    let one : Literal → ℕ = λ l. cond (is_true values l) 1 0 in
    let later : ℕ = true_count values (units_from (first + 1) count) in
    omega (
      arith,
      sum_by-cons cost (record { coef = penalty; lit = yes first }) (map turned (costs_from penalty (first + 1) count)),
      sum_by-cons one (yes first) (units_from (first + 1) count),
      ap (λ (x : ℕ). penalty * x) (sum_by-cons one (yes first) (units_from (first + 1) count)),
      mul-add penalty (cond (values first) 1 0) later,
      one_unit (values first) penalty,
      prices_from-paid values penalty (first + 1) count,
    )

-- the sum is what the true units cost
prices-paid : (values : ℕ → Bool) (first : ℕ) (groups : List Group)
    → weight values (map turned (costs first groups)) ≡ paid values first groups
prices-paid values first [] = refl
prices-paid values first (g ∷ groups) =
    let cost : Term → ℕ = λ t. cond (is_true values t.lit) t.coef 0 in
    let here : List Term = costs_from g.penalty first g.units in
    let later : List Term = costs (first + g.units) groups in
    omega (
      arith,
      ap (λ (ts : List Term). weight values ts) (map-append turned here later),
      sum_by-append cost (map turned here) (map turned later),
      prices_from-paid values g.penalty first g.units,
      prices-paid values (first + g.units) groups,
    )

-- ---- rows of another bound

-- the rows before the objective row
abbrev before : Instance → List Row
before league = base_rows league ++ softened_rows (first_unit league) (league_groups league)

-- the objective row, alone
abbrev bounding : Instance → ℕ → List Row
bounding league bound = objective_row (first_unit league) (league_groups league) bound ∷ []

-- those behind it
abbrev orders : Instance → List Row
orders league = order_rows (first_unit league) (league_groups league)

to_objective : (league : Instance) (values : ℕ → Bool) (bound : ℕ) → SatisfiesAll values (bound_rows league bound)
    → SatisfiesAll values (before league ++ bounding league bound)
to_objective league values bound all =
    All-front (Satisfies values) (before league ++ bounding league bound) (orders league) all

-- what is paid and what isn't are all
sums : (league : Instance) (values : ℕ → Bool)
    → weight values (costs (first_unit league) (league_groups league)) + weight values (prices league)
    ≡ total_cost (league_groups league)
sums league values =
    omega (
      arith,
      costs-paid values (first_unit league) (league_groups league),
      prices-paid values (first_unit league) (league_groups league),
    )

at_most : (total bound left sum : ℕ) → left + sum ≡ total → total - bound ≤ left → sum ≤ bound
at_most total bound left sum all enough = omega (arith, all, enough)

at_least : (total bound left sum : ℕ) → left + sum ≡ total → sum ≤ bound → total - bound ≤ left
at_least total bound left sum all few = omega (arith, all, few)

sum_within : (league : Instance) (values : ℕ → Bool) (bound : ℕ) → SatisfiesAll values (bound_rows league bound)
    → weight values (prices league) ≤ bound
sum_within league values bound all =
    at_most (total_cost (league_groups league)) bound (weight values (costs (first_unit league) (league_groups league)))
    (weight values (prices league)) (sums league values)
    (All-head (Satisfies values) (objective_row (first_unit league) (league_groups league) bound) []
    (All-back (Satisfies values) (before league) (bounding league bound) (to_objective league values bound all)))

with_bound : (league : Instance) (values : ℕ → Bool) (bound other : ℕ) → SatisfiesAll values (bound_rows league bound)
    → weight values (prices league) ≤ other → SatisfiesAll values (bound_rows league other)
with_bound league values bound other all few =
    let met : Row → Type 0 = Satisfies values in
    All-append met (before league ++ bounding league other) (orders league)
    (All-append met (before league) (bounding league other)
    (All-front met (before league) (bounding league bound) (to_objective league values bound all))
    (All-cons met (objective_row (first_unit league) (league_groups league) other) []
    (at_least (total_cost (league_groups league)) other
    (weight values (costs (first_unit league) (league_groups league))) (weight values (prices league))
    (sums league values) few)
    (All-nil met)))
    (All-back met (before league ++ bounding league bound) (orders league) all)

-- ---- both ways

pub seasons-from_sums : SumsAreEnough
seasons-from_sums league values is all =
    let sum : ℕ = weight values (prices league) in
    bounded-from_rows league sum values is (with_bound league values greatest_bound sum all (omega arith))

pub sums-from_seasons : ObjectivesAreSums
sums-from_seasons league m is accepted few =
    let found = values-from_bounded league (objective league m) m is accepted (omega arith) in
    let within = sum_within league found.0 (objective league m) found.1 in
    (found.0, with_bound league found.0 (objective league m) greatest_bound found.1 (omega (arith, within, few)), within)
