-- An accepted schedule costs at most what all units cost, and each unit is a term of the objective row.
use Rattle.std.proofs.Common.{◌≡◌, ℕ, ◌+◌, ◌*◌, ◌≤◌, Bool, not, nat_lt, List, [], ◌∷◌, ◌++◌, length, map, get_or}
use Rattle.std.proofs.Common.{length-append, refl, ap, ◌∙◌, arith}
use Rattle.std.proofs.Math.Nat.{mul-add, mul-le-mul_left, mul-le-mul_right}
use Rattle.std.proofs.lemmas.List.{length-map}
use Rattle.std.proofs.lemmas.List.Elements.{All-cons, All-filter, All-head, All-map, All-tail}
use Rattle.std.proofs.lemmas.List.FromFn.{length-range_with_len}
use Rattle.std.proofs.lemmas.List.Sums.{sum_by-append, sum_by-cons}
use Rattle.std.specs.List.{All, range_with_len, sum_by}
use Rattle.league.specs.Accepted.{IsAccepted, objective, soft_of}
use Rattle.league.specs.Bounds.{largest}
use Rattle.league.specs.Counts.{Counts}
use Rattle.league.specs.Instance.{Instance, IsInstance}
use Rattle.league.specs.declared.class.Constraint.{Constraint}
use Rattle.league.proofs.OneTermLemmas.{All-flat_map}
use Rattle.rows.specs.Literals.{no}
use Rattle.rows.specs.Rows.{Row}
use Rattle.decoding.specs.Shortfalls.{units_needed}
use Rattle.decoding.proofs.ConstraintLaws.{all_fit}
use Rattle.decoding.proofs.ShortfallLemmas.{largest-cons}
use Rattle.decoding.proofs.SeasonRows.{mirrored-from_shadow}
use Rattle.decoding.proofs.SomeShadow.{shadow_values, some_shadow}
use Rattle.bound_rows.specs.BoundRows.{base_rows, bound_size, first_unit, group_of, groups_of, league_groups}
use Rattle.bound_rows.specs.BoundRows.{needs_breaks, paid_of}
use Rattle.bound_rows.specs.Parts.{parts_of}
use Rattle.bound_rows.specs.Softening.{Group, costs, costs_from, objective_row, order_rows, softened_rows, total_cost}
use Rattle.bound_rows.specs.Cost.{CostsAreBounded}
use Rattle.bound_rows.specs.Units.{cost_needed}
use Rattle.bound_rows.proofs.Faithful.{all_served, paid_breaks}
use Rattle.bound_rows.proofs.ObjectiveLaws.{objective_needs}
use Rattle.bound_rows.proofs.UnitLemmas.{IsServed}

-- ---- no more units are needed than there are

needed-le-all : (values : ℕ → Bool) (groups : List Group) → All (IsServed values values) groups
    → cost_needed values groups ≤ total_cost groups
needed-le-all values [] served = omega arith
needed-le-all values (g ∷ groups) served =
    omega (
      arith,
      sum_by-cons (λ (g : Group). g.penalty * units_needed values g.rows) g groups,
      sum_by-cons (λ (g : Group). g.penalty * g.units) g groups,
      mul-le-mul_left g.penalty (All-head (IsServed values values) g groups served).fits,
      needed-le-all values groups (All-tail (IsServed values values) g groups served),
    )

objective-le-all : (league : Instance) (m : Counts) → IsInstance league → IsAccepted league m
    → objective league m ≤ total_cost (league_groups league)
objective-le-all league m is accepted =
    let n = league.n in
    let breaks = needs_breaks league.constraints in
    let groups : List Group = league_groups league in
    let values : ℕ → Bool = shadow_values n m in
    let season = mirrored-from_shadow n league.phased breaks m values (some_shadow n m breaks) accepted.round_robin in
    let needed : cost_needed values groups ≡ objective league m =
    objective_needs n m values season.mirrors season.round_robin.pairs league.constraints
    (paid_breaks league m values season.break_values) (all_fit league is.fit) in
    let served = all_served league m values values is season season in
    omega (arith, needed, needed-le-all values groups served)

-- ---- what all units cost

total-le : (most : ℕ) (groups : List Group) → All (λ g. g.penalty ≤ most) groups
    → total_cost groups ≤ most * sum_by (λ g. g.units) groups
total-le most [] small = omega arith
total-le most (g ∷ groups) small =
    let later : ℕ = sum_by (λ (g : Group). g.units) groups in
    omega (
      arith,
      sum_by-cons (λ (g : Group). g.penalty * g.units) g groups,
      ap (λ (s : ℕ). most * s) (sum_by-cons (λ (g : Group). g.units) g groups),
      mul-add most g.units later,
      mul-le-mul_right g.units (All-head (λ (g : Group). g.penalty ≤ most) g groups small),
      total-le most groups (All-tail (λ (g : Group). g.penalty ≤ most) g groups small),
    )

groups_small : (n most : ℕ) (constraints : List Constraint) → All (λ c. c.penalty ≤ most) constraints
    → All (λ g. g.penalty ≤ most) (groups_of n constraints)
groups_small n most constraints small =
    let Small : Constraint → Type 0 = λ c. c.penalty ≤ most in
    let soft = All-filter (λ (c : Constraint). not c.hard) Small constraints small in
    let paid = All-filter (λ (c : Constraint). nat_lt 0 c.penalty) Small (soft_of constraints) soft in
    All-flat_map (λ (g : Group). g.penalty ≤ most) (λ c. map (group_of n c.penalty) (parts_of n c.class))
    (paid_of constraints)
    (λ k d within.
    let c : Constraint = get_or (paid_of constraints) k d in
    All-map (λ (g : Group). g.penalty ≤ most) (group_of n c.penalty) (parts_of n c.class)
    (λ l e inside. paid k d within))

-- ---- units are terms

length-costs_from : (penalty first count : ℕ) → length (costs_from penalty first count) ≡ count
length-costs_from penalty first count =
    length-map (range_with_len first count) (λ v. record { coef = penalty; lit = no v })
    ∙ length-range_with_len first count

length-costs : (first : ℕ) (groups : List Group) → length (costs first groups) ≡ sum_by (λ g. g.units) groups
length-costs first [] = refl
length-costs first (g ∷ groups) =
    omega (
      arith,
      length-append (costs_from g.penalty first g.units) (costs (first + g.units) groups),
      length-costs_from g.penalty first g.units,
      sum_by-cons (λ (g : Group). g.units) g groups,
      length-costs (first + g.units) groups,
    )

units-le-size : (league : Instance) → sum_by (λ g. g.units) (league_groups league) ≤ bound_size league
units-le-size league =
    let terms : Row → ℕ = λ r. length r.terms in
    let first : ℕ = first_unit league in
    let groups : List Group = league_groups league in
    let soft : List Row = softened_rows first groups in
    let row : Row = objective_row first groups 0 in
    omega (
      arith,
      sum_by-append terms (base_rows league ++ soft ++ row ∷ []) (order_rows first groups),
      sum_by-append terms (base_rows league ++ soft) (row ∷ []),
      length-costs first groups,
    )

-- ---- the law

-- none is above the largest
largest-ge : {X : Type 0} (f : X → ℕ) (xs : List X) → All (λ x. f x ≤ largest f xs) xs
largest-ge f [] = λ k d within. absurd (omega arith)
largest-ge {X} f (x ∷ xs) =
    All-cons (λ (y : X). f y ≤ largest f (x ∷ xs)) x xs (omega (arith, largest-cons f x xs))
    (λ k d within. omega (arith, largest-cons f x xs, largest-ge f xs k d within))

pub costs-bounded : CostsAreBounded
costs-bounded league m is accepted =
    let penalty : Constraint → ℕ = λ c. c.penalty in
    let most : ℕ = largest penalty league.constraints in
    let small = groups_small league.n most league.constraints (largest-ge penalty league.constraints) in
    omega (
      arith,
      objective-le-all league m is accepted,
      total-le most (league_groups league) small,
      mul-le-mul_left most (units-le-size league),
    )
