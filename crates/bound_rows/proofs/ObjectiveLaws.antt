-- What all units cost that the groups of a league need is its objective.
use Rattle.std.proofs.Common.{◌≡◌, ℕ, ◌*◌, Bool, true, false, not, cond, nat_lt, List, [], ◌∷◌}
use Rattle.std.proofs.Common.{map, refl, arith, ap, sym, ◌∙◌}
use Rattle.std.proofs.Math.Nat.{mul-add}
use Rattle.std.proofs.lemmas.Bool.{and_parts, ltb-false, or_left, or_right}
use Rattle.std.proofs.lemmas.List.Sums.{sum_by-append, sum_by-cons}
use Rattle.std.specs.List.{flat_map, list_all, list_any, sum_by}
use Rattle.league.specs.Accepted.{cost_of, soft_of}
use Rattle.league.specs.Counts.{Counts}
use Rattle.league.specs.Deviation.{deviation_of}
use Rattle.league.specs.Instance.{class_fits}
use Rattle.league.specs.Structure.{pairs_wrong}
use Rattle.league.specs.declared.class.Class.{Class}
use Rattle.league.specs.declared.class.Constraint.{Constraint}
use Rattle.league.proofs.SumLemmas.{sum_by-filter, sum_by-map, sum_by-same, sum_by-same_in}
use Rattle.rows.proofs.ListLemmas.{list_all-part}
use Rattle.encoding.specs.Encoding.{class_rows}
use Rattle.encoding.specs.Variables.{bounds_breaks}
use Rattle.decoding.specs.Mirrors.{Mirrors, MirrorsBreaks}
use Rattle.decoding.specs.Shortfalls.{units_needed}
use Rattle.bound_rows.specs.BoundRows.{group_of, groups_of, paid_of}
use Rattle.bound_rows.specs.Parts.{parts_of}
use Rattle.bound_rows.specs.Softening.{Group}
use Rattle.bound_rows.specs.Units.{cost_needed, need_of}
use Rattle.bound_rows.proofs.PartNeeds.{part_law, parts_sum}

-- a factor of every term
sum_by-times : {X : Type 0} (p : ℕ) (f : X → ℕ) (xs : List X) → sum_by (λ x. p * f x) xs ≡ p * sum_by f xs
sum_by-times p f [] = omega arith
sum_by-times p f (x ∷ xs) =
    omega (
      arith,
      sum_by-cons (λ x. p * f x) x xs,
      ap (λ (s : ℕ). p * s) (sum_by-cons f x xs),
      mul-add p (f x) (sum_by f xs),
      sum_by-times p f xs,
    )

-- a constraint without a penalty costs nothing
free : (b : Bool) (penalty deviation : ℕ) → nat_lt 0 penalty ≡ b
    → cond b (penalty * deviation) 0 ≡ penalty * deviation
free true penalty deviation is = refl
free false penalty deviation is =
    let none : penalty ≡ 0 = omega (arith, ltb-false 0 penalty is) in
    let nothing : 0 * deviation ≡ 0 = omega arith in
    sym (ap (λ (p : ℕ). p * deviation) none ∙ nothing)

pub cost_of-paid : (n : ℕ) (m : Counts) (constraints : List Constraint)
    → cost_of n m (paid_of constraints) ≡ cost_of n m (soft_of constraints)
cost_of-paid n m constraints =
    let cost : Constraint → ℕ = λ c. c.penalty * deviation_of n m c.class in
    sum_by-filter cost (λ c. nat_lt 0 c.penalty) (soft_of constraints)
    ∙ sum_by-same (λ c. cond (nat_lt 0 c.penalty) (cost c) 0) cost
    (λ c. free (nat_lt 0 c.penalty) c.penalty (deviation_of n m c.class) refl) (soft_of constraints)

-- the constraints that are paid for fit where all do
pub paid_fit : (n : ℕ) (constraints : List Constraint) → list_all (λ c. class_fits n c.class) constraints ≡ true
    → list_all (λ c. class_fits n c.class) (paid_of constraints) ≡ true
paid_fit n constraints fit =
    let fits : Constraint → Bool = λ c. class_fits n c.class in
    list_all-part fits (λ c. nat_lt 0 c.penalty) (soft_of constraints)
    (list_all-part fits (λ c. not c.hard) constraints fit)

module _ (n : ℕ) (m : Counts) (values : ℕ → Bool) (mirrors : Mirrors n m values) (once : pairs_wrong n m ≡ 0) where
  class_cost : (penalty : ℕ) (class : Class) → (bounds_breaks class ≡ true → MirrorsBreaks n m values)
      → class_fits n class ≡ true
      → cost_needed values (map (group_of n penalty) (parts_of n class)) ≡ penalty * deviation_of n m class
  class_cost penalty class breaks fits =
      let need : Class → ℕ = λ part. units_needed values (class_rows n part) in
      sum_by-map (λ (g : Group). g.penalty * units_needed values g.rows) (group_of n penalty) (parts_of n class)
      ∙ sum_by-times penalty need (parts_of n class)
      ∙ ap (λ (s : ℕ). penalty * s)
      (sum_by-same_in need (need_of n m) (parts_of n class) (part_law n m values mirrors once class breaks fits)
      ∙ parts_sum n m values mirrors once class fits)

  paid_cost : (constraints : List Constraint)
      → (list_any (λ c. bounds_breaks c.class) constraints ≡ true → MirrorsBreaks n m values)
      → list_all (λ c. class_fits n c.class) constraints ≡ true
      → cost_needed values (flat_map (λ c. map (group_of n c.penalty) (parts_of n c.class)) constraints)
      ≡ cost_of n m constraints
  paid_cost [] breaks fit = refl
  paid_cost (c ∷ constraints) breaks fit =
      let both = and_parts (class_fits n c.class) (list_all (λ c. class_fits n c.class) constraints) fit in
      let groups : Constraint → List Group = λ c. map (group_of n c.penalty) (parts_of n c.class) in
      let later : Bool = list_any (λ c. bounds_breaks c.class) constraints in
      omega (
        arith,
        sum_by-append (λ (g : Group). g.penalty * units_needed values g.rows) (groups c) (flat_map groups constraints),
        sum_by-cons (λ (c : Constraint). c.penalty * deviation_of n m c.class) c constraints,
        class_cost c.penalty c.class (λ here. breaks (or_left (bounds_breaks c.class) later here)) both.0,
        paid_cost constraints (λ some. breaks (or_right (bounds_breaks c.class) later some)) both.1,
      )

  pub objective_needs : (constraints : List Constraint)
      → (list_any (λ c. bounds_breaks c.class) (paid_of constraints) ≡ true → MirrorsBreaks n m values)
      → list_all (λ c. class_fits n c.class) constraints ≡ true
      → cost_needed values (groups_of n constraints) ≡ cost_of n m (soft_of constraints)
  objective_needs constraints breaks fit =
      paid_cost (paid_of constraints) breaks (paid_fit n constraints fit) ∙ cost_of-paid n m constraints
