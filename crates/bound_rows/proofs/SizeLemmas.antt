-- How many terms bound rows have, group by group.
use Rattle.std.proofs.Common.{◌≡◌, ℕ, zero, suc, ◌+◌, ◌-◌, ◌*◌, ◌≤◌, false, max, List, [], ◌∷◌, ◌++◌, length, map}
use Rattle.std.proofs.Common.{get_or, length-append, refl, ap, ◌∙◌, arith}
use Rattle.std.proofs.lemmas.Bool.{ltb-true}
use Rattle.std.proofs.lemmas.List.{length-map}
use Rattle.std.proofs.lemmas.List.Elements.{All-cons, All-head, All-nil, All-tail, filter_passes}
use Rattle.std.proofs.lemmas.List.FromFn.{length-range_with_len}
use Rattle.std.proofs.lemmas.List.Sums.{sum_by-append, sum_by-cons}
use Rattle.std.specs.List.{All, flat_map, fold, range_with_len, sum_by}
use Rattle.league.specs.Instance.{Instance}
use Rattle.league.specs.declared.class.Class.{Class}
use Rattle.league.specs.declared.class.Class.TheVariants.{Se1}
use Rattle.league.specs.declared.class.Constraint.{Constraint}
use Rattle.league.proofs.SumLemmas.{sum_by-flat_map, sum_by-map, sum_by-same}
use Rattle.league.proofs.OneTermLemmas.{All-flat_map}
use Rattle.rows.specs.Cardinality.{unit}
use Rattle.rows.specs.Literals.{yes}
use Rattle.rows.specs.Rows.{Row, size_of}
use Rattle.encoding.specs.Demands.{rows_by_key}
use Rattle.encoding.specs.Encoding.{class_rows, demands}
use Rattle.std.proofs.lemmas.List.Elements.{All-map}
use Rattle.bound_rows.specs.BoundRows.{base_rows, bound_size, first_unit, group_of, groups_of, league_groups, paid_of}
use Rattle.bound_rows.specs.BoundRows.{units_of}
use Rattle.bound_rows.specs.Parts.{parts_of}
use Rattle.bound_rows.specs.Softening.{Group, costs, costs_from, objective_row, one_before, order_rows, soften}
use Rattle.bound_rows.specs.Softening.{softened_rows, units_from}
use Rattle.bound_rows.specs.Drafts.{rows_in, units_in}
use Rattle.bound_rows.specs.Sizes.{group_size, paid_size, parts_size}

length-units : (first count : ℕ) → length (map unit (units_from first count)) ≡ count
length-units first count =
    length-map (units_from first count) unit ∙ length-map (range_with_len first count) yes
    ∙ length-range_with_len first count

size_of-softened : (first units : ℕ) (rows : List Row)
    → size_of (map (soften (units_from first units)) rows) ≡ sum_by (λ r. length r.terms + units) rows
size_of-softened first units rows =
    sum_by-map (λ (r : Row). length r.terms) (soften (units_from first units)) rows
    ∙ sum_by-same (λ (r : Row). length (r.terms ++ map unit (units_from first units))) (λ r. length r.terms + units)
    (λ r. omega (arith, length-append r.terms (map unit (units_from first units)), length-units first units)) rows

length-costs_from : (penalty first count : ℕ) → length (costs_from penalty first count) ≡ count
length-costs_from penalty first count =
    length-map (range_with_len first count) (λ v. record { coef = penalty; lit = record { var = v; positive = false } })
    ∙ length-range_with_len first count

size_of-orders : (first count : ℕ) → size_of (map one_before (range_with_len first count)) ≡ 2 * count
size_of-orders first zero = omega arith
size_of-orders first (suc count) =
    omega (
      arith,
      sum_by-cons (λ (r : Row). length r.terms) (one_before first) (map one_before (range_with_len (first + 1) count)),
      size_of-orders (first + 1) count,
    )

size_of-groups : (first : ℕ) (groups : List Group)
    → size_of (softened_rows first groups) + length (costs first groups) + size_of (order_rows first groups)
    ≡ sum_by (λ g. group_size g.units g.rows) groups
size_of-groups first [] = refl
size_of-groups first (g ∷ groups) =
    let terms : Row → ℕ = λ r. length r.terms in
    omega (
      arith,
      sum_by-append terms (map (soften (units_from first g.units)) g.rows) (softened_rows (first + g.units) groups),
      sum_by-append terms (map one_before (range_with_len first (g.units - 1)))
          (order_rows (first + g.units) groups),
      length-append (costs_from g.penalty first g.units) (costs (first + g.units) groups),
      sum_by-cons (λ (g : Group). group_size g.units g.rows) g groups,
      size_of-softened first g.units g.rows,
      length-costs_from g.penalty first g.units,
      size_of-orders first (g.units - 1),
      size_of-groups (first + g.units) groups,
    )

pub bound_size-groups : (league : Instance)
    → bound_size league
    ≡ size_of (base_rows league) + sum_by (λ g. group_size g.units g.rows) (league_groups league)
bound_size-groups league =
    let terms : Row → ℕ = λ r. length r.terms in
    let first : ℕ = first_unit league in
    let groups : List Group = league_groups league in
    let soft : List Row = softened_rows first groups in
    let row : Row = objective_row first groups 0 in
    omega (
      arith,
      sum_by-append terms (base_rows league ++ soft ++ row ∷ []) (order_rows first groups),
      sum_by-append terms (base_rows league ++ soft) (row ∷ []),
      sum_by-append terms (base_rows league) soft,
      size_of-groups first groups,
    )

-- part by part
pub groups-paid_size : (n : ℕ) (constraints : List Constraint)
    → sum_by (λ g. group_size g.units g.rows) (groups_of n constraints) ≡ paid_size n constraints
groups-paid_size n constraints =
    let size : Group → ℕ = λ g. group_size g.units g.rows in
    sum_by-flat_map size (λ c. map (group_of n c.penalty) (parts_of n c.class)) (paid_of constraints)
    ∙ sum_by-same (λ c. sum_by size (map (group_of n c.penalty) (parts_of n c.class)))
    (λ c. parts_size n (parts_of n c.class))
    (λ c. sum_by-map size (group_of n c.penalty) (parts_of n c.class)) (paid_of constraints)

pub bound_size-paid : (league : Instance)
    → bound_size league ≡ size_of (base_rows league) + paid_size league.n league.constraints
bound_size-paid league =
    bound_size-groups league
    ∙ ap (λ (s : ℕ). size_of (base_rows league) + s) (groups-paid_size league.n league.constraints)

-- ---- there are fewer units and rows than terms

sum_by-le_in : {X : Type 0} (f g : X → ℕ) (xs : List X) → All (λ x. f x ≤ g x) xs → sum_by f xs ≤ sum_by g xs
sum_by-le_in f g [] less = omega arith
sum_by-le_in f g (x ∷ xs) less =
    omega (
      arith,
      sum_by-cons f x xs,
      sum_by-cons g x xs,
      All-head (λ x. f x ≤ g x) x xs less,
      sum_by-le_in f g xs (All-tail (λ x. f x ≤ g x) x xs less),
    )

count-le : {X : Type 0} (h : X → ℕ) (xs : List X) → All (λ x. 1 ≤ h x) xs → length xs ≤ sum_by h xs
count-le h [] some = omega arith
count-le h (x ∷ xs) some =
    omega (
      arith,
      sum_by-cons h x xs,
      All-head (λ x. 1 ≤ h x) x xs some,
      count-le h xs (All-tail (λ x. 1 ≤ h x) x xs some),
    )

-- none is above the largest
fold-ge : {X : Type 0} (f : X → ℕ) (a : ℕ) (xs : List X) → a ≤ fold (λ b x. max b (f x)) a xs
fold-ge f a [] = omega arith
fold-ge f a (x ∷ xs) = omega (arith, fold-ge f (max a (f x)) xs)

each-le : {X : Type 0} (f : X → ℕ) (a : ℕ) (xs : List X) → All (λ x. f x ≤ fold (λ b x. max b (f x)) a xs) xs
each-le f a [] = All-nil (λ x. f x ≤ a)
each-le f a (x ∷ xs) =
    All-cons (λ y. f y ≤ fold (λ b x. max b (f x)) (max a (f x)) xs) x xs (omega (arith, fold-ge f (max a (f x)) xs))
    (each-le f (max a (f x)) xs)

-- a row that demands something has a unit or a term
demanding : (n : ℕ) (class : Class) → All (λ r. 1 ≤ r.degree) (class_rows n class)
demanding n class k d within =
    let rows : List Row = flat_map (λ rows. rows) (rows_by_key n class) in
    ltb-true 0 (get_or (class_rows n class) k d).degree (filter_passes demands rows k d within)

enough_units : (n : ℕ) (part : Class) → All (λ r. 1 ≤ length r.terms + units_of part (class_rows n part))
    (class_rows n part)
enough_units n (Se1 teams min) = λ k d within. omega arith
enough_units n other = λ k d within.
    omega (
      arith,
      demanding n other k d within,
      each-le (λ (row : Row). row.degree) 0 (class_rows n other) k d within,
    )

rows-le-size : (n : ℕ) (part : Class)
    → length (class_rows n part) ≤ group_size (units_of part (class_rows n part)) (class_rows n part)
rows-le-size n part =
    omega (
      arith,
      count-le (λ (r : Row). length r.terms + units_of part (class_rows n part)) (class_rows n part)
          (enough_units n part),
    )

pub rows_in-le : (n : ℕ) (constraints : List Constraint)
    → rows_in (groups_of n constraints) ≤ sum_by (λ g. group_size g.units g.rows) (groups_of n constraints)
rows_in-le n constraints =
    let small : Group → Type 0 = λ g. length g.rows ≤ group_size g.units g.rows in
    sum_by-le_in (λ (g : Group). length g.rows) (λ g. group_size g.units g.rows) (groups_of n constraints)
    (All-flat_map small (λ c. map (group_of n c.penalty) (parts_of n c.class)) (paid_of constraints)
    (λ k d within.
    let c : Constraint = get_or (paid_of constraints) k d in
    All-map small (group_of n c.penalty) (parts_of n c.class)
    (λ l e inside. rows-le-size n (get_or (parts_of n c.class) l e))))

pub units_in-le : (groups : List Group) → units_in groups ≤ sum_by (λ g. group_size g.units g.rows) groups
units_in-le groups =
    sum_by-le_in (λ (g : Group). g.units) (λ g. group_size g.units g.rows) groups (λ k d within. omega arith)
