-- The rows of the hard constraints are all satisfied exactly where each entry of each of them is 0.
use Rattle.std.proofs.Common.{◌≡◌, ℕ, Bool, true, false, ◌&&◌, ◌==◌, nat_lt, cond, List, [], ◌∷◌, get_or, IsTrue}
use Rattle.std.proofs.Common.{refl, arith, ap, ◌∙◌}
use Rattle.std.specs.Prelude.{nat_le}
use Rattle.std.proofs.lemmas.Bool.{and_from, and_parts, eq-eqb, eqb-true, or_left, or_right}
use Rattle.std.proofs.lemmas.Bool.Decides.{nat_tests}
use Rattle.std.proofs.lemmas.List.Folds.{list_all-append}
use Rattle.std.proofs.lemmas.List.Sums.{AllPass-from_list_all, list_all-from_AllPass}
use Rattle.std.specs.List.{All, flat_map, list_all}
use Rattle.league.specs.Accepted.{MeetsHard, hard_of}
use Rattle.league.specs.Counts.{Counts}
use Rattle.league.specs.Deviation.{vector_of}
use Rattle.league.specs.Instance.{Instance, class_fits}
use Rattle.league.specs.declared.class.Class.{Class}
use Rattle.league.specs.declared.class.Constraint.{Constraint}
use Rattle.rows.specs.Rows.{Row, weight}
use Rattle.rows.specs.Tests.{all_satisfied, satisfied}
use Rattle.rows.proofs.ListLemmas.{list_all-filter, list_all-flat_map}
use Rattle.encoding.specs.Demands.{rows_by_key}
use Rattle.encoding.specs.Encoding.{class_rows, constraint_rows, demands}
use Rattle.encoding.specs.Variables.{bounds_breaks, has_breaks}
use Rattle.decoding.specs.Mirrors.{Mirrors, MirrorsBreaks}
use Rattle.decoding.specs.Shortfalls.{all_zero, meets_hard}
use Rattle.decoding.proofs.ClassLaws.{class_law}

-- a row that demands nothing is satisfied
nothing_demanded : (degree reached : ℕ) → nat_lt 0 degree ≡ false → nat_le degree reached ≡ true
nothing_demanded degree reached none = grind (arith, nat_tests)

-- the listed rows of some constraints, and whether all entries of each are 0
abbrev listed_rows : ℕ → List Constraint → List Row
listed_rows n constraints = flat_map (λ c. class_rows n c.class) constraints

abbrev meets : ℕ → Counts → List Constraint → Bool
meets n m constraints = list_all (λ c. all_zero (vector_of n m c.class)) constraints

module _ (n : ℕ) (m : Counts) (values : ℕ → Bool) (mirrors : Mirrors n m values) where
  -- the rows that are listed
  pub class_rows_law : (class : Class) → (bounds_breaks class ≡ true → MirrorsBreaks n m values)
      → class_fits n class ≡ true → all_satisfied values (class_rows n class) ≡ all_zero (vector_of n m class)
  class_rows_law class breaks fits =
      list_all-filter (satisfied values) demands
      (λ row none. nothing_demanded row.degree (weight values row.terms) none)
      (flat_map (λ rows. rows) (rows_by_key n class))
      ∙ list_all-flat_map (satisfied values) (λ rows. rows) (rows_by_key n class)
      ∙ class_law n m values mirrors class breaks fits

  pub constraints_law : (constraints : List Constraint) → (has_breaks constraints ≡ true → MirrorsBreaks n m values)
      → list_all (λ c. class_fits n c.class) constraints ≡ true
      → all_satisfied values (constraint_rows n constraints) ≡ meets_hard n m constraints
  constraints_law [] breaks fit = refl
  constraints_law (c ∷ constraints) breaks fit =
      let both = and_parts (class_fits n c.class) (list_all (λ c. class_fits n c.class) constraints) fit in
      let here : Bool = c.hard && bounds_breaks c.class in
      let rest = constraints_law constraints (λ some. breaks (or_right here (has_breaks constraints) some)) both.1 in
      by both.0 rest c.hard refl where
        by : class_fits n c.class ≡ true
            → all_satisfied values (constraint_rows n constraints) ≡ meets_hard n m constraints
            → (b : Bool) → c.hard ≡ b
            → all_satisfied values (listed_rows n (cond b (c ∷ hard_of constraints) (hard_of constraints)))
            ≡ meets n m (cond b (c ∷ hard_of constraints) (hard_of constraints))
        by fits rest false soft = rest
        by fits rest true hard =
            let bounded : bounds_breaks c.class ≡ true → MirrorsBreaks n m values =
            λ bounds.
            let this : (c.hard && bounds_breaks c.class) ≡ true =
            and_from c.hard (bounds_breaks c.class) hard bounds in
            breaks (or_left (c.hard && bounds_breaks c.class) (has_breaks constraints) this) in
            list_all-append (satisfied values) (class_rows n c.class) (constraint_rows n constraints)
            ∙ ap (λ (b : Bool). b && all_satisfied values (constraint_rows n constraints))
            (class_rows_law c.class bounded fits)
            ∙ ap (λ (b : Bool). all_zero (vector_of n m c.class) && b) rest

-- the test of the hard constraints, and what it means
pub MeetsHard-from_true : (league : Instance) (m : Counts) → meets_hard league.n m league.constraints ≡ true
    → MeetsHard league m
MeetsHard-from_true league m pass =
    let each = AllPass-from_list_all (λ c. all_zero (vector_of league.n m c.class))
    (hard_of league.constraints) pass in
    λ k d within l e inside.
    let entries : List ℕ = vector_of league.n m (get_or (hard_of league.constraints) k d).class in
    eqb-true (get_or entries l e) 0 (AllPass-from_list_all (λ x. x == 0) entries (each k d within) l e inside)

pub meets_hard-true : (league : Instance) (m : Counts) → MeetsHard league m
    → meets_hard league.n m league.constraints ≡ true
meets_hard-true league m meets =
    list_all-from_AllPass (λ c. all_zero (vector_of league.n m c.class)) (hard_of league.constraints)
    (λ k d within.
    let entries : List ℕ = vector_of league.n m (get_or (hard_of league.constraints) k d).class in
    list_all-from_AllPass (λ x. x == 0) entries
    (λ l e inside. eq-eqb (get_or entries l e) 0 (meets k d within l e inside)))

-- each constraint of a league fits, as a test
pub all_fit : (league : Instance) → All (λ c. IsTrue (class_fits league.n c.class)) league.constraints
    → list_all (λ c. class_fits league.n c.class) league.constraints ≡ true
all_fit league fit = list_all-from_AllPass (λ c. class_fits league.n c.class) league.constraints fit
