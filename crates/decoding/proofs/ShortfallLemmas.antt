-- What rows lack, and the largest of some numbers.
use Rattle.std.proofs.Common.{◌≡◌, ℕ, ◌-◌, Bool, true, ◌&&◌, ◌==◌, max, List, [], ◌∷◌, ◌++◌, map, refl, arith, ap}
use Rattle.std.proofs.Common.{◌∙◌}
use Rattle.std.specs.Prelude.{nat_le}
use Rattle.std.proofs.lemmas.Bool.{and_parts}
use Rattle.std.proofs.lemmas.Bool.Decides.{nat_tests}
use Rattle.std.specs.List.{flat_map, fold, list_all}
use Rattle.league.specs.Bounds.{excess, largest, outside}
use Rattle.rows.specs.Cardinality.{at_least, at_most, between}
use Rattle.rows.specs.Literals.{Literal, negate}
use Rattle.rows.specs.Rows.{Row, weight}
use Rattle.rows.specs.Tests.{all_satisfied, true_count}
use Rattle.rows.proofs.TestLemmas.{true_count-negate, weight-units}
use Rattle.decoding.specs.Shortfalls.{shortfall, units_needed}

-- the largest of some numbers and one that is there before
largest_from : {X : Type 0} (f : X → ℕ) (a : ℕ) (xs : List X) → fold (λ b x. max b (f x)) a xs ≡ max a (largest f xs)
largest_from f a [] = omega arith
largest_from f a (x ∷ xs) = omega (arith, largest_from f (max a (f x)) xs, largest_from f (max 0 (f x)) xs)

pub largest-cons : {X : Type 0} (f : X → ℕ) (x : X) (xs : List X) → largest f (x ∷ xs) ≡ max (f x) (largest f xs)
largest-cons f x xs = omega (arith, largest_from f (max 0 (f x)) xs)

pub largest-append : {X : Type 0} (f : X → ℕ) (xs ys : List X)
    → largest f (xs ++ ys) ≡ max (largest f xs) (largest f ys)
largest-append f [] ys = omega arith
largest-append f (x ∷ xs) ys = omega (arith, largest-cons f x (xs ++ ys), largest-cons f x xs, largest-append f xs ys)

-- the largest of joined lists is the largest of their largest
pub largest-flat_map : {X Y : Type 0} (f : X → ℕ) (g : Y → List X) (ys : List Y)
    → largest f (flat_map g ys) ≡ largest (λ y. largest f (g y)) ys
largest-flat_map f g [] = refl
largest-flat_map f g (y ∷ ys) =
    omega (
      arith,
      largest-append f (g y) (flat_map g ys),
      largest-cons (λ y. largest f (g y)) y ys,
      largest-flat_map f g ys,
    )

-- numbers that agree where a test passes
pub largest-agree : {X : Type 0} (p : X → Bool) (f g : X → ℕ) → ((x : X) → p x ≡ true → f x ≡ g x) → (xs : List X)
    → list_all p xs ≡ true → largest f xs ≡ largest g xs
largest-agree p f g same [] pass = refl
largest-agree p f g same (x ∷ xs) pass =
    let both = and_parts (p x) (list_all p xs) pass in
    omega (arith, largest-cons f x xs, largest-cons g x xs, same x both.0, largest-agree p f g same xs both.1)

-- the larger of two numbers is 0 where both are
largest_of_two : (a b c : ℕ) → c ≡ max a b → ((a == 0) && (b == 0)) ≡ (c == 0)
largest_of_two a b c is = grind (arith, nat_tests)

pub largest-zero : {X : Type 0} (f : X → ℕ) (xs : List X) → list_all (λ x. f x == 0) xs ≡ (largest f xs == 0)
largest-zero f [] = refl
largest-zero f (x ∷ xs) =
    ap (λ (b : Bool). (f x == 0) && b) (largest-zero f xs)
    ∙ largest_of_two (f x) (largest f xs) (largest f (x ∷ xs)) (largest-cons f x xs)

-- a row is satisfied where it lacks nothing
enough : (degree reached : ℕ) → nat_le degree reached ≡ (degree - reached == 0)
enough degree reached = grind (arith, nat_tests)

all_enough : (values : ℕ → Bool) (rows : List Row)
    → all_satisfied values rows ≡ list_all (λ row. shortfall values row == 0) rows
all_enough values [] = refl
all_enough values (row ∷ rows) =
    ap (λ (b : Bool). b && all_satisfied values rows) (enough row.degree (weight values row.terms))
    ∙ ap (λ (b : Bool). (shortfall values row == 0) && b) (all_enough values rows)

-- all rows are satisfied exactly where the worst of them lacks nothing
pub satisfied-needs : (values : ℕ → Bool) (rows : List Row)
    → all_satisfied values rows ≡ (units_needed values rows == 0)
satisfied-needs values rows = all_enough values rows ∙ largest-zero (shortfall values) rows

module _ (values : ℕ → Bool) (literals : List Literal) where
  pub shortfall-at_least : (d : ℕ) → shortfall values (at_least d literals) ≡ d - true_count values literals
  shortfall-at_least d = ap (λ (w : ℕ). d - w) (weight-units values literals)

  pub shortfall-at_most : (b : ℕ) → shortfall values (at_most b literals) ≡ true_count values literals - b
  shortfall-at_most b =
      omega (arith, weight-units values (map negate literals), true_count-negate values literals)

  -- what two rows lack that hold a count between two numbers, and what one row that bounds it
  pub needs_between : (low high c : ℕ) → true_count values literals ≡ c
      → units_needed values (between low high literals) ≡ outside low high c
  needs_between low high c counted =
      omega (arith, shortfall-at_least low, shortfall-at_most high)

  pub needs_most : (b c : ℕ) → true_count values literals ≡ c
      → units_needed values (at_most b literals ∷ []) ≡ excess c b
  needs_most b c counted = omega (arith, shortfall-at_most b)
