-- Sets, as lists in ascending order without repeats.
use Rattle.std.specs.Prelude.{◌≡◌, ℕ, Bool, true, ◌&&◌, ◌==◌, List, [], ◌∷◌, ◌++◌}
use Rattle.std.specs.List.{AllPairs, filter, list_all, list_any}
use Rattle.std.specs.Ordering.{is_lt, nat_cmp, ordering_then}
use Rattle.std.specs.declared.cmp.Ordering.{Ordering}
use Rattle.std.specs.declared.cmp.Ordering.TheVariants.{Less}

-- each element comes before all later ones
abbrev pub IsAscending : {X : Type 0} → (X → X → Ordering) → List X → Type 0
IsAscending cmp xs = AllPairs (λ a b. cmp a b ≡ Less) xs

-- whether each element comes before all later ones, as a test
abbrev pub ascends : {X : Type 0} → (X → X → Ordering) → List X → Bool
ascends cmp [] = true
ascends cmp (x ∷ xs) = list_all (λ y. is_lt (cmp x y)) xs && ascends cmp xs

-- whether a number is one of these
abbrev pub is_in : ℕ → List ℕ → Bool
is_in x xs = list_any (λ y. y == x) xs

-- the set with x: the elements before it, x itself, and the elements after it
abbrev pub with_item : {X : Type 0} → (X → X → Ordering) → X → List X → List X
with_item cmp x xs = filter (λ y. is_lt (cmp y x)) xs ++ x ∷ filter (λ y. is_lt (cmp x y)) xs

-- pairs in order of their first number, and then of their second
abbrev pub pair_cmp : ℕ × ℕ → ℕ × ℕ → Ordering
pair_cmp p q = ordering_then (nat_cmp p.0 q.0) (nat_cmp p.1 q.1)
