-- The least set that holds a number and, with each number, those that are next to it.
use Rattle.std.specs.Prelude.{◌≡◌, ℕ, zero, suc, ◌<◌, Bool, true, ◌||◌, List, [], ◌∷◌}
use Rattle.std.specs.List.{filter, list_any, range_with_len}
use Rattle.league.specs.Sets.{is_in}

-- some numbers, and all below k that are next to one of them
abbrev pub with_next : (ℕ → ℕ → Bool) → ℕ → List ℕ → List ℕ
with_next next k xs = filter (λ y. is_in y xs || list_any (λ x. next x y) xs) (range_with_len 0 k)

-- the numbers below k that so many steps to a next number reach from x
abbrev pub reached : (ℕ → ℕ → Bool) → ℕ → ℕ → ℕ → List ℕ
reached next k x zero = x ∷ []
reached next k x (suc steps) = with_next next k (reached next k x steps)

-- the least set of numbers below k that holds x and, with each number, those next to it: k steps reach it
abbrev pub closure : (ℕ → ℕ → Bool) → ℕ → ℕ → List ℕ
closure next k x = reached next k x k

-- the least closed set that holds x: it holds x, it is closed, and each closed set that holds x holds it
pub record IsLeastClosed (next : ℕ → ℕ → Bool) (k x : ℕ) (set : ℕ → Bool) : Type 0 where
  pub start : set x ≡ true
  pub closed : (a b : ℕ) → b < k → set a ≡ true → next a b ≡ true → set b ≡ true
  pub least :
      (other : ℕ → Bool) → other x ≡ true
      → ((a b : ℕ) → b < k → other a ≡ true → next a b ≡ true → other b ≡ true)
      → (a : ℕ) → set a ≡ true → other a ≡ true

-- in each relation the closure of a number below k is that least closed set
abbrev pub ClosuresAreLeast : Type 0
ClosuresAreLeast =
    (next : ℕ → ℕ → Bool) (k x : ℕ) → x < k → IsLeastClosed next k x (λ a. is_in a (closure next k x))
