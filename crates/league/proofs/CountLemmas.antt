-- What one game more adds to the games that a definition counts.
use Rattle.std.proofs.Common.{◌≡◌, ℕ, ◌+◌, ◌<◌, ◌≤◌, Bool, ◌&&◌, ◌==◌, nat_lt, List, [], ◌∷◌, ◌++◌, zero, suc, refl, arith, ap, ◌∙◌}
use Rattle.std.proofs.lemmas.Bool.Decides.{nat_tests}
use Rattle.std.proofs.lemmas.List.Sums.{sum_by_push, sum_by-le}
use Rattle.std.specs.List.{range_with_len, sum_by}
use Rattle.std.specs.List.Sorted.{IsPermutation}
use Rattle.std.proofs.lemmas.List.Sorted.{sum_by-IsPermutation}
use Rattle.std.proofs.Math.Path.{fun_ext}
use Rattle.league.specs.Counts.{Counts, counts_of, is_game, one_more, teams_of}
use Rattle.league.specs.Instance.{IsGame}
use Rattle.league.specs.Meetings.{games_of}
use Rattle.league.specs.Venues.{away_games, games_on, home_games}
use Rattle.league.specs.declared.game.Game.{Game}
use Rattle.league.specs.declared.class.Side.TheVariants.{Both}
use Rattle.league.proofs.RangeLemmas.{one_if, sum_by-range_more}
use Rattle.league.proofs.SumLemmas.{sum_by-add, sum_by-same}

-- a number is below k + 1 where it is below k, or is k
below_more : (b : Bool) (x k : ℕ) → one_if (b && nat_lt x k) + one_if (b && (x == k)) ≡ one_if (b && nat_lt x (k + 1))
below_more b x k = grind (arith, nat_tests)

-- of the numbers below k, one is x where x is below k
one_in_range : (b : Bool) (x k : ℕ) → sum_by (λ i. one_if (b && (x == i))) (range_with_len 0 k) ≡ one_if (b && nat_lt x k)
one_in_range b x zero = grind (arith, nat_tests)
one_in_range b x (suc k) =
    let last : k + 1 ≡ suc k = omega arith in
    let so_far : ℕ → ℕ = λ l. sum_by (λ i. one_if (b && (x == i))) (range_with_len 0 l) in
    let test : ℕ → ℕ = λ l. one_if (b && nat_lt x l) in
    let here : one_if (b && (x == 0 + k)) ≡ one_if (b && (x == k)) = ap (λ (l : ℕ). one_if (b && (x == l))) (omega arith) in
    omega (arith, one_in_range b x k, sum_by-range_more (λ i. one_if (b && (x == i))) 0 k, here, below_more b x k, ap so_far last, ap test last)

-- a sum over the numbers below k, where the count of x alone gains 1, and only if a test b passes
pub sum_by-one_game : (count : ℕ → ℕ) (p : ℕ → Bool) (b : Bool) (x k : ℕ) → ((i : ℕ) → p i ≡ (b && (x == i))) → sum_by (λ i. count i + one_if (p i)) (range_with_len 0 k) ≡ sum_by count (range_with_len 0 k) + one_if (b && nat_lt x k)
sum_by-one_game count p b x k same =
    omega (arith, sum_by-add count (λ i. one_if (p i)) (range_with_len 0 k), sum_by-same (λ i. one_if (p i)) (λ i. one_if (b && (x == i))) (λ i. ap one_if (same i)) (range_with_len 0 k), one_in_range b x k)

-- how often a game stands in a list with one game more
pub counts_of-push : (games : List Game) (g : Game) (i j s : ℕ) → counts_of (games ++ g ∷ []) i j s ≡ counts_of games i j s + one_if (is_game i j s g)
counts_of-push games g i j s = sum_by_push (λ x. one_if (is_game i j s x)) games g

-- games of a meeting in the first k slots
pub games_of-push : (games : List Game) (g : Game) (i j k : ℕ) → games_of (counts_of (games ++ g ∷ [])) ((i, j) ∷ []) (range_with_len 0 k) ≡ games_of (counts_of games) ((i, j) ∷ []) (range_with_len 0 k) + one_if ((g.home.0 == i) && (g.away.0 == j) && nat_lt g.slot.0 k)
games_of-push games g i j k =
    omega (
      arith,
      sum_by-same (λ s. counts_of (games ++ g ∷ []) i j s) (λ s. counts_of games i j s + one_if (is_game i j s g)) (λ s. counts_of-push games g i j s) (range_with_len 0 k),
      sum_by-one_game (λ s. counts_of games i j s) (λ s. is_game i j s g) ((g.home.0 == i) && (g.away.0 == j)) g.slot.0 k (λ s. refl),
    )

-- three tests with the second at the end
away_last : (a b c : Bool) → (a && b && c) ≡ (a && c && b)
away_last a b c = grind arith

-- three tests with the first at the end
home_last : (a b c : Bool) → (a && b && c) ≡ (b && c && a)
home_last a b c = grind arith

-- a number under a test, and below k
pub and_below : (b : Bool) (x k : ℕ) → x < k → one_if (b && nat_lt x k) ≡ one_if b
and_below b x k h = grind (arith, nat_tests)

-- a number that isn't below k
pub and_not_below : (b : Bool) (x k : ℕ) → k ≤ x → one_if (b && nat_lt x k) ≡ 0
and_not_below b x k h = grind (arith, nat_tests)

-- games of a meeting in the first k slots, where the game is in one of them
pub games_of-push_in : (games : List Game) (g : Game) (i j k : ℕ) → g.slot.0 < k → games_of (counts_of (games ++ g ∷ [])) ((i, j) ∷ []) (range_with_len 0 k) ≡ games_of (counts_of games) ((i, j) ∷ []) (range_with_len 0 k) + one_if ((g.home.0 == i) && (g.away.0 == j))
games_of-push_in games g i j k h = omega (arith, games_of-push games g i j k, and_below ((g.home.0 == i) && (g.away.0 == j)) g.slot.0 k h)

-- games of a meeting in the first k slots, where the game is in a later one
pub games_of-push_out : (games : List Game) (g : Game) (i j k : ℕ) → k ≤ g.slot.0 → games_of (counts_of (games ++ g ∷ [])) ((i, j) ∷ []) (range_with_len 0 k) ≡ games_of (counts_of games) ((i, j) ∷ []) (range_with_len 0 k)
games_of-push_out games g i j k h = omega (arith, games_of-push games g i j k, and_not_below ((g.home.0 == i) && (g.away.0 == j)) g.slot.0 k h)

-- home games and away games of a team in a slot, with a game of the league once more
pub home_games-one_more : (n : ℕ) (m : Counts) (g : Game) (i s : ℕ) → IsGame n g → home_games n (one_more m g) i s ≡ home_games n m i s + one_if ((g.home.0 == i) && (g.slot.0 == s))
home_games-one_more n m g i s fits =
    omega (
      arith,
      sum_by-one_game (λ j. m i j s) (λ j. is_game i j s g) ((g.home.0 == i) && (g.slot.0 == s)) g.away.0 n (λ j. away_last (g.home.0 == i) (g.away.0 == j) (g.slot.0 == s)),
      and_below ((g.home.0 == i) && (g.slot.0 == s)) g.away.0 n fits.away,
    )

pub away_games-one_more : (n : ℕ) (m : Counts) (g : Game) (i s : ℕ) → IsGame n g → away_games n (one_more m g) i s ≡ away_games n m i s + one_if ((g.away.0 == i) && (g.slot.0 == s))
away_games-one_more n m g i s fits =
    omega (
      arith,
      sum_by-one_game (λ j. m j i s) (λ j. is_game j i s g) ((g.away.0 == i) && (g.slot.0 == s)) g.home.0 n (λ j. home_last (g.home.0 == j) (g.away.0 == i) (g.slot.0 == s)),
      and_below ((g.away.0 == i) && (g.slot.0 == s)) g.home.0 n fits.home,
    )

-- home games and away games of a team in a slot, in a list with a game at its end
pub home_games-push : (n : ℕ) (games : List Game) (g : Game) (i s : ℕ) → IsGame n g → home_games n (counts_of (games ++ g ∷ [])) i s ≡ home_games n (counts_of games) i s + one_if ((g.home.0 == i) && (g.slot.0 == s))
home_games-push n games g i s fits =
    sum_by-same (λ j. counts_of (games ++ g ∷ []) i j s) (λ j. one_more (counts_of games) g i j s) (λ j. counts_of-push games g i j s) (teams_of n) ∙ home_games-one_more n (counts_of games) g i s fits

pub away_games-push : (n : ℕ) (games : List Game) (g : Game) (i s : ℕ) → IsGame n g → away_games n (counts_of (games ++ g ∷ [])) i s ≡ away_games n (counts_of games) i s + one_if ((g.away.0 == i) && (g.slot.0 == s))
away_games-push n games g i s fits =
    sum_by-same (λ j. counts_of (games ++ g ∷ []) j i s) (λ j. one_more (counts_of games) g j i s) (λ j. counts_of-push games g j i s) (teams_of n) ∙ away_games-one_more n (counts_of games) g i s fits

-- games of a team in a slot
pub games_on-push : (n : ℕ) (games : List Game) (g : Game) (i s : ℕ) → IsGame n g → games_on n (counts_of (games ++ g ∷ [])) Both i s ≡ games_on n (counts_of games) Both i s + one_if ((g.home.0 == i) && (g.slot.0 == s)) + one_if ((g.away.0 == i) && (g.slot.0 == s))
games_on-push n games g i s fits =
    omega (arith, home_games-push n games g i s fits, away_games-push n games g i s fits)

-- a sum of zeros
sum_by-zeros : (xs : List ℕ) → sum_by (λ s. 0) xs ≡ 0
sum_by-zeros xs = omega (arith, sum_by-le (λ s. 0) 0 xs (λ k d lt. omega arith))

-- of no games, none are of a meeting
pub games_of-none : (i j : ℕ) (slots : List ℕ) → games_of (counts_of []) ((i, j) ∷ []) slots ≡ 0
games_of-none i j slots = omega (arith, sum_by-zeros slots)

-- of no games, none are a team's
pub home_games-none : (n i s : ℕ) → home_games n (counts_of []) i s ≡ 0
home_games-none n i s = omega (arith, sum_by-zeros (teams_of n))

pub away_games-none : (n i s : ℕ) → away_games n (counts_of []) i s ≡ 0
away_games-none n i s = omega (arith, sum_by-zeros (teams_of n))

pub games_on-none : (n i s : ℕ) → games_on n (counts_of []) Both i s ≡ 0
games_on-none n i s = omega (arith, sum_by-zeros (teams_of n))

-- the counts don't depend on the order
pub counts_of-permutation : (games more : List Game) → IsPermutation games more → counts_of more ≡ counts_of games
counts_of-permutation games more is =
    fun_ext (λ i. fun_ext (λ j. fun_ext (λ s. sum_by-IsPermutation (λ g. one_if (is_game i j s g)) games more is)))
