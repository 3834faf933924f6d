-- How many games a double round robin has.
use Rattle.std.proofs.Common.{◌≡◌, ℕ, ◌+◌, ◌<◌, ◌≤◌, Bool, true, ◌&&◌, ◌==◌, nat_lt, List, [], ◌∷◌, length, slice_index_or, refl, arith, ap}
use Rattle.std.specs.List.{All, range_with_len, sum_by}
use Rattle.std.proofs.Math.Path.{fun_ext}
use Rattle.std.proofs.lemmas.Bool.Decides.{nat_tests}
use Rattle.std.proofs.lemmas.List.Elements.{All-tail}
use Rattle.std.proofs.lemmas.List.FromFn.{length-range_with_len}
use Rattle.std.proofs.lemmas.List.Sums.{sum_by-cons, sum_by-le}
use Rattle.league.specs.Counts.{Counts, counts_of, is_game, one_more, slot_count, slots_of, teams_of}
use Rattle.league.specs.Instance.{IsGame, IsTeamCount}
use Rattle.league.specs.Structure.{IsRoundRobin}
use Rattle.league.specs.Venues.{home_games}
use Rattle.league.specs.declared.game.Game.{Game}
use Rattle.league.proofs.CountLemmas.{home_games-none, home_games-one_more, sum_by-one_game}
use Rattle.league.proofs.RangeLemmas.{one_if}
use Rattle.league.proofs.RoundRobinLemmas.{plays_once}
use Rattle.league.proofs.SumLemmas.{sum_by-same}
use Rattle.league.proofs.OneTermLemmas.{All-range}

-- the home games of all teams in all slots
abbrev team_games : ℕ → Counts → ℕ → ℕ
team_games n m i = sum_by (λ s. home_games n m i s) (slots_of n)

abbrev all_home_games : ℕ → Counts → ℕ
all_home_games n m = sum_by (λ i. team_games n m i) (teams_of n)

below-one : (b : Bool) (t k : ℕ) → t < k → one_if (b && nat_lt t k) ≡ one_if b
below-one b t k below = grind (arith, nat_tests)

true-one : (h n : ℕ) → h < n → one_if (true && nat_lt h n) ≡ 1
true-one h n below = grind (arith, nat_tests)

true-and : (h i : ℕ) → (h == i) ≡ (true && (h == i))
true-and h i = refl

-- one game more is one home game more
team-more : (n : ℕ) (m : Counts) (g : Game) (i : ℕ) → IsGame n g
    → team_games n (one_more m g) i ≡ team_games n m i + one_if (g.home.0 == i)
team-more n m g i fits =
    omega (
      arith,
      sum_by-same (λ s. home_games n (one_more m g) i s)
          (λ s. home_games n m i s + one_if ((g.home.0 == i) && (g.slot.0 == s))) (λ s. home_games-one_more n m g i s fits)
          (slots_of n),
      sum_by-one_game (λ s. home_games n m i s) (λ s. (g.home.0 == i) && (g.slot.0 == s)) (g.home.0 == i) g.slot.0
          (slot_count n) (λ s. refl),
      below-one (g.home.0 == i) g.slot.0 (slot_count n) fits.slot,
    )

all-more : (n : ℕ) (m : Counts) (g : Game) → IsGame n g → all_home_games n (one_more m g) ≡ all_home_games n m + 1
all-more n m g fits =
    omega (
      arith,
      sum_by-same (λ i. team_games n (one_more m g) i) (λ i. team_games n m i + one_if (g.home.0 == i))
          (λ i. team-more n m g i fits) (teams_of n),
      sum_by-one_game (λ i. team_games n m i) (λ i. g.home.0 == i) true g.home.0 n (λ i. true-and g.home.0 i),
      true-one g.home.0 n fits.home,
    )

counts-cons : (g : Game) (games : List Game) → counts_of (g ∷ games) ≡ one_more (counts_of games) g
counts-cons g games =
    fun_ext (λ i. fun_ext (λ j. fun_ext (λ s.
    omega (arith, sum_by-cons (λ x. one_if (is_game i j s x)) g games))))

sum-zeros : (k : ℕ) (f : ℕ → ℕ) → ((x : ℕ) → f x ≡ 0) → sum_by f (range_with_len 0 k) ≡ 0
sum-zeros k f none =
    omega (arith, sum_by-le f 0 (range_with_len 0 k) (λ i d h. omega (arith, none (slice_index_or (range_with_len 0 k) i d))))

all-none : (n : ℕ) → all_home_games n (counts_of []) ≡ 0
all-none n =
    sum-zeros n (λ i. team_games n (counts_of []) i)
    (λ i. sum-zeros (slot_count n) (λ s. home_games n (counts_of []) i s) (λ s. home_games-none n i s))

-- the games of a list are as many as its home games
length-home_games : (n : ℕ) (games : List Game) → All (IsGame n) games
    → length games ≡ all_home_games n (counts_of games)
length-home_games n [] fit = omega (arith, all-none n)
length-home_games n (g ∷ games) fit =
    omega (
      arith,
      length-home_games n games (All-tail (IsGame n) g games fit),
      all-more n (counts_of games) g (fit 0 g (omega arith)),
      ap (λ (m : Counts). all_home_games n m) (counts-cons g games),
    )

-- at most 3,120 games
pub round_robin-few : (n : ℕ) (phased : Bool) (games : List Game) → IsTeamCount n → All (IsGame n) games
    → IsRoundRobin n phased (counts_of games) → length games ≤ 10000
round_robin-few n phased games teams fit is =
    let m : Counts = counts_of games in
    let team : (i : ℕ) → i < n → team_games n m i ≤ 78 =
    λ i below.
    omega (
      arith,
      sum_by-le (λ s. home_games n m i s) 1 (slots_of n)
          (All-range (λ s. home_games n m i s ≤ 1) 0 (slot_count n)
          (λ s from within. omega (arith, plays_once n m i s is.cells below (omega (arith, within))))),
      length-range_with_len 0 (slot_count n),
      teams.at_most,
    ) in
    omega (
      arith,
      length-home_games n games fit,
      sum_by-le (λ i. team_games n m i) 78 (teams_of n)
          (All-range (λ i. team_games n m i ≤ 78) 0 n (λ i from below. team i (omega (arith, below)))),
      length-range_with_len 0 n,
      teams.at_most,
    )
