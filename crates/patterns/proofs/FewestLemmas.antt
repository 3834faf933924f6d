-- The fewest breaks (de Werra): two teams that meet differ in the slot of their game, and so of three teams without a
-- break two would be one.
use Rattle.std.proofs.Common.{◌≡◌, ℕ, zero, suc, ◌+◌, ◌-◌, ◌<◌, ◌≤◌, Bool, true, ◌&&◌, ◌==◌, nat_lt, List, [], ◌∷◌, get_or, arith, ap, sym, ◌∙◌, inl, inr}
use Rattle.std.specs.Prelude.{◌⊎◌}
use Rattle.std.proofs.lemmas.Bool.Decides.{nat_tests}
use Rattle.std.proofs.lemmas.List.FromFn.{get_or-map-range_with_len}
use Rattle.std.specs.List.{sum_by}
use Rattle.league.specs.Breaks.{all_breaks, breaks_among, breaks_at, twice_in_a_row}
use Rattle.league.specs.Counts.{Counts, counts_of, teams_of}
use Rattle.league.specs.Meetings.{games_of}
use Rattle.league.specs.Structure.{first_half}
use Rattle.league.specs.Venues.{away_games, games_on, home_games}
use Rattle.league.specs.declared.game.Game.{Game}
use Rattle.league.specs.declared.class.Side.{Side}
use Rattle.league.specs.declared.class.Side.TheVariants.{H, A, Both}
use Rattle.league.proofs.RangeLemmas.{one_if}
use Rattle.league.proofs.SumLemmas.{sum_by-add}
use Rattle.circle_method.specs.SingleRoundRobin.{IsSingleRoundRobin}
use Rattle.patterns.specs.FewestBreaks.{DistinctPatterns, FewestBreaks}
use Rattle.patterns.specs.PatternSet.{letter_of, pattern_in, side_with}
use Rattle.patterns.proofs.TermLemmas.{count-at_most_one, one_of_two, some_term, sum_by-at_least, term-le}

-- each two teams meet in some slot, and each team has exactly one game in each
pub record IsSingle (n : ℕ) (m : Counts) : Type 0 where
  pub pairs : (i j : ℕ) → i < j → j < n → games_of m ((i, j) ∷ (j, i) ∷ []) (first_half n) ≡ 1
  pub cells : (i s : ℕ) → i < n → s < n - 1 → games_on n m Both i s ≡ 1

-- where team i is at home to team j, it is at home and team j isn't
meet : (n : ℕ) (m : Counts) → IsSingle n m → (i j s : ℕ) → i < n → j < n → s < n - 1 → 1 ≤ m i j s → (home_games n m i s ≡ 1) × (home_games n m j s ≡ 0)
meet n m single i j s here there slot game =
    let at_home : m i j s ≤ home_games n m i s = term-le (λ k. m i k s) n j there in
    let away : m i j s ≤ away_games n m j s = term-le (λ k. m k j s) n i here in
    let first : home_games n m i s + away_games n m i s ≡ 1 = single.cells i s here slot in
    let second : home_games n m j s + away_games n m j s ≡ 1 = single.cells j s there slot in
    (omega arith, omega arith)

-- one home game and none are two letters
differ : (a b : ℕ) → a ≡ 1 → b ≡ 0 → side_with a ≡ side_with b → ⊥
differ a b one none same =
    let first : side_with a ≡ H = ap side_with one in
    let second : side_with b ≡ A = ap side_with none in
    let sides : H ≡ A = sym first ∙ same ∙ second in
    cc

-- two teams differ in some slot
pub apart : (n : ℕ) (m : Counts) → IsSingle n m → (i j : ℕ) → i < j → j < n → (s : ℕ) × ((s < n - 1) × (letter_of n m i s ≡ letter_of n m j s → ⊥))
apart n m single i j h l =
    let games : ℕ → ℕ → ℕ = λ a b. sum_by (λ s. m a b s) (first_half n) in
    let inside : i < n = omega arith in
    let either : (1 ≤ games i j) ⊎ (1 ≤ games j i) = one_of_two (games i j) (games j i) (omega (arith, single.pairs i j h l)) in
    elim either [
      | inl game ↦ (
          let found = some_term (λ s. m i j s) (n - 1) game in
          let both = meet n m single i j found.0 inside l found.1.0 found.1.1 in
          (found.0, (found.1.0, λ same. differ (home_games n m i found.0) (home_games n m j found.0) both.0 both.1 same))
          )
      | inr game ↦ (
          let found = some_term (λ s. m j i s) (n - 1) game in
          let both = meet n m single j i found.0 l inside found.1.0 found.1.1 in
          (found.0, (found.1.0, λ same. differ (home_games n m j found.0) (home_games n m i found.0) both.0 both.1 (sym same)))
          )
    ]

-- two teams' patterns differ
pub patterns_apart : (n : ℕ) (m : Counts) → IsSingle n m → (i j : ℕ) → i < j → j < n → pattern_in n m (first_half n) i ≡ pattern_in n m (first_half n) j → ⊥
patterns_apart n m single i j h l same =
    let found = apart n m single i j h l in
    let s : ℕ = found.0 in
    let at : (k : ℕ) → get_or (pattern_in n m (first_half n) k) s Both ≡ letter_of n m k s = λ k. get_or-map-range_with_len (letter_of n m k) 0 (n - 1) s s Both found.1.0 (omega arith) in
    found.1.1 (sym (at i) ∙ ap (λ (xs : List Side). get_or xs s Both) same ∙ at j)

-- home and away games in a slot and in the one before, of a team that has one game in each and no break
flip : (a b c d : ℕ) → a + b ≡ 1 → c + d ≡ 1 → one_if (nat_lt 0 a && nat_lt 0 c) + one_if (nat_lt 0 b && nat_lt 0 d) ≡ 0 → a + c ≡ 1
flip a b c d first second none = grind (arith, nat_tests)

-- home games of a team in a slot and in the next, where it has one game in each and no break
flips : (f g : ℕ → ℕ) (s : ℕ) → f s + g s ≡ 1 → f (s + 1) + g (s + 1) ≡ 1 → one_if (twice_in_a_row f (s + 1)) + one_if (twice_in_a_row g (s + 1)) ≡ 0 → f s + f (s + 1) ≡ 1
flips f g s first second none =
    let before : s + 1 - 1 ≡ s = omega arith in
    let late : nat_lt 0 (s + 1) ≡ true = grind (arith, nat_tests) in
    let count : (ℕ → ℕ) → ℕ → Bool → ℕ = λ h k b. one_if (b && nat_lt 0 (h k) && nat_lt 0 (h (s + 1))) in
    let home_is : one_if (twice_in_a_row f (s + 1)) ≡ one_if (nat_lt 0 (f s) && nat_lt 0 (f (s + 1))) = ap (λ (k : ℕ). count f k (nat_lt 0 (s + 1))) before ∙ ap (λ (b : Bool). count f s b) late in
    let away_is : one_if (twice_in_a_row g (s + 1)) ≡ one_if (nat_lt 0 (g s) && nat_lt 0 (g (s + 1))) = ap (λ (k : ℕ). count g k (nat_lt 0 (s + 1))) before ∙ ap (λ (b : Bool). count g s b) late in
    flip (f s) (g s) (f (s + 1)) (g (s + 1)) first second (omega arith)

-- the breaks of a team
abbrev breaks : ℕ → Counts → ℕ → ℕ
breaks n m i = breaks_among n m Both (first_half n) i

-- two teams without a break that begin alike go on alike
alike : (n : ℕ) (m : Counts) → IsSingle n m → (i j : ℕ) → i < n → j < n → breaks n m i ≡ 0 → breaks n m j ≡ 0 → home_games n m i 0 ≡ home_games n m j 0 → (s : ℕ) → s < n - 1 → home_games n m i s ≡ home_games n m j s
alike n m single i j here there no_i no_j begin zero l = begin
alike n m single i j here there no_i no_j begin (suc s) l =
    let last : s + 1 ≡ suc s = omega arith in
    let next : s + 1 < n - 1 = omega arith in
    let inside : s < n - 1 = omega arith in
    let before : home_games n m i s ≡ home_games n m j s = alike n m single i j here there no_i no_j begin s inside in
    let none_i : breaks_at n m Both i (s + 1) ≡ 0 = omega (arith, no_i, term-le (λ t. breaks_at n m Both i t) (n - 1) (s + 1) next) in
    let none_j : breaks_at n m Both j (s + 1) ≡ 0 = omega (arith, no_j, term-le (λ t. breaks_at n m Both j t) (n - 1) (s + 1) next) in
    let flip_i : home_games n m i s + home_games n m i (s + 1) ≡ 1 = flips (home_games n m i) (away_games n m i) s (single.cells i s here inside) (single.cells i (s + 1) here next) none_i in
    let flip_j : home_games n m j s + home_games n m j (s + 1) ≡ 1 = flips (home_games n m j) (away_games n m j) s (single.cells j s there inside) (single.cells j (s + 1) there next) none_j in
    omega (arith, before, flip_i, flip_j, ap (home_games n m i) last, ap (home_games n m j) last)

-- no two teams without a break begin alike
begin_apart : (n : ℕ) (m : Counts) → IsSingle n m → (i j : ℕ) → i < j → j < n → breaks n m i ≡ 0 → breaks n m j ≡ 0 → home_games n m i 0 ≡ home_games n m j 0 → ⊥
begin_apart n m single i j h l no_i no_j begin =
    let found = apart n m single i j h l in
    found.1.1 (ap side_with (alike n m single i j (omega arith) l no_i no_j begin found.0 found.1.0))

-- whether a number of breaks is 0, and a number of home games in the first slot is x
abbrev begins : ℕ → ℕ → ℕ → Bool
begins x count first = (count == 0) && (first == x)

begins-no_break : (x count first : ℕ) → begins x count first ≡ true → count ≡ 0
begins-no_break x count first h = grind (arith, nat_tests)

begins-with : (x count first : ℕ) → begins x count first ≡ true → first ≡ x
begins-with x count first h = grind (arith, nat_tests)

-- a team has a break, or begins in one of two ways
covered : (count first : ℕ) → first ≤ 1 → 1 ≤ count + one_if (begins 0 count first) + one_if (begins 1 count first)
covered count first h = grind (arith, nat_tests)

-- at most one team without a break begins so
one_begins : (n : ℕ) (m : Counts) → IsSingle n m → (x : ℕ) → sum_by (λ i. one_if (begins x (breaks n m i) (home_games n m i 0))) (teams_of n) ≤ 1
one_begins n m single x =
    count-at_most_one (λ i. begins x (breaks n m i) (home_games n m i 0)) n
    (λ i j h l first second. begin_apart n m single i j h l
    (begins-no_break x (breaks n m i) (home_games n m i 0) first)
    (begins-no_break x (breaks n m j) (home_games n m j 0) second) (begins-with x (breaks n m i) (home_games n m i 0)
    first ∙ sym (begins-with x (breaks n m j) (home_games n m j 0) second)))

-- at least n - 2 breaks
pub breaks_at_least : (n : ℕ) (m : Counts) → IsSingle n m → 2 ≤ n → n - 2 ≤ all_breaks n m (teams_of n) (first_half n)
breaks_at_least n m single two =
    let b : ℕ → ℕ = λ i. breaks n m i in
    let away_first : ℕ → ℕ = λ i. one_if (begins 0 (breaks n m i) (home_games n m i 0)) in
    let home_first : ℕ → ℕ = λ i. one_if (begins 1 (breaks n m i) (home_games n m i 0)) in
    let at_most_one : (i : ℕ) → i < n → home_games n m i 0 ≤ 1 = λ i h. omega (arith, single.cells i 0 h (omega arith)) in
    let all : n ≤ sum_by (λ i. b i + away_first i + home_first i) (teams_of n) = sum_by-at_least (λ i. b i + away_first i + home_first i) n (λ i h. covered (b i) (home_games n m i 0) (at_most_one i h)) in
    omega (
      arith,
      all,
      sum_by-add (λ i. b i + away_first i) home_first (teams_of n),
      sum_by-add b away_first (teams_of n),
      one_begins n m single 0,
      one_begins n m single 1,
    )

-- the law, in two parts
single_of : (n : ℕ) (games : List Game) → IsSingleRoundRobin n games → IsSingle n (counts_of games)
single_of n games is = record { pairs = is.pairs; cells = is.cells }

pub distinct_patterns : DistinctPatterns
distinct_patterns n games teams is = patterns_apart n (counts_of games) (single_of n games is)

pub fewest_breaks : FewestBreaks
fewest_breaks n games teams is = breaks_at_least n (counts_of games) (single_of n games is) teams.at_least
