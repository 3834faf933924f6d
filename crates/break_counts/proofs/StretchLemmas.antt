-- In a stretch of slots in which each two teams meet, all teams but two have a break after its first slot (de Werra).
use Rattle.std.proofs.Common.{◌≡◌, ℕ, zero, suc, ◌+◌, ◌-◌, ◌<◌, ◌≤◌, Bool, true, ◌&&◌, ◌==◌, nat_lt}
use Rattle.std.proofs.Common.{[], ◌∷◌, ◌∙◌, arith, ap, inl, inr}
use Rattle.std.specs.Prelude.{◌⊎◌}
use Rattle.std.specs.List.{range_with_len, sum_by}
use Rattle.std.proofs.lemmas.Bool.Decides.{nat_tests}
use Rattle.league.specs.Breaks.{breaks_among, breaks_at, twice_in_a_row}
use Rattle.league.specs.Counts.{Counts, teams_of}
use Rattle.league.specs.Meetings.{games_of}
use Rattle.league.specs.Venues.{away_games, games_on, home_games}
use Rattle.league.specs.declared.class.Side.TheVariants.{Both}
use Rattle.league.proofs.RangeLemmas.{one_if}
use Rattle.league.proofs.SumLemmas.{sum_by-add}
use Rattle.patterns.proofs.TermLemmas.{count-at_most_one, one_of_two, some_term, sum_by-at_least, term-le}
use Rattle.break_counts.specs.BreakCounts.{later_slots}
use Rattle.break_counts.specs.declared.stretch.Stretch.{Stretch}
use Rattle.break_counts.proofs.RangeSums.{range_shifted, term_in}

-- each two teams meet in the stretch, and each team has one game in each of its slots
pub record IsMet (n : ℕ) (m : Counts) (t : Stretch) : Type 0 where
  pub some : 1 ≤ t.count
  pub pairs : (i j : ℕ) → i < j → j < n
      → 1 ≤ games_of m ((i, j) ∷ (j, i) ∷ []) (range_with_len t.first t.count)
  pub cells : (i s : ℕ) → i < n → s < t.first + t.count → games_on n m Both i s ≡ 1

-- where team i is at home to team j, it is at home and team j isn't
meet : (n : ℕ) (m : Counts) (i j s : ℕ) → i < n → j < n → games_on n m Both i s ≡ 1 → games_on n m Both j s ≡ 1
    → 1 ≤ m i j s → (home_games n m i s ≡ 1) × (home_games n m j s ≡ 0)
meet n m i j s here there first second game =
    let at_home : m i j s ≤ home_games n m i s = term-le (λ k. m i k s) n j there in
    let away : m i j s ≤ away_games n m j s = term-le (λ k. m k j s) n i here in
    let one : home_games n m i s + away_games n m i s ≡ 1 = first in
    let other : home_games n m j s + away_games n m j s ≡ 1 = second in
    (omega arith, omega arith)

-- home and away games in a slot and in the one before, of a team that has one game in each and no break
flip : (a b c d : ℕ) → a + b ≡ 1 → c + d ≡ 1
    → one_if (nat_lt 0 a && nat_lt 0 c) + one_if (nat_lt 0 b && nat_lt 0 d) ≡ 0 → a + c ≡ 1
flip a b c d first second none = grind (arith, nat_tests)

-- the same of a team's games
flips : (f g : ℕ → ℕ) (s : ℕ) → f s + g s ≡ 1 → f (s + 1) + g (s + 1) ≡ 1
    → one_if (twice_in_a_row f (s + 1)) + one_if (twice_in_a_row g (s + 1)) ≡ 0 → f s + f (s + 1) ≡ 1
flips f g s first second none =
    let before : s + 1 - 1 ≡ s = omega arith in
    let late : nat_lt 0 (s + 1) ≡ true = grind (arith, nat_tests) in
    let count : (ℕ → ℕ) → ℕ → Bool → ℕ = λ h k b. one_if (b && nat_lt 0 (h k) && nat_lt 0 (h (s + 1))) in
    let home_is : one_if (twice_in_a_row f (s + 1)) ≡ one_if (nat_lt 0 (f s) && nat_lt 0 (f (s + 1))) =
    ap (λ (k : ℕ). count f k (nat_lt 0 (s + 1))) before ∙ ap (λ (b : Bool). count f s b) late in
    let away_is : one_if (twice_in_a_row g (s + 1)) ≡ one_if (nat_lt 0 (g s) && nat_lt 0 (g (s + 1))) =
    ap (λ (k : ℕ). count g k (nat_lt 0 (s + 1))) before ∙ ap (λ (b : Bool). count g s b) late in
    flip (f s) (g s) (f (s + 1)) (g (s + 1)) first second (omega arith)

-- whether a number of breaks is 0, and a number of home games in the first slot is x
abbrev begins : ℕ → ℕ → ℕ → Bool
begins x count first = (count == 0) && (first == x)

begins-no_break : (x count first : ℕ) → begins x count first ≡ true → count ≡ 0
begins-no_break x count first h = grind (arith, nat_tests)

begins-with : (x count first : ℕ) → begins x count first ≡ true → first ≡ x
begins-with x count first h = grind (arith, nat_tests)

-- a team has a break, or begins in one of two ways
covered : (count first : ℕ) → first ≤ 1
    → 1 ≤ one_if (nat_lt 0 count) + one_if (begins 0 count first) + one_if (begins 1 count first)
covered count first h = grind (arith, nat_tests)

module _ (n : ℕ) (m : Counts) (t : Stretch) (is : IsMet n m t) where
  -- the breaks of a team, and its home games in the slot at a distance from the first
  abbrev breaks : ℕ → ℕ
  breaks i = breaks_among n m Both (later_slots t) i

  abbrev home : ℕ → ℕ → ℕ
  home i d = home_games n m i (t.first + d)

  -- no break at a slot after the first
  none_at : (i d : ℕ) → breaks i ≡ 0 → d + 1 < t.count → breaks_at n m Both i (t.first + d + 1) ≡ 0
  none_at i d none below =
      let g : ℕ → ℕ = λ s. breaks_at n m Both i s in
      let place : t.first + 1 + d ≡ t.first + d + 1 = omega arith in
      omega (arith, none, term_in g (t.first + 1) (t.count - 1) d (omega (arith, below)), ap g place)

  -- a team without a break alternates
  alternates : (i d : ℕ) → i < n → breaks i ≡ 0 → d + 1 < t.count → home i d + home i (d + 1) ≡ 1
  alternates i d here none below =
      let place : t.first + (d + 1) ≡ t.first + d + 1 = omega arith in
      omega (
        arith,
        flips (home_games n m i) (away_games n m i) (t.first + d)
            (is.cells i (t.first + d) here (omega (arith, below)))
            (is.cells i (t.first + d + 1) here (omega (arith, below)))
            (none_at i d none below),
        ap (home_games n m i) place,
      )

  -- two teams without a break that begin alike go on alike
  alike : (i j : ℕ) → i < n → j < n → breaks i ≡ 0 → breaks j ≡ 0 → home i 0 ≡ home j 0 → (d : ℕ) → d < t.count
      → home i d ≡ home j d
  alike i j here there no_i no_j begin zero below = begin
  alike i j here there no_i no_j begin (suc d) below =
      let last : d + 1 ≡ suc d = omega arith in
      omega (
        arith,
        alike i j here there no_i no_j begin d (omega (arith, below)),
        alternates i d here no_i (omega (arith, below)),
        alternates j d there no_j (omega (arith, below)),
        ap (home i) last,
        ap (home j) last,
      )

  -- so they don't meet
  apart : (i j : ℕ) → i < n → j < n → breaks i ≡ 0 → breaks j ≡ 0 → home i 0 ≡ home j 0
      → 1 ≤ sum_by (λ s. m i j s) (range_with_len t.first t.count) → ⊥
  apart i j here there no_i no_j begin game =
      let found = some_term (λ d. m i j (t.first + d)) t.count
      (omega (arith, game, range_shifted (λ s. m i j s) t.first t.count)) in
      let d : ℕ = found.0 in
      let below : d < t.count = found.1.0 in
      let at = meet n m i j (t.first + d) here there (is.cells i (t.first + d) here (omega (arith, below)))
      (is.cells j (t.first + d) there (omega (arith, below))) found.1.1 in
      let same : home i d ≡ home j d = alike i j here there no_i no_j begin d below in
      omega (arith, at.0, at.1, same)

  begin_apart : (i j : ℕ) → i < j → j < n → breaks i ≡ 0 → breaks j ≡ 0 → home i 0 ≡ home j 0 → ⊥
  begin_apart i j order there no_i no_j begin =
      let games : ℕ → ℕ → ℕ = λ a b. sum_by (λ s. m a b s) (range_with_len t.first t.count) in
      let here : i < n = omega (arith, order, there) in
      let either : (1 ≤ games i j) ⊎ (1 ≤ games j i) =
      one_of_two (games i j) (games j i) (omega (arith, is.pairs i j order there)) in
      elim either [
        | inl game ↦ apart i j here there no_i no_j begin game
        | inr game ↦ apart j i there here no_j no_i (omega (arith, begin)) game
      ]

  -- at most one team without a break begins so
  one_begins : (x : ℕ) → sum_by (λ i. one_if (begins x (breaks i) (home i 0))) (teams_of n) ≤ 1
  one_begins x =
      count-at_most_one (λ i. begins x (breaks i) (home i 0)) n
      (λ i j order there first second.
      begin_apart i j order there (begins-no_break x (breaks i) (home i 0) first)
      (begins-no_break x (breaks j) (home j 0) second)
      (omega (
        arith,
        begins-with x (breaks i) (home i 0) first,
        begins-with x (breaks j) (home j 0) second,
      )))

  -- all teams but two have a break
  pub all_but_two : n - 2 ≤ sum_by (λ i. one_if (nat_lt 0 (breaks_among n m Both (later_slots t) i))) (teams_of n)
  all_but_two =
      let with_break : ℕ → ℕ = λ i. one_if (nat_lt 0 (breaks i)) in
      let away_first : ℕ → ℕ = λ i. one_if (begins 0 (breaks i) (home i 0)) in
      let home_first : ℕ → ℕ = λ i. one_if (begins 1 (breaks i) (home i 0)) in
      let at_most_one : (i : ℕ) → i < n → home i 0 ≤ 1 =
      λ i here.
      (let one : home_games n m i (t.first + 0) + away_games n m i (t.first + 0) ≡ 1 =
      is.cells i (t.first + 0) here (omega (arith, is.some)) in
      omega (arith, one)) in
      let all : n ≤ sum_by (λ i. with_break i + away_first i + home_first i) (teams_of n) =
      sum_by-at_least (λ i. with_break i + away_first i + home_first i) n
      (λ i here. covered (breaks i) (home i 0) (at_most_one i here)) in
      omega (
        arith,
        all,
        sum_by-add (λ i. with_break i + away_first i) home_first (teams_of n),
        sum_by-add with_break away_first (teams_of n),
        one_begins 0,
        one_begins 1,
      )
