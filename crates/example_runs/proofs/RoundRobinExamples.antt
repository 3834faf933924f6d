-- Single and double round robins of two teams, and others.
use Rattle.std.proofs.Common.{lit<, ◌≡◌, ℕ, zero, suc, ◌<◌, Bool, true, false, List, []}
use Rattle.std.proofs.Common.{◌∷◌}
use Rattle.std.proofs.Common.{arith, refl}
use Rattle.std.proofs.lemmas.List.Elements.{All-from_recursion}
use Rattle.league.specs.Breaks.{all_breaks}
use Rattle.league.specs.Counts.{counts_of}
use Rattle.league.specs.Meetings.{games_of}
use Rattle.league.specs.Structure.{IsPlayedOnce, first_half}
use Rattle.league.specs.Venues.{games_on}
use Rattle.league.specs.declared.class.Side.TheVariants.{H, A, Both}
use Rattle.league.specs.declared.game.Game.{Game}
use Rattle.league.proofs.DoubleFour.{game}
use Rattle.circle_method.specs.Breaks.{HasFewBreaks}
use Rattle.circle_method.specs.SingleRoundRobin.{IsSingleGame, IsSingleRoundRobin}
use Rattle.patterns.specs.PatternSet.{pattern_in}
use Rattle.example_runs.proofs.LeastExamples.{one_first}
use Rattle.example_runs.proofs.LeastExamples.{zero_first}

-- ---- round robins of two teams

pub single-game : IsSingleGame 2 (game 1 0 0)
single-game =
    record { home = lit< tt; away = lit< tt; differ = λ same. omega (arith, same); slot = lit< tt }

one_below : (n : ℕ) → n ≡ 1 → n < 1 → ⊥
one_below n one below = omega (arith, one, below)

-- there is one slot, and a team doesn't play itself
pub single-late : (IsSingleGame 2 (game 0 1 1) → ⊥) × (IsSingleGame 2 (game 0 0 0) → ⊥)
single-late = (λ is. one_below 1 refl is.slot, λ is. is.differ refl)

two_below : (n : ℕ) → n ≡ 2 → n < 2 → ⊥
two_below n two below = omega (arith, two, below)

pub single-third : (IsSingleGame 2 (game 2 0 0) → ⊥) × (IsSingleGame 2 (game 0 2 0) → ⊥)
single-third = (λ is. two_below 2 refl is.home, λ is. two_below 2 refl is.away)

meets-once : (i j : ℕ) → i < j → j < 2
    → games_of (counts_of (game 0 1 0 ∷ [])) ((i, j) ∷ (j, i) ∷ []) (first_half 2) ≡ 1
meets-once zero (suc zero) before team = refl
meets-once zero zero before team = absurd (omega (arith, before))
meets-once zero (suc (suc j)) before team = absurd (omega (arith, team))
meets-once (suc i) zero before team = absurd (omega (arith, before))
meets-once (suc i) (suc zero) before team = absurd (omega (arith, before))
meets-once (suc i) (suc (suc j)) before team = absurd (omega (arith, team))

plays-once : (i s : ℕ) → i < 2 → s < 1 → games_on 2 (counts_of (game 0 1 0 ∷ [])) Both i s ≡ 1
plays-once zero zero team slot = refl
plays-once (suc zero) zero team slot = refl
plays-once (suc (suc i)) zero team slot = absurd (omega (arith, team))
plays-once i (suc s) team slot = absurd (omega (arith, slot))

-- either team may be at home
pub single-either : IsSingleRoundRobin 2 (game 0 1 0 ∷ [])
single-either = record {
  fit = All-from_recursion (IsSingleGame 2) (game 0 1 0 ∷ []) (
    record { home = lit< tt; away = lit< tt; differ = λ same. omega (arith, same); slot = lit< tt },
    tt,
  );
  pairs = meets-once;
  cells = plays-once;
}

two_one : (n : ℕ) → n ≡ 2 → n ≡ 1 → ⊥
two_one n two one = omega (arith, two, one)

pub single-twice : IsSingleRoundRobin 2 (game 0 1 0 ∷ game 1 0 0 ∷ []) → ⊥
single-twice is = two_one 2 refl (is.pairs 0 1 (lit< tt) (lit< tt))

-- a game in a slot behind the last counts nowhere, and doesn't fit
pub single-behind : IsSingleRoundRobin 2 (game 0 1 0 ∷ game 1 0 1 ∷ []) → ⊥
single-behind is = one_below 1 refl (is.fit 1 (game 0 1 0) (lit< tt)).slot

-- the patterns of the game of two teams are H and A, which differ, with no break
home_away : H ∷ [] ≡ A ∷ [] → ⊥
home_away is = cc

pub single-patterns : pattern_in 2 (counts_of (game 0 1 0 ∷ [])) (first_half 2) 0
    ≡ pattern_in 2 (counts_of (game 0 1 0 ∷ [])) (first_half 2) 1 → ⊥
single-patterns same = home_away same

pub single-breaks : all_breaks 2 (counts_of (game 0 1 0 ∷ [])) (0 ∷ 1 ∷ []) (first_half 2) ≡ 0
single-breaks = refl

-- halves of one slot have no breaks, and that between them counts in neither
pub few-two : HasFewBreaks 2 (counts_of (game 0 1 0 ∷ game 0 1 1 ∷ [])) × HasFewBreaks 2 (counts_of one_first)
few-two = (record { first = refl; second = refl }, record { first = refl; second = refl })

-- four teams: team 3 is at home throughout, team 1 away at the end twice, and team 0 at the beginning
abbrev many : List Game
many = game 3 0 0 ∷ game 1 2 0 ∷ game 3 1 1 ∷ game 2 0 1 ∷ game 3 2 2 ∷ game 0 1 2 ∷ []

four_two : (n : ℕ) → n ≡ 4 → n ≡ 2 → ⊥
four_two n four two = omega (arith, four, two)

pub few-four : HasFewBreaks 4 (counts_of many) → ⊥
few-four is = four_two 4 refl is.first

-- the games of the four teams three slots later
abbrev later : List Game
later = game 3 0 3 ∷ game 1 2 3 ∷ game 3 1 4 ∷ game 2 0 4 ∷ game 3 2 5 ∷ game 0 1 5 ∷ []

pub few-later : HasFewBreaks 4 (counts_of later) → ⊥
few-later is = four_two 4 refl is.second

-- ---- a double round robin of two teams, and others

meetings-two : (i j : ℕ) → i < 2 → j < 2 → (i ≡ j → ⊥) → games_of (counts_of zero_first) ((i, j) ∷ []) (0 ∷ 1 ∷ []) ≡ 1
meetings-two zero zero here there differ = absurd (differ refl)
meetings-two zero (suc zero) here there differ = refl
meetings-two (suc zero) zero here there differ = refl
meetings-two (suc zero) (suc zero) here there differ = absurd (differ refl)
meetings-two (suc (suc i)) j here there differ = absurd (omega (arith, here))
meetings-two i (suc (suc j)) here there differ = absurd (omega (arith, there))

cells-two : (i s : ℕ) → i < 2 → s < 2 → games_on 2 (counts_of zero_first) Both i s ≡ 1
cells-two zero zero team slot = refl
cells-two zero (suc zero) team slot = refl
cells-two (suc zero) zero team slot = refl
cells-two (suc zero) (suc zero) team slot = refl
cells-two (suc (suc i)) s team slot = absurd (omega (arith, team))
cells-two i (suc (suc s)) team slot = absurd (omega (arith, slot))

halves-two : (i j : ℕ) → i < j → j < 2 → games_of (counts_of zero_first) ((i, j) ∷ (j, i) ∷ []) (first_half 2) ≡ 1
halves-two zero (suc zero) before team = refl
halves-two zero zero before team = absurd (omega (arith, before))
halves-two zero (suc (suc j)) before team = absurd (omega (arith, team))
halves-two (suc i) zero before team = absurd (omega (arith, before))
halves-two (suc i) (suc zero) before team = absurd (omega (arith, before))
halves-two (suc i) (suc (suc j)) before team = absurd (omega (arith, team))

pub played-once : IsPlayedOnce 2 true (counts_of zero_first)
played-once = record { meetings = meetings-two; cells = cells-two; halves = λ phased. halves-two }

pub played-twice : (phased : Bool) → IsPlayedOnce 2 phased (counts_of (game 0 1 0 ∷ game 0 1 1 ∷ [])) → ⊥
played-twice phased is = two_one 2 refl (is.meetings 0 1 (lit< tt) (lit< tt) (λ same. omega (arith, same)))

-- both games in slot 0, and both in slot 1
none_one : (n : ℕ) → n ≡ 0 → n ≡ 1 → ⊥
none_one n none one = omega (arith, none, one)

pub played-together : (IsPlayedOnce 2 false (counts_of (game 0 1 0 ∷ game 1 0 0 ∷ [])) → ⊥)
    × (IsPlayedOnce 2 true (counts_of (game 0 1 1 ∷ game 1 0 1 ∷ [])) → ⊥)
played-together = (
  λ is. two_one 2 refl (is.cells 0 0 (lit< tt) (lit< tt)),
  λ is. none_one 0 refl (is.halves refl 0 1 (lit< tt) (lit< tt)),
)
