-- The single circle schedule is the first half of the double one: a single round robin with n - 2 breaks.
use Rattle.std.proofs.Common.{◌≡◌, ℕ, ◌+◌, ◌-◌, ◌*◌, ◌/◌, ◌<◌, ◌&&◌, ◌==◌, nat_lt, List, [], ◌∷◌, length, arith, ap, ◌∙◌, subst, sym}
use Rattle.std.proofs.lemmas.List.Elements.{All-weaker}
use Rattle.std.specs.List.{sum_by}
use Rattle.league.specs.Breaks.{all_breaks, breaks_among, breaks_at, twice_in_a_row}
use Rattle.league.specs.Counts.{counts_of, is_game, teams_of}
use Rattle.league.specs.Meetings.{games_of}
use Rattle.league.specs.Structure.{first_half}
use Rattle.league.specs.Instance.{IsTeamCount}
use Rattle.league.specs.Venues.{away_games, games_on, home_games}
use Rattle.league.specs.declared.class.Side.TheVariants.{Both}
use Rattle.league.specs.declared.game.Game.{Game}
use Rattle.league.proofs.RangeLemmas.{one_if}
use Rattle.league.proofs.SumLemmas.{sum_by-same}
use Rattle.circle_method.specs.Circle.{single_games, return_game, double_games}
use Rattle.circle_method.specs.SingleRoundRobin.{IsSingleGame, IsSingleRoundRobin}
use Rattle.circle_method.proofs.BreakLemmas.{HasFewBreaks-double_games}
use Rattle.circle_method.proofs.GameLemmas.{IsEarly, IsEarly-single_games}
use Rattle.circle_method.proofs.MeetingLemmas.{half-once}
use Rattle.league.proofs.OneTermLemmas.{sum_by-all_none, sum_by-range_same}
use Rattle.circle_method.proofs.RoundRobinLemmas.{cell, length-single_games}
use Rattle.circle_method.proofs.VenueLemmas.{not_in_slot, sum_by-double_games}

-- in the first half both schedules have the same games
count-first : (n i j s : ℕ) → s < n - 1 → counts_of (double_games n) i j s ≡ counts_of (single_games n) i j s
count-first n i j s early =
    let f : Game → ℕ = λ g. one_if (is_game i j s g) in
    let later : sum_by (λ g. f (return_game n g)) (single_games n) ≡ 0 =
    sum_by-all_none (λ g. Unit {0}) (λ g. f (return_game n g)) (λ g _. not_in_slot ((g.away.0 == i) && (g.home.0 == j)) (g.slot.0 + (n - 1)) s (λ e. omega arith)) (single_games n) (λ k d _. tt) in
    omega (arith, sum_by-double_games f n, later)

-- in the first half each team plays at the same venues by both schedules
home_games-single : (n i s : ℕ) → s < n - 1 → home_games n (counts_of (double_games n)) i s ≡ home_games n (counts_of (single_games n)) i s
home_games-single n i s early = sum_by-same (λ j. counts_of (double_games n) i j s) (λ j. counts_of (single_games n) i j s) (λ j. count-first n i j s early) (teams_of n)

away_games-single : (n i s : ℕ) → s < n - 1 → away_games n (counts_of (double_games n)) i s ≡ away_games n (counts_of (single_games n)) i s
away_games-single n i s early = sum_by-same (λ j. counts_of (double_games n) j i s) (λ j. counts_of (single_games n) j i s) (λ j. count-first n j i s early) (teams_of n)

-- a meeting takes place as often
meeting-single : (n i j : ℕ) → sum_by (λ s. counts_of (double_games n) i j s) (first_half n) ≡ sum_by (λ s. counts_of (single_games n) i j s) (first_half n)
meeting-single n i j = sum_by-range_same (λ s. counts_of (double_games n) i j s) (λ s. counts_of (single_games n) i j s) 0 (n - 1) (λ s low high. count-first n i j s (omega arith))

pairs : (n i j : ℕ) → IsTeamCount n → i < j → j < n → games_of (counts_of (single_games n)) ((i, j) ∷ (j, i) ∷ []) (first_half n) ≡ 1
pairs n i j size earlier team =
    omega (arith, meeting-single n i j, meeting-single n j i, half-once n i j size (omega arith) team (λ e. omega arith))

cells : (n i s : ℕ) → IsTeamCount n → i < n → s < n - 1 → games_on n (counts_of (single_games n)) Both i s ≡ 1
cells n i s size team slot = omega (arith, home_games-single n i s slot, away_games-single n i s slot, cell n i s size team (omega arith))

IsSingleGame-early : (n : ℕ) (g : Game) → IsEarly n g → IsSingleGame n g
IsSingleGame-early n g early = record { home = early.game.home; away = early.game.away; differ = early.game.differ; slot = early.slot }

-- the single circle schedule is a single round robin
IsSingleRoundRobin-single_games : (n : ℕ) → IsTeamCount n → IsSingleRoundRobin n (single_games n)
IsSingleRoundRobin-single_games n size = record {
  fit = All-weaker (IsEarly n) (IsSingleGame n) (IsSingleGame-early n) (single_games n) (IsEarly-single_games n size);
  pairs = λ i j earlier team. pairs n i j size earlier team;
  cells = λ i s team slot. cells n i s size team slot;
}

-- a break that the counts of both schedules tell
twice-same : (f g : ℕ → ℕ) (s : ℕ) → f (s - 1) ≡ g (s - 1) → f s ≡ g s → one_if (twice_in_a_row f s) ≡ one_if (twice_in_a_row g s)
twice-same f g s before now =
    ap (λ (x : ℕ). one_if (nat_lt 0 s && nat_lt 0 x && nat_lt 0 (f s))) before ∙ ap (λ (x : ℕ). one_if (nat_lt 0 s && nat_lt 0 (g (s - 1)) && nat_lt 0 x)) now

breaks_at-single : (n i s : ℕ) → s < n - 1 → breaks_at n (counts_of (double_games n)) Both i s ≡ breaks_at n (counts_of (single_games n)) Both i s
breaks_at-single n i s early =
    let before : s - 1 < n - 1 = omega arith in
    let double = counts_of (double_games n) in
    let single = counts_of (single_games n) in
    omega (
      arith,
      twice-same (home_games n double i) (home_games n single i) s (home_games-single n i (s - 1) before) (home_games-single n i s early),
      twice-same (away_games n double i) (away_games n single i) s (away_games-single n i (s - 1) before) (away_games-single n i s early),
    )

-- the single circle schedule has n - 2 breaks
breaks : (n : ℕ) → IsTeamCount n → all_breaks n (counts_of (single_games n)) (teams_of n) (first_half n) ≡ n - 2
breaks n size =
    let each : all_breaks n (counts_of (double_games n)) (teams_of n) (first_half n) ≡ all_breaks n (counts_of (single_games n)) (teams_of n) (first_half n) =
    sum_by-same (breaks_among n (counts_of (double_games n)) Both (first_half n)) (breaks_among n (counts_of (single_games n)) Both (first_half n))
    (λ i. sum_by-range_same (λ t. breaks_at n (counts_of (double_games n)) Both i t) (λ t. breaks_at n (counts_of (single_games n)) Both i t) 0 (n - 1) (λ t low high. breaks_at-single n i t (omega arith))) (teams_of n) in
    omega (arith, each, (HasFewBreaks-double_games n size).first)

-- the laws of a list of games that is the single circle schedule
pub single_round_robin_of : (n : ℕ) (games : List Game) → IsTeamCount n → games ≡ single_games n → IsSingleRoundRobin n games
single_round_robin_of n games size is =
    let P : List Game → Type 0 = λ xs. IsSingleRoundRobin n xs in
    subst P (sym is) (IsSingleRoundRobin-single_games n size)

pub single_breaks_of : (n : ℕ) (games : List Game) → IsTeamCount n → games ≡ single_games n → all_breaks n (counts_of games) (teams_of n) (first_half n) ≡ n - 2
single_breaks_of n games size is =
    let P : List Game → Type 0 = λ xs. all_breaks n (counts_of xs) (teams_of n) (first_half n) ≡ n - 2 in
    subst P (sym is) (breaks n size)

pub single_count_of : (n : ℕ) (games : List Game) → IsTeamCount n → games ≡ single_games n → length games ≡ (n - 1) * (n / 2)
single_count_of n games size is = ap length is ∙ length-single_games n size
