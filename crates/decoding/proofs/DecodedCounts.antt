-- How often each game stands in the decoding of an assignment: once where its variable is true, and else never.
use Rattle.std.proofs.Common.{◌≡◌, ◌≢◌, ℕ, zero, suc, ◌+◌, ◌<◌, Bool, not, ◌&&◌, ◌==◌, nat_lt, map}
use Rattle.std.proofs.Common.{if◌then◌else◌, arith, ap, ◌∙◌, inl, inr}
use Rattle.std.proofs.lemmas.Bool.{cases_eq}
use Rattle.std.proofs.lemmas.Bool.Decides.{nat_tests}
use Rattle.std.specs.List.{range_with_len, sum_by}
use Rattle.league.specs.Counts.{counts_of, is_game, slot_count, slots_of, teams_of}
use Rattle.league.specs.Meetings.{meetings_of}
use Rattle.league.specs.declared.game.Game.{Game}
use Rattle.league.proofs.MeetingLemmas.{sum_by-meetings_of}
use Rattle.league.proofs.RangeLemmas.{one_if, sum_by-range_more}
use Rattle.league.proofs.SumLemmas.{sum_by-filter, sum_by-flat_map, sum_by-map, sum_by-same}
use Rattle.encoding.specs.Shadow.{all_games, decoded, game_of}
use Rattle.encoding.specs.Variables.{x_var}

-- one number more, which is j or isn't
picked_here : (g j k so_far more : ℕ) → k ≡ j → so_far ≡ (if nat_lt j k then g else 0) → more ≡ so_far + g →
    more ≡ (if nat_lt j (suc k) then g else 0)
picked_here g j k so_far more e sum step = grind (arith, nat_tests)

picked_past : (g j k so_far more : ℕ) → k ≢ j → so_far ≡ (if nat_lt j k then g else 0) → more ≡ so_far + 0 →
    more ≡ (if nat_lt j (suc k) then g else 0)
picked_past g j k so_far more e sum step = grind (arith, nat_tests)

-- a sum over the numbers below k, of which at most the term of j isn't 0
pub pick : (f : ℕ → ℕ) (j k : ℕ) → ((i : ℕ) → i ≢ j → f i ≡ 0) →
    sum_by f (range_with_len 0 k) ≡ (if nat_lt j k then f j else 0)
pick f j zero none = grind (arith, nat_tests)
pick f j (suc k) none =
    let up_to : ℕ → ℕ = λ l. sum_by f (range_with_len 0 l) in
    let last : k + 1 ≡ suc k = omega arith in
    let here : f (0 + k) ≡ f k = ap f (omega arith) in
    let step : up_to (suc k) ≡ up_to k + f k = omega (arith, sum_by-range_more f 0 k, ap up_to last, here) in
    elim (cases_eq k j) [
      | inl same ↦ picked_here (f j) j k (up_to k) (up_to (suc k)) same (pick f j k none)
          (omega (arith, step, ap f same))
      | inr differ ↦ picked_past (f j) j k (up_to k) (up_to (suc k)) differ (pick f j k none)
          (omega (arith, step, none k differ))
    ]

-- the game of a at home to b in slot t, as often as it stands among the games that are chosen
abbrev chosen : (ℕ → ℕ → ℕ → Bool) → ℕ → ℕ → ℕ → ℕ → ℕ → ℕ → ℕ
chosen v i j s a b t = if not (b == a) then (if v a b t then one_if ((a == i) && (b == j) && (t == s)) else 0) else 0

other_away : (v : Bool) (i j s a b t : ℕ) → b ≢ j →
    (if not (b == a) then (if v then one_if ((a == i) && (b == j) && (t == s)) else 0) else 0) ≡ 0
other_away v i j s a b t differ = grind (arith, nat_tests)

other_home : (v : Bool) (i j s a t below : ℕ) → a ≢ i →
    (if nat_lt j below then (if not (j == a) then (if v then one_if ((a == i) && (j == j) && (t == s)) else 0) else
    0) else 0) ≡ 0
other_home v i j s a t below differ = grind (arith, nat_tests)

other_slot : (v : Bool) (i j s t below : ℕ) → t ≢ s →
    (if nat_lt i below then (if nat_lt j below then
    (if not (j == i) then (if v then one_if ((i == i) && (j == j) && (t == s)) else 0) else 0) else 0) else 0) ≡ 0
other_slot v i j s t below differ = grind (arith, nat_tests)

all_tests : (v : Bool) (i j s below slots : ℕ) → (if nat_lt s slots then
    (if nat_lt i below then (if nat_lt j below then
    (if not (j == i) then (if v then one_if ((i == i) && (j == j) && (s == s)) else 0) else 0) else 0) else 0) else 0)
    ≡ one_if (v && not (j == i) && nat_lt j below && nat_lt i below && nat_lt s slots)
all_tests v i j s below slots = grind (arith, nat_tests)

-- of three loops the one game is picked
picked : (v : ℕ → ℕ → ℕ → Bool) (n slots i j s : ℕ) →
    sum_by (λ t. sum_by (λ a. sum_by (λ b. chosen v i j s a b t) (teams_of n)) (teams_of n)) (range_with_len 0 slots)
    ≡ one_if (v i j s && not (j == i) && nat_lt j n && nat_lt i n && nat_lt s slots)
picked v n slots i j s =
    let of_away : ℕ → ℕ → ℕ = λ t a. if nat_lt j n then chosen v i j s a j t else 0 in
    let of_home : ℕ → ℕ = λ t. if nat_lt i n then of_away t i else 0 in
    let away : (t a : ℕ) → sum_by (λ b. chosen v i j s a b t) (teams_of n) ≡ of_away t a =
    λ t a. pick (λ b. chosen v i j s a b t) j n (λ b differ. other_away (v a b t) i j s a b t differ) in
    let home : (t : ℕ) → sum_by (of_away t) (teams_of n) ≡ of_home t =
    λ t. pick (of_away t) i n (λ a differ. other_home (v a j t) i j s a t n differ) in
    sum_by-same (λ t. sum_by (λ a. sum_by (λ b. chosen v i j s a b t) (teams_of n)) (teams_of n)) of_home
    (λ t. sum_by-same (λ a. sum_by (λ b. chosen v i j s a b t) (teams_of n)) (of_away t) (away t) (teams_of n) ∙ home
    t) (range_with_len 0 slots)
    ∙ pick of_home s slots (λ t differ. other_slot (v i j t) i j s t n differ)
    ∙ all_tests (v i j s) i j s n slots

pub counts_of-decoded : (n : ℕ) (values : ℕ → Bool) (i j s : ℕ) → counts_of (decoded n values) i j s
    ≡ one_if (values (x_var n i j s) && not (j == i) && nat_lt j n && nat_lt i n && nat_lt s (slot_count n))
counts_of-decoded n values i j s =
    let v : ℕ → ℕ → ℕ → Bool = λ a b t. values (x_var n a b t) in
    let kept : Game → ℕ = λ g. if v g.home.0 g.away.0 g.slot.0 then one_if (is_game i j s g) else 0 in
    let in_slot : (t : ℕ) → sum_by kept (map (λ p. game_of p t) (meetings_of n)) ≡ sum_by
    (λ a. sum_by (λ b. chosen v i j s a b t) (teams_of n)) (teams_of n) =
    λ t. sum_by-map kept (λ p. game_of p t) (meetings_of n) ∙ sum_by-meetings_of (λ p. kept (game_of p t)) n in
    sum_by-filter (λ g. one_if (is_game i j s g)) (λ g. v g.home.0 g.away.0 g.slot.0) (all_games n)
    ∙ sum_by-flat_map kept (λ t. map (λ p. game_of p t) (meetings_of n)) (slots_of n)
    ∙ sum_by-same (λ t. sum_by kept (map (λ p. game_of p t) (meetings_of n)))
    (λ t. sum_by (λ a. sum_by (λ b. chosen v i j s a b t) (teams_of n)) (teams_of n)) in_slot (slots_of n)
    ∙ picked v n (slot_count n) i j s

in_range : (v : Bool) (i j s n slots : ℕ) → i < n → j < n → i ≢ j → s < slots →
    one_if (v && not (j == i) && nat_lt j n && nat_lt i n && nat_lt s slots) ≡ one_if v
in_range v i j s n slots home away differ slot = grind (arith, nat_tests)

-- a game that can take place stands there where its variable is true
pub counts_of-decoded_game : (n : ℕ) (values : ℕ → Bool) (i j s : ℕ) → i < n → j < n → i ≢ j → s < slot_count n →
    counts_of (decoded n values) i j s ≡ one_if (values (x_var n i j s))
counts_of-decoded_game n values i j s home away differ slot =
    counts_of-decoded n values i j s ∙ in_range (values (x_var n i j s)) i j s n (slot_count n) home away differ slot

no_game : (v : Bool) (i s n slots : ℕ) → one_if (v && not (i == i) && nat_lt i n && nat_lt i n && nat_lt s slots) ≡ 0
no_game v i s n slots = grind (arith, nat_tests)

-- no team plays against itself
pub counts_of-decoded_itself : (n : ℕ) (values : ℕ → Bool) (i s : ℕ) → counts_of (decoded n values) i i s ≡ 0
counts_of-decoded_itself n values i s = counts_of-decoded n values i i s ∙ no_game (values (x_var n i i s)) i s n
    (slot_count n)
