-- Games that are decoded from values of an accepted schedule: they fit, and there are few. Games that change places.
use Rattle.std.proofs.Common.{◌≡◌, ◌≢◌, ℕ, ◌+◌, ◌*◌, ◌<◌, ◌≤◌, Bool, not, ◌==◌, List, [], ◌∷◌, length, map}
use Rattle.std.proofs.Common.{if◌then◌else◌, refl, arith, ap, sym, subst, ◌∙◌, inl, inr, true}
use Rattle.std.specs.List.{All, sum_by}
use Rattle.std.proofs.lemmas.Bool.{cases_eq}
use Rattle.std.proofs.lemmas.Bool.Decides.{nat_tests}
use Rattle.std.proofs.lemmas.List.Elements.{All-filter, All-map, All-weaker}
use Rattle.std.proofs.lemmas.List.FromFn.{length-range_with_len}
use Rattle.std.proofs.lemmas.List.Sums.{AllPass-from_list_all, sum_by-cons, sum_by-le}
use Rattle.league.specs.Counts.{counts_of, slot_count, slots_of, teams_of}
use Rattle.league.specs.Instance.{IsGame, is_meeting}
use Rattle.league.specs.Meetings.{games_of, meetings_of}
use Rattle.league.specs.Structure.{pairs_wrong}
use Rattle.league.specs.declared.game.Game.{Game}
use Rattle.league.proofs.MeetingLemmas.{sum_by-meetings_of}
use Rattle.league.proofs.RangeLemmas.{one_if}
use Rattle.league.proofs.RoundRobinLemmas.{meets_once}
use Rattle.league.proofs.SumLemmas.{sum_by-filter, sum_by-flat_map, sum_by-map, sum_by-same}
use Rattle.league.proofs.OneTermLemmas.{All-flat_map, All-range, sum_by-range_same, sum_by-swap}
use Rattle.encoding.specs.Shadow.{all_games, decoded, game_of}
use Rattle.encoding.specs.Variables.{x_var}
use Rattle.decoding.proofs.DecodedCounts.{counts_of-decoded_game}
use Rattle.decoding.proofs.MeetingLists.{meeting_parts, meetings_of-fit}

pub ones : {X : Type 0} (xs : List X) → sum_by (λ x. 1) xs ≡ length xs
ones {X} [] = refl
ones {X} (x ∷ xs) = omega (arith, ones xs, sum_by-cons (λ (y : X). 1) x xs)

-- ---- they are few

-- whether the variable of a game is true, as a number
abbrev there : ℕ → (ℕ → Bool) → ℕ × ℕ → ℕ → ℕ
there n values p t = one_if (values (x_var n p.0 p.1 t))

length-decoded : (n : ℕ) (values : ℕ → Bool)
    → length (decoded n values) ≡ sum_by (λ p. sum_by (λ t. there n values p t) (slots_of n)) (meetings_of n)
length-decoded n values =
    let kept : Game → ℕ = λ g. if values (x_var n g.home.0 g.away.0 g.slot.0) then 1 else 0 in
    sym (ones (decoded n values))
    ∙ sum_by-filter (λ g. 1) (λ g. values (x_var n g.home.0 g.away.0 g.slot.0)) (all_games n)
    ∙ sum_by-flat_map kept (λ t. map (λ p. game_of p t) (meetings_of n)) (slots_of n)
    ∙ sum_by-same (λ t. sum_by kept (map (λ p. game_of p t) (meetings_of n)))
    (λ t. sum_by (λ p. there n values p t) (meetings_of n))
    (λ t. sum_by-map kept (λ p. game_of p t) (meetings_of n)) (slots_of n)
    ∙ sum_by-swap (λ t p. there n values p t) (slots_of n) (meetings_of n)

meeting_once : (n i j : ℕ) (values : ℕ → Bool) → pairs_wrong n (counts_of (decoded n values)) ≡ 0
    → i < n → j < n → i ≢ j → sum_by (λ t. there n values (i, j) t) (slots_of n) ≤ 1
meeting_once n i j values right home away differ =
    let same : sum_by (λ t. there n values (i, j) t) (slots_of n)
    ≡ sum_by (λ t. counts_of (decoded n values) i j t) (slots_of n) =
    sum_by-range_same (λ t. there n values (i, j) t) (λ t. counts_of (decoded n values) i j t) 0 (slot_count n)
    (λ t from below. sym (counts_of-decoded_game n values i j t home away differ (omega (arith, below)))) in
    let once : games_of (counts_of (decoded n values)) ((i, j) ∷ []) (slots_of n) ≡ 1 =
    meets_once n (counts_of (decoded n values)) i j right home away differ in
    let alone : 0 + sum_by (λ t. counts_of (decoded n values) i j t) (slots_of n) ≡ 1 = once in
    omega (arith, same, alone)

other_most : (i j x : ℕ) → x ≤ 1 → (if not (j == i) then x else 0) ≤ 1
other_most i j x most = grind (arith, nat_tests)

same_none : (i j x : ℕ) → i ≡ j → (if not (j == i) then x else 0) ≤ 1
same_none i j x same = grind (arith, nat_tests)

other_team : (i j x : ℕ) → (i ≢ j → x ≤ 1) → (if not (j == i) then x else 0) ≤ 1
other_team i j x most =
    elim (cases_eq i j) [
      | inl same ↦ same_none i j x same
      | inr differ ↦ other_most i j x (most differ)
    ]

pub few_games : (n : ℕ) (values : ℕ → Bool) → n ≤ 40 → pairs_wrong n (counts_of (decoded n values)) ≡ 0
    → length (decoded n values) ≤ 1600
few_games n values most right =
    let count : ℕ × ℕ → ℕ = λ p. sum_by (λ t. there n values p t) (slots_of n) in
    let term : ℕ → ℕ → ℕ = λ i j. if not (j == i) then count (i, j) else 0 in
    let teams : length (teams_of n) ≡ n = length-range_with_len 0 n in
    let row : (i : ℕ) → i < n → sum_by (term i) (teams_of n) ≤ 40 =
    λ i home. omega (
      arith,
      sum_by-le (term i) 1 (teams_of n) (All-range (λ j. term i j ≤ 1) 0 n (λ j from below.
          other_team i j (count (i, j)) (λ differ. meeting_once n i j values right home (omega (arith, below)) differ))),
      teams,
    ) in
    let all : sum_by (λ i. sum_by (term i) (teams_of n)) (teams_of n) ≤ length (teams_of n) * 40 =
    sum_by-le (λ i. sum_by (term i) (teams_of n)) 40 (teams_of n)
    (All-range (λ i. sum_by (term i) (teams_of n) ≤ 40) 0 n (λ i from below. row i (omega (arith, below)))) in
    omega (arith, length-decoded n values, sum_by-meetings_of count n, all, teams, most)

-- ---- they fit

game_fits : (n s : ℕ) (p : ℕ × ℕ) → s < slot_count n → is_meeting n p ≡ true → IsGame n (game_of p s)
game_fits n s p slot meet =
    let parts = meeting_parts n p meet in
    record { home = parts.0; away = parts.1; differ = parts.2; slot = slot }

pub decoded_fit : (n : ℕ) (values : ℕ → Bool) → All (IsGame n) (decoded n values)
decoded_fit n values =
    All-filter (λ g. values (x_var n g.home.0 g.away.0 g.slot.0)) (IsGame n) (all_games n)
    (All-flat_map (IsGame n) (λ s. map (λ p. game_of p s) (meetings_of n)) (slots_of n)
    (All-range (λ s. All (IsGame n) (map (λ p. game_of p s) (meetings_of n))) 0 (slot_count n)
    (λ s from below. All-map (IsGame n) (λ p. game_of p s) (meetings_of n)
    (All-weaker (λ p. is_meeting n p ≡ true) (λ p. IsGame n (game_of p s))
    (λ p meet. game_fits n s p (omega (arith, below)) meet) (meetings_of n)
    (AllPass-from_list_all (is_meeting n) (meetings_of n) (meetings_of-fit n))))))

-- ---- the games of accepted values

pub accepted_few : (n : ℕ) (values : ℕ → Bool) (games : List Game) → games ≡ decoded n values → n ≤ 40
    → pairs_wrong n (counts_of games) ≡ 0 → length games ≤ 10000
accepted_few n values games is most right =
    let decoded_right : pairs_wrong n (counts_of (decoded n values)) ≡ 0 =
    subst (λ (gs : List Game). pairs_wrong n (counts_of gs) ≡ 0) is right in
    omega (arith, ap (λ (gs : List Game). length gs) is, few_games n values most decoded_right)

pub accepted_fit : (n : ℕ) (values : ℕ → Bool) (games : List Game) → games ≡ decoded n values → All (IsGame n) games
accepted_fit n values games is = subst (λ (gs : List Game). All (IsGame n) gs) (sym is) (decoded_fit n values)
