-- Groups 5 and 6 follow from the others: in a double round robin half of the teams play at home in each slot, and
-- each team plays at home in half of its games.
use Rattle.std.proofs.Common.{◌≡◌, ◌≢◌, ℕ, ◌+◌, ◌-◌, ◌/◌, ◌<◌, Bool, true, not, ◌==◌, nat_lt, List, []}
use Rattle.std.proofs.Common.{◌∷◌, map, cond}
use Rattle.std.proofs.Common.{refl, arith, ap, ◌∙◌}
use Rattle.std.proofs.lemmas.Bool.{eq-eqb, ltb-true}
use Rattle.std.proofs.lemmas.Bool.Decides.{nat_tests}
use Rattle.std.proofs.lemmas.List.Sums.{sum_by-cons}
use Rattle.std.specs.List.{sum_by}
use Rattle.league.specs.Counts.{Counts, slot_count, slots_of, teams_of}
use Rattle.league.specs.Structure.{IsPlayedOnce}
use Rattle.league.specs.Venues.{away_games, home_games}
use Rattle.league.proofs.RangeLemmas.{one_if}
use Rattle.league.proofs.SumLemmas.{sum_by-add, sum_by-map}
use Rattle.league.proofs.OneTermLemmas.{sum_by-swap}
use Rattle.rows.specs.Cardinality.{exactly}
use Rattle.rows.specs.Literals.{Literal, yes}
use Rattle.rows.specs.Rows.{is_true}
use Rattle.rows.specs.Tests.{all_satisfied, satisfied, true_count}
use Rattle.rows.proofs.ListLemmas.{list_all-flat_map, list_all-range, sum_by-agree}
use Rattle.rows.proofs.TestLemmas.{satisfied-exactly}
use Rattle.encoding.specs.Lists.{at_home_in}
use Rattle.encoding.specs.Season.{slot_rows, team_rows}
use Rattle.encoding.specs.Variables.{h_var}
use Rattle.decoding.specs.Mirrors.{Mirrors}
use Rattle.decoding.proofs.MeetingLists.{teams_of-fit}
use Rattle.decoding.proofs.SeasonLaws.{PlaysOthers, slots_of-fit}
use Rattle.decoding.proofs.VenueLaws.{sum_by-ones, sum_by-others_of}

-- no terms but zeros
sum_by-zeros : {X : Type 0} (xs : List X) → sum_by (λ x. 0) xs ≡ 0
sum_by-zeros [] = refl
sum_by-zeros {X} (x ∷ xs) = let zero_of : X → ℕ = λ y. 0 in omega (arith, sum_by-cons zero_of x xs, sum_by-zeros xs)

-- the teams at home in a slot
home_teams : (n : ℕ) (m : Counts) (values : ℕ → Bool) (s : ℕ) → Mirrors n m values → s < slot_count n →
    true_count values (map (λ i. yes (h_var n i s)) (teams_of n)) ≡ sum_by (λ i. home_games n m i s) (teams_of n)
home_teams n m values s mirrors slot =
    let one : Literal → ℕ = λ l. cond (is_true values l) 1 0 in
    sum_by-map one (λ i. yes (h_var n i s)) (teams_of n)
    ∙ sum_by-agree (λ i. nat_lt i n) (λ i. one (yes (h_var n i s))) (λ i. home_games n m i s)
    (λ i team. mirrors.home i s (ltb-true i n team) slot) (teams_of n) (teams_of-fit n)

-- in a slot, all teams at home and all away are all teams, and each game has one of both
half_at_home : (n : ℕ) (phased : Bool) (m : Counts) (s : ℕ) → IsPlayedOnce n phased m → s < slot_count n →
    sum_by (λ i. home_games n m i s) (teams_of n) + sum_by (λ i. home_games n m i s) (teams_of n) ≡ n
half_at_home n phased m s once slot =
    let home : ℕ → ℕ = λ i. home_games n m i s in
    let away : ℕ → ℕ = λ i. away_games n m i s in
    omega (
      arith,
      sum_by-add home away (teams_of n),
      sum_by-agree (λ i. nat_lt i n) (λ i. home i + away i) (λ i. 1)
          (λ i team. once.cells i s (ltb-true i n team) slot) (teams_of n) (teams_of-fit n),
      sum_by-ones 0 n,
      sum_by-swap (λ i j. m i j s) (teams_of n) (teams_of n),
    )

-- group 5
pub slot_rows-met : (n : ℕ) (phased : Bool) (m : Counts) (values : ℕ → Bool) → Mirrors n m values →
    IsPlayedOnce n phased m → all_satisfied values (slot_rows n) ≡ true
slot_rows-met n phased m values mirrors once =
    let at_home : ℕ → List Literal = λ s. map (λ i. yes (h_var n i s)) (teams_of n) in
    list_all-flat_map (satisfied values) (λ s. exactly (n / 2) (at_home s)) (slots_of n)
    ∙ list_all-range (λ s. all_satisfied values (exactly (n / 2) (at_home s))) 0 (slot_count n)
    (λ s from within.
    let slot : s < slot_count n = omega arith in
    let half : true_count values (at_home s) ≡ n / 2 =
    omega (arith, home_teams n m values s mirrors slot, half_at_home n phased m s once slot) in
    satisfied-exactly values (n / 2) (at_home s) ∙ eq-eqb (true_count values (at_home s)) (n / 2) half)

-- the slots in which a team is at home
home_slots : (n : ℕ) (m : Counts) (values : ℕ → Bool) (i : ℕ) → Mirrors n m values → i < n →
    true_count values (at_home_in n i (slots_of n)) ≡ sum_by (λ s. home_games n m i s) (slots_of n)
home_slots n m values i mirrors team =
    let one : Literal → ℕ = λ l. cond (is_true values l) 1 0 in
    sum_by-map one (λ s. yes (h_var n i s)) (slots_of n)
    ∙ sum_by-agree (λ s. nat_lt s (slot_count n)) (λ s. one (yes (h_var n i s))) (λ s. home_games n m i s)
    (λ s slot. mirrors.home i s team (ltb-true s (slot_count n) slot)) (slots_of n) (slots_of-fit n)

once_or_never : (i j count : ℕ) → (i ≢ j → count ≡ 1) → (j ≡ i → count ≡ 0) → count ≡ one_if (not (j == i))
once_or_never i j count once never = grind (arith, nat_tests)

-- a team is at home to each other team once
home_once : (n : ℕ) (phased : Bool) (m : Counts) (i : ℕ) → PlaysOthers n m → IsPlayedOnce n phased m → i < n →
    sum_by (λ s. home_games n m i s) (slots_of n) + 1 ≡ n
home_once n phased m i others once team =
    let season : ℕ → ℕ = λ j. sum_by (λ s. m i j s) (slots_of n) in
    let itself : season i ≡ 0 =
    sum_by-agree (λ s. nat_lt s (slot_count n)) (λ s. m i i s) (λ s. 0)
    (λ s slot. others i s team (ltb-true s (slot_count n) slot)) (slots_of n) (slots_of-fit n)
    ∙ sum_by-zeros (slots_of n) in
    omega (
      arith,
      sum_by-swap (λ s j. m i j s) (slots_of n) (teams_of n),
      sum_by-agree (λ j. nat_lt j n) season (λ j. one_if (not (j == i)))
          (λ j other. once_or_never i j (season j) (λ differ. omega
          (arith, once.meetings i j team (ltb-true j n other) differ)) (λ same. ap season same ∙ itself)) (teams_of n)
          (teams_of-fit n),
      sum_by-others_of n i team,
    )

-- group 6
pub team_rows-met : (n : ℕ) (phased : Bool) (m : Counts) (values : ℕ → Bool) → Mirrors n m values → PlaysOthers n m →
    IsPlayedOnce n phased m → all_satisfied values (team_rows n) ≡ true
team_rows-met n phased m values mirrors others once =
    list_all-flat_map (satisfied values) (λ i. exactly (n - 1) (at_home_in n i (slots_of n))) (teams_of n)
    ∙ list_all-range (λ i. all_satisfied values (exactly (n - 1) (at_home_in n i (slots_of n)))) 0 n
    (λ i from within.
    let team : i < n = omega arith in
    let half : true_count values (at_home_in n i (slots_of n)) ≡ n - 1 =
    omega (arith, home_slots n m values i mirrors team, home_once n phased m i others once team) in
    satisfied-exactly values (n - 1) (at_home_in n i (slots_of n)) ∙ eq-eqb
    (true_count values (at_home_in n i (slots_of n))) (n - 1) half)
