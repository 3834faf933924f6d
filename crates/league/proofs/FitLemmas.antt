-- What the tests of a fitting constraint mean.
use Rattle.std.proofs.Common.{◌≡◌, ℕ, ◌<◌, true, List, get_or, nat_lt}
use Rattle.std.proofs.lemmas.Bool.{ltb-true}
use Rattle.std.proofs.lemmas.List.Sums.{AllPass-from_list_all}
use Rattle.std.specs.List.{All, list_all}
use Rattle.std.specs.Ordering.{nat_cmp}
use Rattle.league.specs.Counts.{slot_count}
use Rattle.league.specs.Instance.{are_slots, are_teams}
use Rattle.league.specs.Sets.{IsAscending, ascends}
use Rattle.league.proofs.AscendingLemmas.{IsAscending-ascends, first_true, second_true}

-- each number is below a bound
all_below : (n : ℕ) (xs : List ℕ) → list_all (λ x. nat_lt x n) xs ≡ true → All (λ x. x < n) xs
all_below n xs h = λ k d within. ltb-true (get_or xs k d) n (AllPass-from_list_all (λ x. nat_lt x n) xs h k d within)

pub are_teams-below : (n : ℕ) (teams : List ℕ) → are_teams n teams ≡ true → All (λ t. t < n) teams
are_teams-below n teams h = all_below n teams (first_true (list_all (λ t. nat_lt t n) teams) (ascends nat_cmp teams) h)

pub are_teams-ascending : (n : ℕ) (teams : List ℕ) → are_teams n teams ≡ true → IsAscending nat_cmp teams
are_teams-ascending n teams h = IsAscending-ascends nat_cmp teams (second_true (list_all (λ t. nat_lt t n) teams) (ascends nat_cmp teams) h)

pub are_slots-below : (n : ℕ) (slots : List ℕ) → are_slots n slots ≡ true → All (λ s. s < slot_count n) slots
are_slots-below n slots h = all_below (slot_count n) slots (first_true (list_all (λ s. nat_lt s (slot_count n)) slots) (ascends nat_cmp slots) h)

pub are_slots-ascending : (n : ℕ) (slots : List ℕ) → are_slots n slots ≡ true → IsAscending nat_cmp slots
are_slots-ascending n slots h = IsAscending-ascends nat_cmp slots (second_true (list_all (λ s. nat_lt s (slot_count n)) slots) (ascends nat_cmp slots) h)
