-- How many teams, slots and meetings a set of a league can have, and in what order they stand.
use Rattle.std.proofs.Common.{◌≡◌, ℕ, ◌-◌, ◌*◌, ◌≤◌, true, List, length, ap, sym, subst, ◌∙◌, arith}
use Rattle.std.proofs.lemmas.Nat.{mul-le}
use Rattle.std.specs.List.{All}
use Rattle.league.specs.Counts.{slot_count}
use Rattle.league.specs.Instance.{are_meetings, are_slots, are_teams}
use Rattle.league.specs.Meetings.{pairs_of}
use Rattle.encoding.specs.Ascending.{AreMeetings, place_of}
use Rattle.encoding.specs.Pairs.{IsPair}
use Rattle.encoding.proofs.AscendLemmas.{AscendsBy-few}
use Rattle.encoding.proofs.PairLemmas.{pairs_few}
use Rattle.encoding.proofs.MeetingOrder.{AreMeetings-from_test, AreSlots-from_test, AreTeams-from_test, pairs_of-in_order}

pub teams_few : (n : ℕ) (teams : List ℕ) → n ≤ 40 → are_teams n teams ≡ true → length teams ≤ 40
teams_few n teams small fit = omega (arith, AscendsBy-few (λ t. t) 0 teams n (AreTeams-from_test n teams fit))

pub slots_few : (n : ℕ) (slots : List ℕ) → n ≤ 40 → are_slots n slots ≡ true → length slots ≤ 78
slots_few n slots small fit =
    omega (arith, AscendsBy-few (λ s. s) 0 slots (slot_count n) (AreSlots-from_test n slots fit))

pub meetings_few : (n : ℕ) (meetings : List (ℕ × ℕ)) → n ≤ 40 → are_meetings n meetings ≡ true → length meetings ≤ 1560
meetings_few n meetings small fit =
    let are : AreMeetings n meetings = AreMeetings-from_test n meetings fit in
    omega (arith, AscendsBy-few (place_of n) 0 meetings (n * (n - 1)) are.ascend, mul-le n (n - 1) 40 39 small (omega arith))

-- the pairs of at most 40 teams are at most 780, each of an earlier team and a later one
pub pairs_fit : (n : ℕ) (teams ts : List ℕ) (pairs : List (ℕ × ℕ)) → are_teams n teams ≡ true → ts ≡ teams → pairs ≡ pairs_of ts → All (IsPair n) pairs
pairs_fit n teams ts pairs fit same are =
    subst (λ (ps : List (ℕ × ℕ)). All (IsPair n) ps) (sym (are ∙ ap pairs_of same))
    (λ k d lt. let is = pairs_of-in_order n 0 teams (AreTeams-from_test n teams fit) k d lt in record { order = is.0; within = is.1 })

pub pair_list_few : (n : ℕ) (teams ts : List ℕ) (pairs : List (ℕ × ℕ)) → n ≤ 40 → are_teams n teams ≡ true → ts ≡ teams → pairs ≡ pairs_of ts → length pairs ≤ 780
pair_list_few n teams ts pairs small fit same are =
    omega (arith, ap length (are ∙ ap pairs_of same), pairs_few teams (teams_few n teams small fit))
