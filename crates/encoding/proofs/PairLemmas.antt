-- How many pairs some teams have.
use Rattle.std.proofs.Common.{◌≡◌, ℕ, ◌-◌, ◌*◌, ◌/◌, ◌≤◌, List, length, arith}
use Rattle.std.proofs.lemmas.Nat.{mul-le}
use Rattle.league.specs.Meetings.{pairs_of}
use Rattle.league.proofs.MeetingLemmas.{half, pair_count}

pub length-pairs_of : (teams : List ℕ) → length teams * (length teams - 1) / 2 ≡ length (pairs_of teams)
length-pairs_of teams = half (length (pairs_of teams)) (length teams) (pair_count teams)

-- at most 40 teams have at most 780 pairs
pub pairs_few : (teams : List ℕ) → length teams ≤ 40 → length (pairs_of teams) ≤ 780
pairs_few teams few =
    omega (arith, length-pairs_of teams, mul-le (length teams) (length teams - 1) 40 39 few (omega arith))
