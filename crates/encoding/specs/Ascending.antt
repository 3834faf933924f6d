-- Lists whose keys ascend: teams, slots, meetings and literals in their order.
use Rattle.std.specs.Prelude.{◌≡◌, ◌≢◌, ℕ, ◌+◌, ◌-◌, ◌*◌, ◌<◌, ◌≤◌, List, [], ◌∷◌}
use Rattle.std.specs.List.{All}
use Rattle.league.specs.Counts.{slot_count, slots_of, teams_of}
use Rattle.league.specs.Instance.{IsTeamCount}
use Rattle.league.specs.Meetings.{meetings_of}
use Rattle.encoding.specs.Variables.{place_beside}

-- the keys of the elements ascend strictly, from low on and below high
abbrev pub AscendsBy : {X : Type 0} → (X → ℕ) → ℕ → List X → ℕ → Type 0
AscendsBy key low [] high = low ≤ high
AscendsBy key low (x ∷ xs) high = (low ≤ key x) × AscendsBy key (key x + 1) xs high

-- teams of a league of n teams in ascending order
abbrev pub AreTeams : ℕ → List ℕ → Type 0
AreTeams n teams = AscendsBy (λ t. t) 0 teams n

-- slots of its season in ascending order
abbrev pub AreSlots : ℕ → List ℕ → Type 0
AreSlots n slots = AscendsBy (λ s. s) 0 slots (slot_count n)

-- a meeting of two different teams
pub record IsMeeting (n : ℕ) (p : ℕ × ℕ) : Type 0 where
  pub home : p.0 < n
  pub away : p.1 < n
  pub differ : p.0 ≢ p.1

-- the place of a meeting among all meetings
abbrev pub place_of : ℕ → ℕ × ℕ → ℕ
place_of n p = p.0 * (n - 1) + place_beside p.0 p.1

-- meetings in order of home team, then away team
pub record AreMeetings (n : ℕ) (meetings : List (ℕ × ℕ)) : Type 0 where
  pub fit : All (IsMeeting n) meetings
  pub ascend : AscendsBy (place_of n) 0 meetings (n * (n - 1))

-- the teams, slots and meetings of a season of n teams, listed
pub record IsListed (n : ℕ) (team_list slot_list : List ℕ) (meeting_list : List (ℕ × ℕ)) : Type 0 where
  pub count : IsTeamCount n
  pub teams : team_list ≡ teams_of n
  pub slots : slot_list ≡ slots_of n
  pub meetings : meeting_list ≡ meetings_of n
