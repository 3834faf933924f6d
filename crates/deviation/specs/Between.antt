-- The meetings of some teams with others, home team by home team.
use Rattle.std.specs.Prelude.{ℕ, Bool, ◌&&◌, ◌||◌, ◌==◌, not, if◌then◌else◌, List, map}
use Rattle.league.specs.Capacity.{is_between}
use Rattle.league.specs.Counts.{teams_of}
use Rattle.league.specs.Meetings.{others}
use Rattle.league.specs.Sets.{is_in}
use Rattle.league.specs.declared.class.Side.{Side}
use Rattle.league.specs.declared.class.Side.TheVariants.{H, A, Both}

-- the meetings of a home team
abbrev pub meetings_at_home : ℕ → ℕ → List (ℕ × ℕ)
meetings_at_home n i = map (λ j. (i, j)) (others i (teams_of n))

-- whether team i can be at home in a meeting of teams1 with teams2, where the side is that of teams1
abbrev pub can_host : Side → List ℕ → List ℕ → ℕ → Bool
can_host H teams1 teams2 i = is_in i teams1
can_host A teams1 teams2 i = is_in i teams2
can_host Both teams1 teams2 i = is_in i teams1 || is_in i teams2

-- how often the meeting of teams i and j is one of teams1 with teams2: once or never, and no team meets itself
abbrev pub counted : Side → List ℕ → List ℕ → ℕ → ℕ → ℕ
counted side teams1 teams2 i j = if not (j == i) && is_between side teams1 teams2 (i, j) then 1 else 0
