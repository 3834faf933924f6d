-- Rules with their kept entries, and what they cost.
use Rattle.std.specs.Prelude.{◌≡◌, ℕ, ◌*◌, ◌^◌, ◌<◌, ◌≤◌, true, if◌then◌else◌, List, [], length}
use Rattle.std.specs.List.{All, Contains, sum, sum_by}
use Rattle.league.specs.Counts.{Counts}
use Rattle.league.specs.declared.game.TeamId.{TeamId}
use Rattle.rule_core.specs.declared.rule.Entries.{Ghosts}
use Rattle.descent.specs.ByTeam.{GameRoom}
use Rattle.descent.specs.Tallies.{vector_on}
use Rattle.rule_core.specs.Table.{Table, table_counts}
use Rattle.descent.specs.declared.bench.Bench.{Bench}
use Rattle.descent.specs.declared.kept.Kept.{Kept}
use Rattle.descent.specs.declared.weigh.Sums.{Sums}

-- each team that a rule watches is one of these
abbrev pub HasWatched : {R : Type 0} → Ghosts R → R → List TeamId → Type 0
HasWatched E rule teams = (t : ℕ) → t < E.team_count rule → E.watched rule t ≡ true → Contains teams (record { 0 = t })

-- a rule of a league of n teams whose keys have room, with the teams that it watches and the sum of its entries
pub record IsReady {R : Type 0} (E : Ghosts R) (n room : ℕ) (k : Kept R) : Type 0 where
  pub teams : n ≡ E.team_count k.weighted.rule
  pub of_league : All (λ t. t.0 < n) k.watched.items
  pub watches : HasWatched E k.weighted.rule k.watched.items
  pub terms : length k.vector.items ≡ E.term_count k.weighted.rule
  pub sum_is : k.deviation ≡ sum k.vector.items
  pub small : k.deviation ≤ 2 ^ 64 * length k.vector.items
  pub few : length k.vector.items < 2 ^ 31
  pub penalty_fits : k.weighted.penalty < 2 ^ 32
  pub room_is : length k.vector.items ≤ room

-- the kept entries are those on these counts
abbrev pub IsExact : {R : Type 0} → Ghosts R → Counts → Kept R → Type 0
IsExact E m k = k.vector.items ≡ vector_on E m k.weighted.rule

-- what a hard rule costs, and 0 for a soft one
abbrev pub hard_cost : {R : Type 0} → Kept R → ℕ
hard_cost k = if k.weighted.hard then k.weighted.penalty * k.deviation else 0

-- what a soft rule costs, and 0 for a hard one
abbrev pub soft_cost : {R : Type 0} → Kept R → ℕ
soft_cost k = if k.weighted.hard then 0 else k.weighted.penalty * k.deviation

-- rules of a league of n teams, a clean bench with room for their keys, and what they cost
pub record AreReady {R : Type 0} (E : Ghosts R) (n : ℕ) (bench : Bench) (rules : List (Kept R)) (sums : Sums) : Type 0 where
  pub ready : All (IsReady E n bench.found.room) rules
  pub reach : All (λ k. E.reach_of k.weighted.rule ≤ bench.keys.room) rules
  pub few : sum_by (λ k. length k.vector.items) rules < 2 ^ 31
  pub clean : bench.found.list ≡ []
  pub infeasibility : sums.infeasibility ≡ sum_by hard_cost rules
  pub objective : sums.objective ≡ sum_by soft_cost rules

-- rules that are ready and whose entries are those on the counts, with a list of games for each team
pub record IsTallied {R : Type 0} (E : Ghosts R) (rules : List (Kept R)) (table : Table) (by_team : List GameRoom)
    (bench : Bench) (sums : Sums) : Type 0 where
  pub ready : AreReady E table.n bench rules sums
  pub teams : length by_team ≡ table.n
  pub room : All (λ l. 8 * table.n ≤ l.room) by_team
  pub exact : All (IsExact E (table_counts table)) rules
