-- What a walk knows that leaves the first slots alone.
use Rattle.std.specs.Prelude.{◌≡◌, ℕ, ◌<◌, ◌≤◌, Bool, List, length, slice_index_or}
use Rattle.std.specs.List.{All, sum_by}
use Rattle.rule_core.specs.Table.{table_counts}
use Rattle.league.specs.Accepted.{IsAccepted, MeetsHard, objective}
use Rattle.league.specs.Counts.{Counts, counts_of}
use Rattle.league.specs.Instance.{IsGame}
use Rattle.league.specs.Order.{IsInOrder}
use Rattle.league.specs.declared.game.Game.{Game}
use Rattle.descent.specs.Walks.{IsFullEdit}
use Rattle.moves.specs.Moves.{times}
use Rattle.moves.specs.Neighbours.{all_moves}
use Rattle.moves.specs.Round.{Edits, edited, round_counts}
use Rattle.moves.specs.declared.swap.Swap.{Swap}
use Rattle.resume.specs.Kept.{Keeps}
use Rattle.rule_core.specs.declared.rule.Entries.{Ghosts}
use Rattle.descent.specs.League.{AreRulesOf}
use Rattle.descent.specs.Tallies.{Tallied, objective_on}
use Rattle.resume.specs.Changed.{IsAtMost, IsNearer, changed_on}
use Rattle.resume.specs.Nearing.{IsNearing}
use Rattle.resume.specs.declared.ground.Ground.{Ground}
use Rattle.resume.specs.declared.nearest.Nearest.{Nearest}
use Rattle.resume.specs.declared.old_plan.OldPlan.{OldPlan}
use Rattle.resume.specs.declared.kept_walk.Walk.{Walk}

-- how often some games stand among others, in all
abbrev pub times_in : Counts → List Game → ℕ
times_in m games = sum_by (times m) games

-- a ground has the games of a tally by the rules of the plan's league, on a board, and the counts of the old plan
pub record IsGround {R : Type 0} (E : Ghosts R) (ground : Ground) (tally : Tallied R) : Type 0 where
  pub rules : AreRulesOf E 1 ground.plan.league.now tally.weights
  pub table_teams : tally.table.n ≡ ground.plan.league.now.n
  pub board_teams : ground.board.n ≡ ground.plan.league.now.n
  pub phased : ground.board.phased ≡ ground.plan.league.now.phased
  pub counts : round_counts ground.board ≡ table_counts tally.table
  pub old_teams : ground.old.n ≡ ground.plan.league.now.n
  pub old : table_counts ground.old ≡ counts_of ground.plan.games.now
  pub fit : All (IsGame ground.plan.league.now.n) ground.plan.games.now

-- an edit leads to counts that meet each hard constraint, and it puts in more games of the plan than it takes out, or as
-- many at a lower cost
abbrev pub LeadsNearer : OldPlan → Counts → Edits → Type 0
LeadsNearer plan m edit =
    MeetsHard plan.league.now (edited m edit)
    × IsNearer (times_in (counts_of plan.games.now) edit.out) (objective plan.league.now (edited m edit))
    (times_in (counts_of plan.games.now) edit.into) (objective plan.league.now m)

-- a move betters a season on these counts by a plan
abbrev pub IsBetter : OldPlan → Counts → Swap → Type 0
IsBetter plan m step = IsNearing plan.league.now plan.k plan.games.now m step

-- a walk knows all moves of its league
pub record IsWalkOn {R : Type 0} (E : Ghosts R) (walk : Walk) (tally : Tallied R) : Type 0 where
  pub ground : IsGround E walk.ground tally
  pub listed : walk.moves.items ≡ all_moves walk.ground.plan.league.now.n
  pub edit_for : walk.edit.n ≡ walk.ground.plan.league.now.n
  pub next_within : walk.next ≤ length walk.moves.items

-- a walk knows all moves of the league of a plan, and a season by its counts
pub record IsWalkFrom (plan : OldPlan) (m : Counts) (walk : Walk) : Type 0 where
  pub same : walk.ground.plan ≡ plan
  pub board_teams : walk.ground.board.n ≡ plan.league.now.n
  pub phased : walk.ground.board.phased ≡ plan.league.now.phased
  pub counts : round_counts walk.ground.board ≡ m
  pub old_teams : walk.ground.old.n ≡ plan.league.now.n
  pub old : table_counts walk.ground.old ≡ counts_of plan.games.now
  pub listed : walk.moves.items ≡ all_moves plan.league.now.n
  pub edit_for : walk.edit.n ≡ plan.league.now.n
  pub next_within : walk.next ≤ length walk.moves.items

-- the place of a move that betters a season, whose edit this is
pub record IsFoundAt (plan : OldPlan) (m : Counts) (moves : List Swap) (edit : Edits) (place : ℕ) : Type 0 where
  pub within : place < length moves
  pub better : (d : Swap) → IsBetter plan m (slice_index_or moves place d)
  pub full : (d : Swap) → IsFullEdit plan.league.now.n m (slice_index_or moves place d) edit

-- a walk stands on a season that is accepted, keeps what the first counts have below slot k, and is no farther than they
-- are
pub record IsDown {R : Type 0} (E : Ghosts R) (plan : OldPlan) (first : Counts) (walk : Walk) (tally : Tallied R) : Type 0
  where
    pub walks : IsWalkOn E walk tally
    pub same : walk.ground.plan ≡ plan
    pub accepted : IsAccepted plan.league.now (table_counts tally.table)
    pub keeps : Keeps first plan.k (table_counts tally.table)
    pub no_farther : IsAtMost (changed_on plan.k plan.games.now (table_counts tally.table))
        (objective plan.league.now (table_counts tally.table)) (changed_on plan.k plan.games.now first)
        (objective plan.league.now first)

-- the season of a tally's games, in order, with what its soft rules cost, which is said to be settled or not
pub record IsSeasonOn {R : Type 0} (E : Ghosts R) (tally : Tallied R) (settled : Bool) (nearest : Nearest) : Type 0 where
  pub counts : counts_of nearest.schedule ≡ table_counts tally.table
  pub fit : All (IsGame tally.table.n) nearest.schedule
  pub in_order : IsInOrder nearest.schedule
  pub cost : nearest.objective ≡ objective_on E (table_counts tally.table) tally.weights
  pub said : nearest.settled ≡ settled
