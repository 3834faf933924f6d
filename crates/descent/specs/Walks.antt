-- What a descent walks on.
use Rattle.std.specs.Prelude.{◌≡◌, ◌⊎◌, ℕ, ◌<◌, ◌≤◌, Bool, true, false, List, length, slice_index_or}
use Rattle.std.specs.List.{All}
use Rattle.league.specs.Counts.{Counts}
use Rattle.league.specs.Instance.{IsGame}
use Rattle.rule_core.specs.Table.{table_counts}
use Rattle.moves.specs.Moves.{moved}
use Rattle.moves.specs.Neighbours.{all_moves}
use Rattle.moves.specs.Round.{Edits, IsEdit, round_counts}
use Rattle.moves.specs.declared.swap.Swap.{Swap}
use Rattle.rule_core.specs.declared.rule.Entries.{Ghosts}
use Rattle.descent.specs.Tallies.{Tallied}
use Rattle.descent.specs.declared.weighted.Weighted.{Weighted}
use Rattle.descent.specs.Score.{IsCostly, score_on}
use Rattle.descent.specs.Settled.{IsLowering, IsSettled}
use Rattle.descent.specs.Trail.{IsTrail}
use Rattle.descent.specs.declared.score.Score.{Score}
use Rattle.descent.specs.declared.walk.Walk.{Walk}

-- no count is more than 1, and no team meets itself
pub record AreSingle (m : Counts) : Type 0 where
  pub most : (i j s : ℕ) → m i j s ≤ 1
  pub apart : (i s : ℕ) → m i i s ≡ 0

-- the games that a move takes out and puts in, all of them of the league
pub record IsFullEdit (n : ℕ) (m : Counts) (step : Swap) (edit : Edits) : Type 0 where
  pub change : IsEdit m (moved n m step) edit
  pub out_fit : All (IsGame n) edit.out
  pub into_fit : All (IsGame n) edit.into

-- the place of a move that lowers the score, whose edit this is
pub record IsFoundAt (n : ℕ) (phased : Bool) (score : Counts → Score) (m : Counts) (moves : List Swap) (edit : Edits)
    (place : ℕ) : Type 0 where
  pub within : place < length moves
  pub lowering : (d : Swap) → IsLowering n phased score m (slice_index_or moves place d)
  pub full : (d : Swap) → IsFullEdit n m (slice_index_or moves place d) edit

-- a walk knows the counts and all moves of a league of n teams
pub record IsWalkOn (n : ℕ) (m : Counts) (walk : Walk) : Type 0 where
  pub teams : walk.board.n ≡ n
  pub counts : round_counts walk.board ≡ m
  pub edit_for : walk.edit.n ≡ n
  pub listed : walk.moves.items ≡ all_moves n
  pub next_within : walk.next ≤ length walk.moves.items

-- What is known of some counts: where it is said that they are settled, they are. Else they cost something, and a move
-- lowers the score, unless the run may be stopped.
pub record Knows (n : ℕ) (phased : Bool) (score : Counts → Score) (m : Counts) (may_stop : Type 0) (said : Bool)
    : Type 0 where
  pub settled : said ≡ true → IsSettled n phased score m
  pub costly : said ≡ false → IsCostly (score m)
  pub lowers : said ≡ false → may_stop ⊎ (IsSettled n phased score m → ⊥)

-- the rules stay, and so do the games
pub record KeepsGames {R : Type 0} (old new : Tallied R) : Type 0 where
  pub weights : new.weights ≡ old.weights
  pub teams : new.table.n ≡ old.table.n
  pub counts : table_counts new.table ≡ table_counts old.table

-- so many moves were made, from these counts on by these rules, and the walk is on the tally's games
pub record IsDown {R : Type 0} (E : Ghosts R) (n : ℕ) (phases : Bool) (rules : List (Weighted R)) (first : Counts)
    (walk : Walk) (tally : Tallied R) (made : ℕ) : Type 0 where
  pub weights : tally.weights ≡ rules
  pub teams : tally.table.n ≡ n
  pub walks : IsWalkOn n (table_counts tally.table) walk
  pub phased : walk.board.phased ≡ phases
  pub trail : IsTrail n phases (score_on E rules) first walk.trail.list (table_counts tally.table)
  pub many : length walk.trail.list ≡ made
