-- Where a walk stands, and what it keeps.
use Rattle.std.specs.Prelude.{◌≡◌, ◌≤◌, ◌*◌, ℕ, Bool, List, length, vec_capacity}
use Rattle.std.specs.List.{All}
use Rattle.league.specs.Counts.{Counts, counts_of}
use Rattle.league.specs.Instance.{Instance, IsGame}
use Rattle.league.specs.Structure.{IsRoundRobin}
use Rattle.league.specs.declared.game.Game.{Game}
use Rattle.moves.specs.Round.{round_counts}
use Rattle.descent.specs.Lower.{IsNoWorse}
use Rattle.descent.specs.declared.score.Score.{Score}
use Rattle.walk.specs.Walked.{league_score}
use Rattle.walk.specs.declared.best.Kept.{Kept}
use Rattle.walk.specs.declared.standing.Standing.{Standing}
use Rattle.walk.specs.declared.walker.Walker.{Walker}

-- a walk knows the counts of a league of n teams
pub record IsStandingOn (n : ℕ) (phased : Bool) (m : Counts) (standing : Standing) : Type 0 where
  pub teams : standing.board.n ≡ n
  pub phases : standing.board.phased ≡ phased
  pub counts : round_counts standing.board ≡ m
  pub edit_for : standing.edit.n ≡ n

-- the games of a double round robin, each as often as it is counted
pub record IsCopyOf (n : ℕ) (phased : Bool) (m : Counts) (games : List Game) : Type 0 where
  pub counts : counts_of games ≡ m
  pub fit : All (IsGame n) games
  pub few : length games ≤ 1600
  pub round_robin : IsRoundRobin n phased (counts_of games)

-- the games of a double round robin of n teams with what they cost, in a list with room for any other
pub record IsKept (n : ℕ) (phased : Bool) (cost : Counts → Score) (kept : Kept) : Type 0 where
  pub room : n * n ≤ vec_capacity kept.games
  pub few : length kept.games.items ≤ 1600
  pub fit : All (IsGame n) kept.games.items
  pub round_robin : IsRoundRobin n phased (counts_of kept.games.items)
  pub score : kept.score ≡ cost (counts_of kept.games.items)

-- a walk stands in a league, has room for its games, and has kept the best
pub record IsWalkerIn (league : Instance) (walker : Walker) : Type 0 where
  pub standing : IsStandingOn league.n league.phased (round_counts walker.standing.board) walker.standing
  pub room : league.n * league.n ≤ vec_capacity walker.games
  pub best : IsKept league.n league.phased (league_score league) walker.best

-- a walk in a league went on: its best games aren't worse than ones of a score, and it has at most so many moves left
pub record IsFurther (league : Instance) (score : Score) (left : ℕ) (after : Walker) : Type 0 where
  pub walker : IsWalkerIn league after
  pub no_worse : IsNoWorse after.best.score score
  pub fewer : after.left ≤ left

-- a walk in a league stands somewhere, with these best games and so many moves left
pub record IsElsewhere (league : Instance) (kept : Kept) (moves : ℕ) (after : Walker) : Type 0 where
  pub walker : IsWalkerIn league after
  pub best : after.best ≡ kept
  pub left : after.left ≡ moves

-- the best games that a walk kept aren't worse than those on which it stands
abbrev pub HasKeptHere : Instance → Walker → Type 0
HasKeptHere league walker =
    IsNoWorse walker.best.score (league_score league (round_counts walker.standing.board))

-- games from which a walk may start
pub record IsStartIn (league : Instance) (games : List Game) : Type 0 where
  pub fit : All (IsGame league.n) games
  pub round_robin : IsRoundRobin league.n league.phased (counts_of games)
