-- What a walk gives.
use Rattle.std.specs.Prelude.{◌≡◌}
use Rattle.std.specs.List.{All}
use Rattle.league.specs.Accepted as costs
use Rattle.league.specs.Counts.{Counts, counts_of}
use Rattle.league.specs.Instance.{Instance, IsGame}
use Rattle.league.specs.Order.{IsInOrder}
use Rattle.league.specs.Structure.{IsRoundRobin}
use Rattle.descent.specs.HardSum.{hard_sum}
use Rattle.descent.specs.declared.score.Score.{Score}
use Rattle.walk.specs.declared.best.Best.{Best}

-- what games cost in a league: the hard constraints, where a penalty of 0 counts as 1, and then the objective
abbrev pub league_score : Instance → Counts → Score
league_score league m = record { infeasibility = hard_sum 1 league m; objective = costs.objective league m }

-- the games are a double round robin of the league, in order, and the score is what they cost in it
pub record IsSeasonOf (league : Instance) (best : Best) : Type 0 where
  pub fit : All (IsGame league.n) best.games
  pub in_order : IsInOrder best.games
  pub round_robin : IsRoundRobin league.n league.phased (counts_of best.games)
  pub score : best.score ≡ league_score league (counts_of best.games)
