-- Moves that leave the first slots of a season alone and lead to one nearer an old plan, and seasons that none betters.
use Rattle.std.specs.Prelude.{◌≡◌, ◌⊎◌, ℕ, true, false, List}
use Rattle.std.specs.List.{All}
use Rattle.league.specs.Accepted.{IsAccepted, objective}
use Rattle.league.specs.Counts.{Counts, counts_of}
use Rattle.league.specs.Instance.{Instance, IsGame}
use Rattle.league.specs.Order.{IsInOrder}
use Rattle.league.specs.declared.game.Game.{Game}
use Rattle.moves.specs.Moves.{IsLegal, IsOfLeague, moved}
use Rattle.moves.specs.declared.swap.Swap.{Swap}
use Rattle.resume.specs.Kept.{Keeps}
use Rattle.resume.specs.Changed.{IsAtMost, IsNearer, changed_on}
use Rattle.resume.specs.declared.nearest.Nearest.{Nearest}

-- a legal move that keeps the games below slot k, and leads to a season that the league accepts and that changes fewer
-- games of an old plan, or as many at a lower cost
pub record IsNearing (league : Instance) (k : ℕ) (old : List Game) (m : Counts) (step : Swap) : Type 0 where
  pub of_league : IsOfLeague league.n step
  pub legal : IsLegal league.n league.phased m step
  pub keeps : Keeps m k (moved league.n m step)
  pub accepted : IsAccepted league (moved league.n m step)
  pub nearer : IsNearer (changed_on k old (moved league.n m step)) (objective league (moved league.n m step))
      (changed_on k old m) (objective league m)

-- no single move does so, of whatever kind and of whatever teams and slots
abbrev pub IsNearest : Instance → ℕ → List Game → Counts → Type 0
IsNearest league k old m = (step : Swap) → IsNearing league k old m step → ⊥

-- Where a descent leads from some counts: to a season that is accepted, keeps the games below slot k and is no farther
-- from the old plan. Where it is said to be settled, no single move betters it; else one does, unless the run may be
-- stopped.
pub record IsEnd (league : Instance) (k : ℕ) (old : List Game) (may_stop : Type 0) (m : Counts) (end : Nearest) : Type 0
  where
    pub accepted : IsAccepted league (counts_of end.schedule)
    pub keeps : Keeps m k (counts_of end.schedule)
    pub fit : All (IsGame league.n) end.schedule
    pub in_order : IsInOrder end.schedule
    pub cost : end.objective ≡ objective league (counts_of end.schedule)
    pub no_farther : IsAtMost (changed_on k old (counts_of end.schedule)) end.objective (changed_on k old m)
        (objective league m)
    pub settled : end.settled ≡ true → IsNearest league k old (counts_of end.schedule)
    pub open_yet : end.settled ≡ false → may_stop ⊎ (IsNearest league k old (counts_of end.schedule) → ⊥)
