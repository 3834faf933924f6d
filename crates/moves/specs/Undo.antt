-- Each legal move undoes itself.
use Rattle.std.specs.Prelude.{◌≡◌, ℕ, Bool}
use Rattle.league.specs.Counts.{Counts}
use Rattle.league.specs.Structure.{IsRoundRobin}
use Rattle.moves.specs.Moves.{IsLegal, IsOfLeague, moved}
use Rattle.moves.specs.declared.swap.Swap.{Swap}

-- after a move the same move is legal, and leads back
pub record IsUndone (n : ℕ) (phased : Bool) (m : Counts) (step : Swap) : Type 0 where
  pub legal : IsLegal n phased (moved n m step) step
  pub back : (i j s : ℕ) → moved n (moved n m step) step i j s ≡ m i j s

-- the law: each legal move of a round robin is undone so
abbrev pub LegalMovesUndo : Type 0
LegalMovesUndo =
    (n : ℕ) (phased : Bool) (m : Counts) (step : Swap)
    → IsRoundRobin n phased m
    → IsOfLeague n step
    → IsLegal n phased m step
    → IsUndone n phased m step
