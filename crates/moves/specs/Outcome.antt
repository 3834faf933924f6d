-- What is answered of a move.
use Rattle.std.specs.Prelude.{◌≡◌, ℕ, Bool, true, false, ◌↔◌, [], IsTrue}
use Rattle.std.specs.List.{All}
use Rattle.league.specs.Counts.{Counts}
use Rattle.league.specs.Instance.{IsGame}
use Rattle.league.specs.Structure.{IsRoundRobin}
use Rattle.moves.specs.Moves.{IsLegal, moved}
use Rattle.moves.specs.Round.{AreApart, Edits, IsEdit}
use Rattle.moves.specs.declared.swap.Swap.{Swap}

-- true exactly where a change leads to a round robin, with the games that it takes out and puts in
pub record IsOutcome (n : ℕ) (phased : Bool) (before after : Counts) (result : Bool) (edit : Edits) : Type 0 where
  pub same_n : edit.n ≡ n
  pub legal : IsTrue result ↔ IsRoundRobin n phased after
  pub change : result ≡ true → IsEdit before after edit
  pub apart : AreApart edit
  pub fit : All (IsGame n) edit.into
  pub none : result ≡ false → (edit.out ≡ []) × (edit.into ≡ [])

-- true exactly where a move is legal, with the games that it takes out and puts in
pub record IsEditOf (n : ℕ) (phased : Bool) (m : Counts) (step : Swap) (result : Bool) (edit : Edits) : Type 0 where
  pub same_n : edit.n ≡ n
  pub legal : IsTrue result ↔ IsLegal n phased m step
  pub change : result ≡ true → IsEdit m (moved n m step) edit
  pub apart : AreApart edit
  pub fit : All (IsGame n) edit.into
  pub none : result ≡ false → (edit.out ≡ []) × (edit.into ≡ [])
