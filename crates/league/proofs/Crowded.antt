-- A schedule of four teams that is no round robin: a game stands twice, a team plays up to two games in a slot and none
-- in another, and some teams never meet. In slot 0 team 0 is at home to team 1, twice. In slot 1 it is at home to 2,
-- and away to 3. In slot 2 it is away to 1. In slot 3 nobody plays. In slot 4 it is at home to 3, and away to 2. In
-- slot 5 it is away to 1, and at home to 2.
use Rattle.std.specs.Prelude.{[], ◌∷◌, List}
use Rattle.league.specs.Counts.{Counts, counts_of}
use Rattle.league.specs.declared.game.Game.{Game}
use Rattle.league.proofs.DoubleFour.{game}

abbrev pub crowd : List Game
crowd = game 0 1 0 ∷ game 0 1 0 ∷ game 0 2 1 ∷ game 3 0 1 ∷ game 1 0 2 ∷ game 0 3 4 ∷ game 2 0 4 ∷ game 1 0 5 ∷ game 0 2 5 ∷ []

abbrev pub crowded : Counts
crowded = counts_of crowd
