-- What holds of names at all times.
use Rattle.std.specs.Prelude.{◌≡◌, ℕ, List, length, map}
use Rattle.league.specs.Counts.{teams_of}
use Rattle.robinx.specs.Names.{Names, ArePlain, label_among}

-- the names may be printed, and these are the labels of the teams
pub record AreKept (names : Names) (labels : List (List ℕ)) : Type 0 where
  pub plain : ArePlain names
  pub called : labels ≡ map (label_among names.teams) (teams_of (length names.teams))
