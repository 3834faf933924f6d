-- What holds of a season that is told: it is one of its league, with the names of all teams.
use Rattle.std.specs.Prelude.{◌≡◌, length, map}
use Rattle.std.specs.List.{All}
use Rattle.league.specs.Counts.{counts_of}
use Rattle.league.specs.Deviation.{vector_of}
use Rattle.league.specs.Instance.{IsGame}
use Rattle.league.specs.Order.{IsInOrder}
use Rattle.rule_core.specs.Table.{table_counts}
use Rattle.season_misses.specs.Own.{games_by_team}
use Rattle.season_misses.specs.declared.told.Told.{Told}

pub record IsTold (told : Told) : Type 0 where
  pub names : length told.names.now ≡ told.league.now.n
  pub fit : All (IsGame told.league.now.n) told.games.now
  pub in_order : IsInOrder told.games.now
  pub teams : told.cells.now.n ≡ told.league.now.n
  pub counted : table_counts told.cells.now ≡ counts_of told.games.now
  pub own : told.own.now ≡ games_by_team told.league.now.n told.games.now
  pub vectors : told.vectors.now
      ≡ map (λ c. vector_of told.league.now.n (counts_of told.games.now) c.class) told.league.now.constraints
