use Rattle.std.proofs.Common.{◌≡◌, map}
use Rattle.std.specs.List.{range_with_len}
use Rattle.season_misses.specs.Own.{own_games}
use Rattle.season_misses.proofs.season.TeamGames.of.Given as goal

-- the games of the teams so far
abbrev pub invariant-loop-team : goal.invariant-loop-team
invariant-loop-team l = l.lists.items ≡ map (own_games l.games) (range_with_len 0 l.team)
