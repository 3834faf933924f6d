use Rattle.season_misses.specs.Own.{own_games}
use Rattle.season_misses.proofs.ListLemmas.{mapped_more}
use Rattle.season_misses.proofs.season.TeamGames.of.Goals as goal

pub loop-team-preserved : goal.loop-team-preserved
loop-team-preserved c =
    mapped_more (own_games c.args.games.now) c.loop-team.team c.loop-team.lists.items _ c.in_ok-games_that_pass.field-0 c.loop-team.invariant c.in_ok-push.ensures.items c.in_ok-games_that_pass.ensures
